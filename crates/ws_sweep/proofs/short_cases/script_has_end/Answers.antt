-- The steps before the last are those of their places: where they have an end, all have it, else the last one decides.
use Rattle.std.proofs.Common.{◌↔◌, List, ℕ, refl, subst, sym}
use Rattle.std.specs.Prelude.{IsTrue}
use Rattle.ws_scripts.specs.declared.script.Step.{Step}
use Rattle.ws_scripts.specs.Scripts.{FitHeaders}
use Rattle.ws_sweep.specs.ShortCases.{HasEnd, bytes_sent}
use Rattle.ws_sweep.proofs.Ends.{before_last, script_ends, with_last}
use Rattle.ws_sweep.proofs.Running.{fit_parts, steps_fit}
use Rattle.ws_sweep.proofs.short_cases.script_has_end.Goals as goal

pub front_has_end-requires-clause-fit : goal.front_has_end-requires-clause-fit
front_has_end-requires-clause-fit c =
    (fit_parts c.args.steps.now c.in-Some-split_last.first.now c.in-Some-split_last.last.now
    c.in-Some-split_last.ensures.cases.0
    (subst (λ (l : List Step). FitHeaders l) (sym c.requires.steps)
    (steps_fit c.args.tested c.args.places.now c.requires.places))).0

pub front_has_end-requires-clause-steps : goal.front_has_end-requires-clause-steps
front_has_end-requires-clause-steps c =
    before_last c.args.tested c.args.places.now c.in-Some.before.now c.in-Some._place.now c.args.steps.now
    c.in-Some-split_last.first.now c.in-Some-split_last.last.now c.requires.steps c.in-Some.ensures.cases.0
    c.in-Some-split_last.ensures.cases.0

pub front_has_end_with-requires-clause-fits : goal.front_has_end_with-requires-clause-fits
front_has_end_with-requires-clause-fits c =
    (fit_parts c.args.steps.now c.in-Some-split_last.first.now c.in-Some-split_last.last.now
    c.in-Some-split_last.ensures.cases.0
    (subst (λ (l : List Step). FitHeaders l) (sym c.requires.steps)
    (steps_fit c.args.tested c.args.places.now c.requires.places))).1

pub returns-then-branch-clause-ends : goal.returns-then-branch-clause-ends
returns-then-branch-clause-ends c = (
  λ is. script_ends c.end_laws.ensures c.args.tested c.args.key c.law_masking_key.ensures c.args.steps.now
      c.args.places.now c.in-Some.before.now c.in-Some._place.now c.requires.steps c.in-Some.ensures.cases.0
      (subst (λ (l : List Step). HasEnd c.args.tested (bytes_sent l c.args.key))
      (before_last c.args.tested c.args.places.now c.in-Some.before.now c.in-Some._place.now c.args.steps.now
      c.in-Some-split_last.first.now c.in-Some-split_last.last.now c.requires.steps c.in-Some.ensures.cases.0
      c.in-Some-split_last.ensures.cases.0)
      (c.in_ok-front_has_end.ensures.ends.0 c.if-branch.true)),
  λ end. refl,
)

pub returns-clause-ends : goal.returns-clause-ends
returns-clause-ends c =
    subst (λ (l : List ℕ). IsTrue c.in_ok-ends.ends ↔ HasEnd c.args.tested l)
    (with_last c.args.tested c.args.key c.args.places.now c.in-Some.before.now c.in-Some._place.now c.args.steps.now
    c.in-Some-split_last.first.now c.in-Some-split_last.last.now c.requires.steps c.in-Some.ensures.cases.0
    c.in-Some-split_last.ensures.cases.0)
    c.in_ok-ends.ensures.ends

pub steps_have_end-requires : goal.steps_have_end-requires
steps_have_end-requires c =
    subst (λ (l : List Step). FitHeaders l) (sym c.requires.steps)
    (steps_fit c.args.tested c.args.places.now c.requires.places)
