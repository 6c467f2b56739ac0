-- The first of the rest is given.
use Rattle.std.proofs.Common.{◌≡◌, ◌∷◌, List, ap, arith, length, rules, subst}
use Rattle.std.proofs.lemmas.List.Elements.{All-head, All-tail}
use Rattle.std.specs.List.{All}
use Rattle.ws_scripts.specs.Scripts.{CanBeRun}
use Rattle.ws_scripts.specs.declared.script.Case.{Case}
use Rattle.wst_testing.proofs.RunnerLemmas.{list_gives}
use Rattle.wst_testing.proofs.runner.ListedCasesCaseSource.advance.Goals as goal

pub invariant_of-self : goal.invariant_of-self
invariant_of-self c =
    let e : c.self.inside.rest.now ≡ c.in-Some.case.now ∷ c.in-Some.rest.now = search rules in
    All-tail CanBeRun c.in-Some.case.now c.in-Some.rest.now
    (subst (λ (l : List Case). All CanBeRun l) e c.self.invariant)

pub returns-in-Some : goal.returns-in-Some
returns-in-Some c =
    let e : c.args.self.now.rest ≡ c.in-Some.case.now ∷ c.in-Some.rest.now = search rules in
    let there : c.self.inside.rest.now ≡ c.in-Some.case.now ∷ c.in-Some.rest.now = search rules in (
      All-head CanBeRun c.in-Some.case.now c.in-Some.rest.now
          (subst (λ (l : List Case). All CanBeRun l) there c.self.invariant),
      omega (arith, ap (λ (l : List Case). length l) e),
      λ start items gave. list_gives start c.args.self.now items c.in-Some.case.now c.in-Some.rest.now e gave,
    )
