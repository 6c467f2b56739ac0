-- A session that has taken what the steps send tells whether that has an end.
use Rattle.std.proofs.Common.{rules, ◌≡◌, ◌∙◌, List, ℕ, Option, ap, subst, sym}
use Rattle.ws_session.specs.Exchange.{is_over}
use Rattle.ws_scripts.specs.declared.script.Step.{Step}
use Rattle.ws_sweep.specs.declared.short_cases.Front.{Front}
use Rattle.ws_sweep.specs.InnerFronts.{IsFrontOf, IsSessionAfter}
use Rattle.ws_sweep.specs.ShortCases.{bytes_sent, short_steps}
use Rattle.ws_sweep.proofs.Sending.{after_tells}
use Rattle.ws_sweep.proofs.short_cases.front_has_end.Goals as goal

pub returns-clause-ends : goal.returns-clause-ends
returns-clause-ends c =
    let same : c.in-Some.known.now.places ≡ c.args.places.now = search rules in
    let after = subst (λ (f : Option Front). IsFrontOf c.args.tested c.args.key f) (sym c.in-Some.ensures.value)
    c.requires.front in
    let bytes = ap (λ (l : List ℕ). bytes_sent (short_steps c.args.tested l) c.args.key) same
    ∙ ap (λ (l : List Step). bytes_sent l c.args.key) (sym c.requires.steps) in
    after_tells c.event_laws.ensures c.args.tested _ c.in-Some.known.now.session c.is_over.result
    (subst (λ (l : List ℕ). IsSessionAfter c.args.tested l c.in-Some.known.now.session) bytes after)
    (c.is_over.ensures ∙ ap is_over c.status.ensures)

pub returns-2-clause-ends : goal.returns-2-clause-ends
returns-2-clause-ends c =
    after_tells c.event_laws.ensures c.args.tested _ _ _ c.in_ok-read.ensures.taken
    (c.is_over-has_end.ensures ∙ ap is_over c.status-2.ensures)
