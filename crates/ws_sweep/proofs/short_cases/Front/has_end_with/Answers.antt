-- The copy has taken what the steps send, and takes what one more sends: so its status tells of all that.
use Rattle.std.proofs.Common.{◌∙◌, ◌++◌, List, ℕ, ap, subst, sym}
use Rattle.ws_session.specs.Exchange.{SessionValue, is_over}
use Rattle.ws_scripts.specs.Scripts.{step_bytes}
use Rattle.ws_sweep.specs.InnerFronts.{IsSessionAfter}
use Rattle.ws_sweep.proofs.Sending.{after_more, after_tells}
use Rattle.ws_sweep.proofs.short_cases.Front.has_end_with.Goals as goal

pub returns-clause-ends : goal.returns-clause-ends
returns-clause-ends c tested bytes after =
    let copied : IsSessionAfter tested bytes c.in_ok-session.session =
    subst (λ (v : SessionValue). IsSessionAfter tested bytes v) (sym c.in_ok-session.ensures.same) after in
    let more = after_more tested bytes c.in_ok-session.session c.pass.new.self _ _ copied c.in_ok-pass.ensures.taken.1 in
    let sent = c.deref.ensures.value ∙ (c.in_ok-append_step.ensures
    ∙ ap (λ (l : List ℕ). l ++ step_bytes c.args.key c.args.step.now) c.clear.ensures.items) in
    after_tells c.event_laws.ensures tested _ c.pass.new.self c.is_over.result
    (subst (λ (l : List ℕ). IsSessionAfter tested (bytes ++ l) c.pass.new.self) sent more)
    (c.is_over.ensures ∙ ap is_over c.status.ensures)
