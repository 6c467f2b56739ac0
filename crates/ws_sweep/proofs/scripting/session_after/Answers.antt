-- A new session has taken nothing, and then it takes the bytes that the steps send.
use Rattle.std.proofs.Common.{◌∙◌, List, ℕ, [], subst}
use Rattle.ws_sweep.specs.InnerFronts.{IsSessionAfter}
use Rattle.ws_sweep.proofs.Sending.{after_more}
use Rattle.ws_sweep.proofs.scripting.session_after.Goals as goal

pub returns : goal.returns
returns c =
    let new : IsSessionAfter c.args.tested [] c.new-session.result = record {
      role = c.new-session.ensures.role;
      limits = c.new-session.ensures.limits ∙ c.largest.ensures;
      sent = [];
      agrees = c.new-session.ensures.exchanged;
    } in
    subst (λ (l : List ℕ). IsSessionAfter c.args.tested l c.pass.new.self)
    (c.deref.ensures.value ∙ c.in_ok-bytes.ensures)
    (after_more c.args.tested [] c.new-session.result c.pass.new.self _ _ new c.in_ok-pass.ensures.taken.1)
