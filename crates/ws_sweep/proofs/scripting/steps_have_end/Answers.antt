-- The session has taken what the steps send, and its status tells whether that holds a close or a fault.
use Rattle.std.proofs.Common.{◌∙◌, ap}
use Rattle.ws_session.specs.Exchange.{is_over}
use Rattle.ws_sweep.proofs.Sending.{after_tells}
use Rattle.ws_sweep.proofs.scripting.steps_have_end.Goals as goal

pub returns : goal.returns
returns c =
    after_tells c.event_laws.ensures c.args.tested _ c.in_ok-session.session c.is_over.result c.in_ok-session.ensures
    (c.is_over.ensures ∙ ap is_over c.status.ensures)
