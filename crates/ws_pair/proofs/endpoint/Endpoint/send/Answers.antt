-- A frame sent or refused at an end of a link is the move of a send there, with this answer and this end after it.
use Rattle.std.proofs.Common.{refl}
use Rattle.ws_session.specs.Sends.{send_of}
use Rattle.ws_pair.proofs.Acting.{after_call, send_moved}
use Rattle.ws_pair.proofs.endpoint.Endpoint.send.Goals as goal

pub returns : goal.returns
returns c = λ limits link side is peers.
    send_moved c.session_laws.ensures limits link side (send_of c.args.frame.now) c.args.key c.args.self.now (after_call c.args.self.now c.send-sent.new.self c.send-sent.new.out) is peers c.send-sent.result c.in_ok-answer.answer
    (record { done = c.send-sent.ensures.sent; refused = c.send-sent.ensures.refused; kept = c.send-sent.ensures.kept; text = c.send-sent.ensures.text; reached = refl; delivered = refl; is_cut = refl }) c.in_ok-answer.ensures
