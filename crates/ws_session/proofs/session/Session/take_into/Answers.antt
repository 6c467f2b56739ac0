-- What is left in the room makes the event that is told, and is its payload.
use Rattle.std.proofs.Common.{Option, subst, sym}
use Rattle.ws_session.specs.declared.event.Event.{Event}
use Rattle.ws_session.specs.Replies.{reply_to}
use Rattle.ws_session.specs.Taking.{HasTaken}
use Rattle.ws_session.proofs.Calls.{call_of}
use Rattle.ws_session.proofs.session.Session.take_into.Goals as goal

pub returns-clause-taken : goal.returns-clause-taken
returns-clause-taken c =
    let call = call_of c.args.piece.now c.args.key c.args.out.now.items c.take_by.new.out.items in
    let used = c.in-Ok.taken.used in
    subst (λ (e : Option Event). HasTaken reply_to c.args.self.now c.take_by.new.self call (record { used = used; event = e })) (sym c.in-Ok.ensures.kind) c.in-Ok.ensures.taken
