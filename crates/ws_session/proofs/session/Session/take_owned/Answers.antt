-- The event that the room gives is the one that was left in it, which leaves the room; where none is told the room is
-- empty. Some exchange stands behind the session again.
use Rattle.std.proofs.Common.{◌≡◌, Option, None, subst, sym}
use Rattle.ws_session.specs.declared.event.Event.{Event}
use Rattle.ws_session.specs.declared.payload_room.EventKind.{EventKind}
use Rattle.ws_session.specs.Exchange.{SessionValue}
use Rattle.ws_session.specs.Taking.{HasTaken}
use Rattle.ws_session.specs.Memory.{WantsMemory}
use Rattle.ws_session.specs.Lent.{event_if_any, payload_in}
use Rattle.ws_session.specs.InnerInvariant.{reply_by}
use Rattle.ws_session.proofs.Calls.{call_of}
use Rattle.ws_session.proofs.SomeExchange.{after_takes}
use Rattle.ws_session.proofs.session.Session.take_owned.Goals as goal

pub returns-in_default-clause-memory : goal.returns-in_default-clause-memory
returns-in_default-clause-memory c = subst (λ (v : SessionValue). WantsMemory (reply_by c.args.answering) v c.args.piece.now) c.self.view_is c.in_default.ensures.memory

pub invariant_of-self-in_default-told : goal.invariant_of-self-in_default-told
invariant_of-self-in_default-told c =
    let e = c.take_by.ensures in
    let room = c.take_by.new.room in
    let empty : None ≡ room = subst (λ (k : Option EventKind). event_if_any k (payload_in room) ≡ room) c.in_default-told.is c.in-Ok.ensures.kind in
    (after_takes c.self.inside.state c.take_by.new.self c.take_by.result room (reply_by c.args.answering) (call_of c.args.piece.now c.args.key c.args.out.now.items c.take_by.new.out.items) (c.take_by.new.out.items ≡ c.args.out.now.items) c.self.invariant.0 e.taken e.over e.kept, sym empty)

pub returns-in_default-told-clause-taken : goal.returns-in_default-told-clause-taken
returns-in_default-told-clause-taken c =
    let call = call_of c.args.piece.now c.args.key c.args.out.now.items c.take_by.new.out.items in
    let used = c.in-Ok.field-0.used in
    let room = c.take_by.new.room in
    let empty : None ≡ room = subst (λ (k : Option EventKind). event_if_any k (payload_in room) ≡ room) c.in_default-told.is c.in-Ok.ensures.kind in
    subst (λ (v : SessionValue). HasTaken (reply_by c.args.answering) v c.take_by.new.self call (record { used = used; event = None })) c.self.view_is
    (subst (λ (t : Option Event). HasTaken (reply_by c.args.answering) c.self.inside.state c.take_by.new.self call (record { used = used; event = t })) (sym empty) c.in-Ok.ensures.taken)

pub invariant_of-self-2 : goal.invariant_of-self-2
invariant_of-self-2 c =
    let e = c.take_by.ensures in
    (after_takes c.self.inside.state c.take_by.new.self c.take_by.result c.take_by.new.room (reply_by c.args.answering) (call_of c.args.piece.now c.args.key c.args.out.now.items c.take_by.new.out.items) (c.take_by.new.out.items ≡ c.args.out.now.items) c.self.invariant.0 e.taken e.over e.kept, c.event-event.ensures.empty)

pub returns-clause-taken : goal.returns-clause-taken
returns-clause-taken c =
    let call = call_of c.args.piece.now c.args.key c.args.out.now.items c.take_by.new.out.items in
    let used = c.in-Ok.field-0.used in
    subst (λ (v : SessionValue). HasTaken (reply_by c.args.answering) v c.take_by.new.self call (record { used = used; event = c.event-event.result })) c.self.view_is
    (subst (λ (t : Option Event). HasTaken (reply_by c.args.answering) c.self.inside.state c.take_by.new.self call (record { used = used; event = t })) (sym c.event-event.ensures.told) c.in-Ok.ensures.taken)
