-- What the receiving side takes is what the session takes, and its status goes on by what is told.
use Rattle.std.proofs.Common.{◌≡◌, ◌∙◌, false, length, Option, ap, sym, refl, subst, arith}
use Rattle.std.specs.Prelude.{unwrap_or}
use Rattle.ws_wire.specs.Header.{AreBytes}
use Rattle.ws_session.specs.declared.event.Event.{Event}
use Rattle.ws_session.specs.declared.event.Taken.{Taken}
use Rattle.ws_session.specs.declared.replying.Replying.{Replying}
use Rattle.ws_session.specs.declared.status.Status.{Status}
use Rattle.ws_session.specs.Exchange.{SessionValue, is_over}
use Rattle.ws_session.specs.Taking.{HasTaken}
use Rattle.ws_session.specs.Memory.{WantsMemory}
use Rattle.ws_session.specs.InnerInvariant.{CanAnswer, reply_by}
use Rattle.ws_session.specs.InnerReceiver.{session_with, status_by}
use Rattle.ws_session.specs.Lent.{payload_in}
use Rattle.ws_session.proofs.Calls.{call_of}
use Rattle.ws_session.proofs.Statuses.{none_told}
use Rattle.ws_session.proofs.ReceivedCalls.{taken_by, uses_some, wants_by}
use Rattle.ws_session.proofs.TakenPieces.{taken_over}
use Rattle.ws_session.proofs.session.state.State.take_by.Goals as goal

pub returns-then-is_over-clause-taken : goal.returns-then-is_over-clause-taken
returns-then-is_over-clause-taken c =
    let piece = c.args.piece.now in
    let v = c.args.self.now in
    let out = c.args.out.now.items in
    subst (λ (t : Option Event). HasTaken (reply_by c.args.answering) v v (call_of piece c.args.key out out) (record { used = length piece; event = t })) (sym c.requires.nothing)
    (taken_over (reply_by c.args.answering) _ _ (ap (λ (x : SessionValue). is_over x.status) (sym c.self.view_is) ∙ sym c.is_over.ensures ∙ c.if-is_over.true) (λ i. omega (arith, c.type_inv.piece i)) refl)

pub returns-in-Some-clause-taken : goal.returns-in-Some-clause-taken
returns-in-Some-clause-taken c =
    let i = c.self.inside in
    let piece = c.args.piece.now in
    let take = c.take in
    let before = c.args.out.now.items in
    let after = take.new.out.items in
    let call = call_of piece c.args.key before after in
    let r : Replying = record { role = i.receiver.role; status = i.status; answering = c.args.answering; key = c.args.key } in
    let sound = c.self.invariant.sound in
    let are : AreBytes piece = λ k. omega (arith, c.type_inv.piece k) in
    let can : CanAnswer c.args.answering i.sending = subst (λ (x : SessionValue). CanAnswer c.args.answering x.sending) (sym c.self.view_is) c.requires.can in
    let going : is_over i.status ≡ false = sym (c.if-is_over.ensures) in
    let taken : Taken = record { used = c.in-Ok.used; event = take.new.room } in
    let told = taken_by r i.receiver take.new.self refl going piece before after are i.sending can taken c.in-Ok.ensures.role c.in-Ok.ensures.limits c.in-Ok.ensures.takes in
    let status : status_by i.status take.new.room ≡ c.in-Some.status = ap (λ (o : Option Event). status_by i.status o) (sym c.kind-event.ensures) ∙ c.status_by_event.ensures i.status (payload_in take.new.room) ∙ ap (λ (o : Option Status). unwrap_or o i.status) c.in-Some.is in
    subst (λ (x : SessionValue). HasTaken (reply_by c.args.answering) x (session_with take.new.self i.sending c.in-Some.status) call taken) c.self.view_is
    (subst (λ (t : Status). HasTaken (reply_by c.args.answering) (session_with i.receiver i.sending i.status) (session_with take.new.self i.sending t) call taken) status told)

pub returns-in_default-clause-taken : goal.returns-in_default-clause-taken
returns-in_default-clause-taken c =
    let i = c.self.inside in
    let piece = c.args.piece.now in
    let take = c.take in
    let before = c.args.out.now.items in
    let after = take.new.out.items in
    let call = call_of piece c.args.key before after in
    let r : Replying = record { role = i.receiver.role; status = i.status; answering = c.args.answering; key = c.args.key } in
    let sound = c.self.invariant.sound in
    let are : AreBytes piece = λ k. omega (arith, c.type_inv.piece k) in
    let can : CanAnswer c.args.answering i.sending = subst (λ (x : SessionValue). CanAnswer c.args.answering x.sending) (sym c.self.view_is) c.requires.can in
    let going : is_over i.status ≡ false = sym (c.if-is_over.ensures) in
    let taken : Taken = record { used = c.in-Ok.used; event = take.new.room } in
    let told = taken_by r i.receiver take.new.self refl going piece before after are i.sending can taken c.in-Ok.ensures.role c.in-Ok.ensures.limits c.in-Ok.ensures.takes in
    let status : status_by i.status take.new.room ≡ i.status = ap (λ (o : Option Event). status_by i.status o) (sym c.kind-event.ensures) ∙ c.status_by_event.ensures i.status (payload_in take.new.room) ∙ ap (λ (o : Option Status). unwrap_or o i.status) c.in_default.is in
    subst (λ (x : SessionValue). HasTaken (reply_by c.args.answering) x (session_with take.new.self i.sending i.status) call taken) c.self.view_is
    (subst (λ (t : Status). HasTaken (reply_by c.args.answering) (session_with i.receiver i.sending i.status) (session_with take.new.self i.sending t) call taken) status told)

pub returns-then-not-tells-clause-taken : goal.returns-then-not-tells-clause-taken
returns-then-not-tells-clause-taken c =
    let i = c.self.inside in
    let piece = c.args.piece.now in
    let take = c.take in
    let before = c.args.out.now.items in
    let after = take.new.out.items in
    let call = call_of piece c.args.key before after in
    let r : Replying = record { role = i.receiver.role; status = i.status; answering = c.args.answering; key = c.args.key } in
    let sound = c.self.invariant.sound in
    let are : AreBytes piece = λ k. omega (arith, c.type_inv.piece k) in
    let can : CanAnswer c.args.answering i.sending = subst (λ (x : SessionValue). CanAnswer c.args.answering x.sending) (sym c.self.view_is) c.requires.can in
    let going : is_over i.status ≡ false = sym (c.if-is_over.ensures) in
    let taken : Taken = record { used = c.in-Ok.used; event = take.new.room } in
    let told = taken_by r i.receiver take.new.self refl going piece before after are i.sending can taken c.in-Ok.ensures.role c.in-Ok.ensures.limits c.in-Ok.ensures.takes in
    let status : status_by i.status take.new.room ≡ i.status = none_told i.status take.new.room (sym c.tells.ensures ∙ c.if-not-tells.true) in
    subst (λ (x : SessionValue). HasTaken (reply_by c.args.answering) x (session_with take.new.self i.sending i.status) call taken) c.self.view_is
    (subst (λ (t : Status). HasTaken (reply_by c.args.answering) (session_with i.receiver i.sending i.status) (session_with take.new.self i.sending t) call taken) status told)

pub returns-in-Some-clause-used : goal.returns-in-Some-clause-used
returns-in-Some-clause-used c =
    let i = c.self.inside in
    let piece = c.args.piece.now in
    let take = c.take in
    let before = c.args.out.now.items in
    let after = take.new.out.items in
    let call = call_of piece c.args.key before after in
    let r : Replying = record { role = i.receiver.role; status = i.status; answering = c.args.answering; key = c.args.key } in
    let sound = c.self.invariant.sound in
    let are : AreBytes piece = λ k. omega (arith, c.type_inv.piece k) in
    uses_some r i.receiver take.new.self piece before after (record { used = c.in-Ok.used; event = take.new.room }) sound.part c.in-Ok.ensures.takes

pub returns-in_default-clause-used : goal.returns-in_default-clause-used
returns-in_default-clause-used c =
    let i = c.self.inside in
    let piece = c.args.piece.now in
    let take = c.take in
    let before = c.args.out.now.items in
    let after = take.new.out.items in
    let call = call_of piece c.args.key before after in
    let r : Replying = record { role = i.receiver.role; status = i.status; answering = c.args.answering; key = c.args.key } in
    let sound = c.self.invariant.sound in
    let are : AreBytes piece = λ k. omega (arith, c.type_inv.piece k) in
    uses_some r i.receiver take.new.self piece before after (record { used = c.in-Ok.used; event = take.new.room }) sound.part c.in-Ok.ensures.takes

pub returns-in-Err-clause-memory : goal.returns-in-Err-clause-memory
returns-in-Err-clause-memory c =
    let i = c.self.inside in
    let piece = c.args.piece.now in
    let take = c.take in
    let before = c.args.out.now.items in
    let after = take.new.out.items in
    let call = call_of piece c.args.key before after in
    let r : Replying = record { role = i.receiver.role; status = i.status; answering = c.args.answering; key = c.args.key } in
    let sound = c.self.invariant.sound in
    let are : AreBytes piece = λ k. omega (arith, c.type_inv.piece k) in
    let can : CanAnswer c.args.answering i.sending = subst (λ (x : SessionValue). CanAnswer c.args.answering x.sending) (sym c.self.view_is) c.requires.can in
    let going : is_over i.status ≡ false = sym (c.if-is_over.ensures) in
    subst (λ (x : SessionValue). WantsMemory (reply_by c.args.answering) x piece) c.self.view_is (wants_by r i.receiver refl going piece are i.sending can sound.part c.in-Err.ensures.wants)
