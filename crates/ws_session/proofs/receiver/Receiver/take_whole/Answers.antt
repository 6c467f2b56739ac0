-- What a frame that lies whole in a piece gives: a ping, which is answered, a pong or a message.
use Rattle.std.proofs.Common.{◌≡◌, ◌≢◌, ◌++◌, ◌∷◌, [], ◌∙◌, length, List, ℕ, Option, Some, ap, subst, arith}
use Rattle.ws_wire.specs.declared.role.Role.{Role}
use Rattle.ws_wire.specs.Header.{AreBytes}
use Rattle.ws_session.specs.declared.event.Event.{Event}
use Rattle.ws_session.specs.declared.event.Event.TheVariants as event
use Rattle.ws_session.specs.declared.replying.Replying.{Replying}
use Rattle.ws_session.specs.declared.receiver.under_way.UnderWay.{UnderWay}
use Rattle.ws_session.specs.Faults.{IsControl}
use Rattle.ws_session.specs.Lent.{payload_in}
use Rattle.ws_session.specs.InnerMasked.{masked_from}
use Rattle.ws_session.specs.Replies.{control_frame}
use Rattle.ws_session.specs.InnerNextFrame.{due_at}
use Rattle.ws_session.specs.InnerReplying.{bytes_put}
use Rattle.ws_session.specs.InnerReceiving.{IsUnderWay}
use Rattle.ws_session.specs.InnerReceiver.{ReceiverValue, NotBegun, IsSoundReceiver, IsOwed, receiver_of}
use Rattle.ws_session.specs.InnerTaking.{WantsRoom}
use Rattle.ws_session.specs.InnerWhole.{TellsWhole}
use Rattle.ws_session.proofs.MaskedParts.{length-masked_from}
use Rattle.ws_session.proofs.Pieces.{short_control}
use Rattle.ws_session.proofs.ReceivedCalls.{as_role}
use Rattle.ws_session.proofs.Wants.{on_err}
use Rattle.ws_session.proofs.WholeFrames.{ping_received, ping_wants, pong_received, control_held, message_received, message_held, whole_wants}
use Rattle.ws_session.proofs.receiver.Receiver.take_whole.Goals as goal

pub tell_ping-requires-clause-short : goal.tell_ping-requires-clause-short
tell_ping-requires-clause-short c =
    let i = c.self.inside in
    let v = c.args.self.now in
    let piece = c.args.piece.now in
    let frame = c.in-Some.frame in
    let h = frame.header in
    let idle : i.frame ≡ NotBegun = c.has_begun.ensures c.if-has_begun.false in
    let view : receiver_of i.role i.limits i.assembly NotBegun ≡ v = subst (λ (f : UnderWay). receiver_of i.role i.limits i.assembly f ≡ v) idle c.self.view_is in
    let u : IsUnderWay i.role i.limits i.assembly NotBegun = subst (λ (f : UnderWay). IsUnderWay i.role i.limits i.assembly f) idle c.self.invariant.under_way in
    let are : AreBytes piece = λ k. omega (arith, c.type_inv.piece k) in
    let s = c.in-Some.ensures in
    let sound : IsSoundReceiver v = subst (λ (x : ReceiverValue). IsSoundReceiver x) c.self.view_is c.self.invariant.sound in
    let r : Replying = record { role = v.role; status = c.args.status.now; answering = c.args.answering; key = c.args.key } in
    let p = masked_from h.key 0 frame.payload.now in
    let control : IsControl h = (omega (arith, c.in-Ping.ensures), omega (arith, c.in-Ping.ensures)) in
    omega (arith, s.size, short_control i.role i.limits i.assembly.opened h s.none control)

pub reply-requires-clause-short : goal.reply-requires-clause-short
reply-requires-clause-short c =
    let i = c.self.inside in
    let v = c.args.self.now in
    let piece = c.args.piece.now in
    let frame = c.in-Some.frame in
    let h = frame.header in
    let idle : i.frame ≡ NotBegun = c.has_begun.ensures c.if-has_begun.false in
    let view : receiver_of i.role i.limits i.assembly NotBegun ≡ v = subst (λ (f : UnderWay). receiver_of i.role i.limits i.assembly f ≡ v) idle c.self.view_is in
    let u : IsUnderWay i.role i.limits i.assembly NotBegun = subst (λ (f : UnderWay). IsUnderWay i.role i.limits i.assembly f) idle c.self.invariant.under_way in
    let are : AreBytes piece = λ k. omega (arith, c.type_inv.piece k) in
    let s = c.in-Some.ensures in
    let sound : IsSoundReceiver v = subst (λ (x : ReceiverValue). IsSoundReceiver x) c.self.view_is c.self.invariant.sound in
    let r : Replying = record { role = v.role; status = c.args.status.now; answering = c.args.answering; key = c.args.key } in
    let p = masked_from h.key 0 frame.payload.now in
    let control : IsControl h = (omega (arith, c.in-Ping.ensures), omega (arith, c.in-Ping.ensures)) in
    let told : c.tell_ping.new.self ≡ Some (event.Ping p) = c.tell_ping.ensures ∙ ap (λ (k : Option (List ℕ)). Some (event.Ping (masked_from k 0 frame.payload.now))) c.key.ensures.value in
    omega (arith, ap (λ (l : List ℕ). length l) c.payload.ensures, ap (λ (t : Option Event). length (payload_in t)) told, length-masked_from h.key 0 frame.payload.now, s.size, short_control i.role i.limits i.assembly.opened h s.none control)

pub returns-in_ok-reply-in-Ping-clause-takes : goal.returns-in_ok-reply-in-Ping-clause-takes
returns-in_ok-reply-in-Ping-clause-takes c =
    let i = c.self.inside in
    let v = c.args.self.now in
    let piece = c.args.piece.now in
    let frame = c.in-Some.frame in
    let h = frame.header in
    let idle : i.frame ≡ NotBegun = c.has_begun.ensures c.if-has_begun.false in
    let view : receiver_of i.role i.limits i.assembly NotBegun ≡ v = subst (λ (f : UnderWay). receiver_of i.role i.limits i.assembly f ≡ v) idle c.self.view_is in
    let u : IsUnderWay i.role i.limits i.assembly NotBegun = subst (λ (f : UnderWay). IsUnderWay i.role i.limits i.assembly f) idle c.self.invariant.under_way in
    let are : AreBytes piece = λ k. omega (arith, c.type_inv.piece k) in
    let s = c.in-Some.ensures in
    let sound : IsSoundReceiver v = subst (λ (x : ReceiverValue). IsSoundReceiver x) c.self.view_is c.self.invariant.sound in
    let r : Replying = record { role = v.role; status = c.args.status.now; answering = c.args.answering; key = c.args.key } in
    let p = masked_from h.key 0 frame.payload.now in
    let control : IsControl h = (omega (arith, c.in-Ping.ensures), omega (arith, c.in-Ping.ensures)) in
    let told : c.tell_ping.new.self ≡ Some (event.Ping p) = c.tell_ping.ensures ∙ ap (λ (k : Option (List ℕ)). Some (event.Ping (masked_from k 0 frame.payload.now))) c.key.ensures.value in
    let put_is : c.payload.result.now ≡ p = c.payload.ensures ∙ ap (λ (t : Option Event). payload_in t) told in
    ping_received i.role i.limits i.assembly v view piece frame.payload.now h frame.used u are s r c.args.out.now.items c.reply.new.out.items c.tell_ping.new.self c.in-Ping.ensures told
    (subst (λ (role : Role). c.reply.new.out.items ≡ c.args.out.now.items ++ bytes_put (as_role role r) (control_frame 10 p ∷ [])) (ap (λ (w : ReceiverValue). w.role) c.self.view_is)
    (subst (λ (l : List ℕ). c.reply.new.out.items ≡ c.args.out.now.items ++ bytes_put (as_role i.role r) (control_frame 10 l ∷ [])) put_is c.in_ok-reply-in-Ping.ensures.put))

pub returns-in_ok-reply-in-Ping-clause-held : goal.returns-in_ok-reply-in-Ping-clause-held
returns-in_ok-reply-in-Ping-clause-held c =
    let i = c.self.inside in
    let v = c.args.self.now in
    let piece = c.args.piece.now in
    let frame = c.in-Some.frame in
    let h = frame.header in
    let idle : i.frame ≡ NotBegun = c.has_begun.ensures c.if-has_begun.false in
    let view : receiver_of i.role i.limits i.assembly NotBegun ≡ v = subst (λ (f : UnderWay). receiver_of i.role i.limits i.assembly f ≡ v) idle c.self.view_is in
    let u : IsUnderWay i.role i.limits i.assembly NotBegun = subst (λ (f : UnderWay). IsUnderWay i.role i.limits i.assembly f) idle c.self.invariant.under_way in
    let are : AreBytes piece = λ k. omega (arith, c.type_inv.piece k) in
    let s = c.in-Some.ensures in
    let sound : IsSoundReceiver v = subst (λ (x : ReceiverValue). IsSoundReceiver x) c.self.view_is c.self.invariant.sound in
    let r : Replying = record { role = v.role; status = c.args.status.now; answering = c.args.answering; key = c.args.key } in
    let p = masked_from h.key 0 frame.payload.now in
    let control : IsControl h = (omega (arith, c.in-Ping.ensures), omega (arith, c.in-Ping.ensures)) in
    let told : c.tell_ping.new.self ≡ Some (event.Ping p) = c.tell_ping.ensures ∙ ap (λ (k : Option (List ℕ)). Some (event.Ping (masked_from k 0 frame.payload.now))) c.key.ensures.value in
    control_held i.role i.limits i.assembly v view piece frame.payload.now h frame.used u are s control sound (payload_in c.tell_ping.new.self) (ap (λ (t : Option Event). payload_in t) told)

pub returns-in_err-reply-in-Ping-clause-wants : goal.returns-in_err-reply-in-Ping-clause-wants
returns-in_err-reply-in-Ping-clause-wants c =
    let i = c.self.inside in
    let v = c.args.self.now in
    let piece = c.args.piece.now in
    let frame = c.in-Some.frame in
    let h = frame.header in
    let idle : i.frame ≡ NotBegun = c.has_begun.ensures c.if-has_begun.false in
    let view : receiver_of i.role i.limits i.assembly NotBegun ≡ v = subst (λ (f : UnderWay). receiver_of i.role i.limits i.assembly f ≡ v) idle c.self.view_is in
    let u : IsUnderWay i.role i.limits i.assembly NotBegun = subst (λ (f : UnderWay). IsUnderWay i.role i.limits i.assembly f) idle c.self.invariant.under_way in
    let are : AreBytes piece = λ k. omega (arith, c.type_inv.piece k) in
    let s = c.in-Some.ensures in
    let sound : IsSoundReceiver v = subst (λ (x : ReceiverValue). IsSoundReceiver x) c.self.view_is c.self.invariant.sound in
    let r : Replying = record { role = v.role; status = c.args.status.now; answering = c.args.answering; key = c.args.key } in
    let p = masked_from h.key 0 frame.payload.now in
    let control : IsControl h = (omega (arith, c.in-Ping.ensures), omega (arith, c.in-Ping.ensures)) in
    let told : c.tell_ping.new.self ≡ Some (event.Ping p) = c.tell_ping.ensures ∙ ap (λ (k : Option (List ℕ)). Some (event.Ping (masked_from k 0 frame.payload.now))) c.key.ensures.value in
    let put_is : c.payload.result.now ≡ p = c.payload.ensures ∙ ap (λ (t : Option Event). payload_in t) told in
    on_err c.from_residual.result (WantsRoom (IsOwed r) v piece) (ping_wants i.role i.limits i.assembly v view piece frame.payload.now h frame.used u are s r c.in-Ping.ensures
    (subst (λ (l : List ℕ). due_at r.status (control_frame 10 l ∷ []) ≢ []) put_is c.in_err-reply-in-Ping.ensures.owed))

pub tell_pong-requires-clause-short : goal.tell_pong-requires-clause-short
tell_pong-requires-clause-short c =
    let i = c.self.inside in
    let v = c.args.self.now in
    let piece = c.args.piece.now in
    let frame = c.in-Some.frame in
    let h = frame.header in
    let idle : i.frame ≡ NotBegun = c.has_begun.ensures c.if-has_begun.false in
    let view : receiver_of i.role i.limits i.assembly NotBegun ≡ v = subst (λ (f : UnderWay). receiver_of i.role i.limits i.assembly f ≡ v) idle c.self.view_is in
    let u : IsUnderWay i.role i.limits i.assembly NotBegun = subst (λ (f : UnderWay). IsUnderWay i.role i.limits i.assembly f) idle c.self.invariant.under_way in
    let are : AreBytes piece = λ k. omega (arith, c.type_inv.piece k) in
    let s = c.in-Some.ensures in
    let sound : IsSoundReceiver v = subst (λ (x : ReceiverValue). IsSoundReceiver x) c.self.view_is c.self.invariant.sound in
    let r : Replying = record { role = v.role; status = c.args.status.now; answering = c.args.answering; key = c.args.key } in
    let p = masked_from h.key 0 frame.payload.now in
    let control : IsControl h = (omega (arith, c.in-Pong.ensures), omega (arith, c.in-Pong.ensures)) in
    omega (arith, s.size, short_control i.role i.limits i.assembly.opened h s.none control)

pub returns-in-Pong-clause-takes : goal.returns-in-Pong-clause-takes
returns-in-Pong-clause-takes c =
    let i = c.self.inside in
    let v = c.args.self.now in
    let piece = c.args.piece.now in
    let frame = c.in-Some.frame in
    let h = frame.header in
    let idle : i.frame ≡ NotBegun = c.has_begun.ensures c.if-has_begun.false in
    let view : receiver_of i.role i.limits i.assembly NotBegun ≡ v = subst (λ (f : UnderWay). receiver_of i.role i.limits i.assembly f ≡ v) idle c.self.view_is in
    let u : IsUnderWay i.role i.limits i.assembly NotBegun = subst (λ (f : UnderWay). IsUnderWay i.role i.limits i.assembly f) idle c.self.invariant.under_way in
    let are : AreBytes piece = λ k. omega (arith, c.type_inv.piece k) in
    let s = c.in-Some.ensures in
    let sound : IsSoundReceiver v = subst (λ (x : ReceiverValue). IsSoundReceiver x) c.self.view_is c.self.invariant.sound in
    let r : Replying = record { role = v.role; status = c.args.status.now; answering = c.args.answering; key = c.args.key } in
    let p = masked_from h.key 0 frame.payload.now in
    let control : IsControl h = (omega (arith, c.in-Pong.ensures), omega (arith, c.in-Pong.ensures)) in
    let told : c.tell_pong.new.self ≡ Some (event.Pong p) = c.tell_pong.ensures ∙ ap (λ (k : Option (List ℕ)). Some (event.Pong (masked_from k 0 frame.payload.now))) c.key-in-Pong.ensures.value in
    pong_received i.role i.limits i.assembly v view piece frame.payload.now h frame.used u are s r c.args.out.now.items c.tell_pong.new.self c.in-Pong.ensures told

pub returns-in-Pong-clause-held : goal.returns-in-Pong-clause-held
returns-in-Pong-clause-held c =
    let i = c.self.inside in
    let v = c.args.self.now in
    let piece = c.args.piece.now in
    let frame = c.in-Some.frame in
    let h = frame.header in
    let idle : i.frame ≡ NotBegun = c.has_begun.ensures c.if-has_begun.false in
    let view : receiver_of i.role i.limits i.assembly NotBegun ≡ v = subst (λ (f : UnderWay). receiver_of i.role i.limits i.assembly f ≡ v) idle c.self.view_is in
    let u : IsUnderWay i.role i.limits i.assembly NotBegun = subst (λ (f : UnderWay). IsUnderWay i.role i.limits i.assembly f) idle c.self.invariant.under_way in
    let are : AreBytes piece = λ k. omega (arith, c.type_inv.piece k) in
    let s = c.in-Some.ensures in
    let sound : IsSoundReceiver v = subst (λ (x : ReceiverValue). IsSoundReceiver x) c.self.view_is c.self.invariant.sound in
    let r : Replying = record { role = v.role; status = c.args.status.now; answering = c.args.answering; key = c.args.key } in
    let p = masked_from h.key 0 frame.payload.now in
    let control : IsControl h = (omega (arith, c.in-Pong.ensures), omega (arith, c.in-Pong.ensures)) in
    let told : c.tell_pong.new.self ≡ Some (event.Pong p) = c.tell_pong.ensures ∙ ap (λ (k : Option (List ℕ)). Some (event.Pong (masked_from k 0 frame.payload.now))) c.key-in-Pong.ensures.value in
    control_held i.role i.limits i.assembly v view piece frame.payload.now h frame.used u are s control sound (payload_in c.tell_pong.new.self) (ap (λ (t : Option Event). payload_in t) told)

pub returns-else-not-branch-clause-takes : goal.returns-else-not-branch-clause-takes
returns-else-not-branch-clause-takes c =
    let i = c.self.inside in
    let v = c.args.self.now in
    let piece = c.args.piece.now in
    let frame = c.in-Some.frame in
    let h = frame.header in
    let idle : i.frame ≡ NotBegun = c.has_begun.ensures c.if-has_begun.false in
    let view : receiver_of i.role i.limits i.assembly NotBegun ≡ v = subst (λ (f : UnderWay). receiver_of i.role i.limits i.assembly f ≡ v) idle c.self.view_is in
    let u : IsUnderWay i.role i.limits i.assembly NotBegun = subst (λ (f : UnderWay). IsUnderWay i.role i.limits i.assembly f) idle c.self.invariant.under_way in
    let are : AreBytes piece = λ k. omega (arith, c.type_inv.piece k) in
    let s = c.in-Some.ensures in
    let r : Replying = record { role = v.role; status = c.args.status.now; answering = c.args.answering; key = c.args.key } in
    let t : TellsWhole h frame.payload.now c.tell_message.new.room = c.in_ok-tell_message-in-Text.ensures.told c.if-not-branch.false in
    message_received i.role i.limits i.assembly v view piece frame.payload.now h frame.used u are s t.opcode.0 t.opcode.1 r c.args.out.now.items c.tell_message.new.room c.in-Plain.is t

pub returns-else-not-branch-clause-held : goal.returns-else-not-branch-clause-held
returns-else-not-branch-clause-held c =
    let i = c.self.inside in
    let v = c.args.self.now in
    let piece = c.args.piece.now in
    let frame = c.in-Some.frame in
    let h = frame.header in
    let idle : i.frame ≡ NotBegun = c.has_begun.ensures c.if-has_begun.false in
    let view : receiver_of i.role i.limits i.assembly NotBegun ≡ v = subst (λ (f : UnderWay). receiver_of i.role i.limits i.assembly f ≡ v) idle c.self.view_is in
    let u : IsUnderWay i.role i.limits i.assembly NotBegun = subst (λ (f : UnderWay). IsUnderWay i.role i.limits i.assembly f) idle c.self.invariant.under_way in
    let are : AreBytes piece = λ k. omega (arith, c.type_inv.piece k) in
    let s = c.in-Some.ensures in
    let t : TellsWhole h frame.payload.now c.tell_message.new.room = c.in_ok-tell_message-in-Text.ensures.told c.if-not-branch.false in
    message_held i.role i.limits i.assembly v view piece frame.payload.now h frame.used u are s t.opcode.0 t.opcode.1 (payload_in c.tell_message.new.room) (ap (λ (t : Option Event). payload_in t) t.is)

pub returns-in_err-tell_message-in-Text-clause-wants : goal.returns-in_err-tell_message-in-Text-clause-wants
returns-in_err-tell_message-in-Text-clause-wants c =
    let i = c.self.inside in
    let v = c.args.self.now in
    let piece = c.args.piece.now in
    let frame = c.in-Some.frame in
    let h = frame.header in
    let idle : i.frame ≡ NotBegun = c.has_begun.ensures c.if-has_begun.false in
    let view : receiver_of i.role i.limits i.assembly NotBegun ≡ v = subst (λ (f : UnderWay). receiver_of i.role i.limits i.assembly f ≡ v) idle c.self.view_is in
    let u : IsUnderWay i.role i.limits i.assembly NotBegun = subst (λ (f : UnderWay). IsUnderWay i.role i.limits i.assembly f) idle c.self.invariant.under_way in
    let are : AreBytes piece = λ k. omega (arith, c.type_inv.piece k) in
    let s = c.in-Some.ensures in
    let r : Replying = record { role = v.role; status = c.args.status.now; answering = c.args.answering; key = c.args.key } in
    let wanted = c.in_err-tell_message-in-Text.ensures.wants in
    on_err c.from_residual-in_err-tell_message-in-Text.result (WantsRoom (IsOwed r) v piece)
    (whole_wants i.role i.limits i.assembly v view piece frame.payload.now h frame.used u are s wanted.0.0 wanted.0.1 (IsOwed r) wanted.1)
