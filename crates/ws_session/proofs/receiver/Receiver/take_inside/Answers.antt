-- A piece inside the payload of a data frame goes on with the frame; where something is wrong with the text, what was put
-- is cut off again and all is as before.
use Rattle.std.proofs.Common.{◌≡◌, ◌∙◌, ◌+◌, ◌++◌, length, Option, Some, None, ap, sym, subst, arith}
use Rattle.ws_wire.specs.Header.{AreBytes}
use Rattle.ws_session.specs.declared.message.Message.{Message}
use Rattle.ws_session.specs.declared.receiver.under_way.UnderWay.{UnderWay}
use Rattle.ws_session.specs.declared.receiver.under_way.UnderWay.TheVariants as under_way
use Rattle.ws_session.specs.declared.receiver.piece_check.PieceCheck.{PieceCheck}
use Rattle.ws_session.specs.InnerFrameCheck as check
use Rattle.ws_session.specs.InnerNextFrame.{IsPartOfFrame}
use Rattle.ws_session.specs.InnerReceiving.{IsUnderWay, IsDataCheck, IsFrameCheck, HasNewData, partial_of, came_of}
use Rattle.ws_session.specs.InnerReceiver.{ReceiverValue, receiver_of, IsReceiving, IsSoundReceiver}
use Rattle.ws_session.proofs.ByteLists.{bytes_append}
use Rattle.ws_session.proofs.Exact.{cut_receives, need_receives, room_data, shown_sound}
use Rattle.ws_session.proofs.Pieces.{none_open, piece_of_data, same_partial, still_data, more_data, told_text}
use Rattle.ws_session.proofs.ReceivedCalls.{goes_on}
use Rattle.ws_session.proofs.Wants.{on_err}
use Rattle.ws_session.proofs.receiver.Receiver.take_inside.Goals as goal

pub check_data-requires-clause-begins : goal.check_data-requires-clause-begins
check_data-requires-clause-begins c =
    let role = c.self.inside.role in
    let limits = c.self.inside.limits in
    let a = c.self.inside.assembly in
    let frame = c.self.inside.frame in
    let h = c.in-Data.header in
    let came = c.in-Data.came in
    let piece = c.args.piece.now in
    let u : IsUnderWay role limits a (under_way.Data h came) = subst (λ (f : UnderWay). IsUnderWay role limits a f) c.in-Data.is c.self.invariant.under_way in
    let k = u.kept in
    λ one. none_open role limits a.opened h k.1 k.2 one

pub invariant_of-self-in_err-check_data : goal.invariant_of-self-in_err-check_data
invariant_of-self-in_err-check_data c =
    let role = c.self.inside.role in
    let limits = c.self.inside.limits in
    let a = c.self.inside.assembly in
    let frame = c.self.inside.frame in
    let h = c.in-Data.header in
    let came = c.in-Data.came in
    let piece = c.args.piece.now in
    let u : IsUnderWay role limits a (under_way.Data h came) = subst (λ (f : UnderWay). IsUnderWay role limits a f) c.in-Data.is c.self.invariant.under_way in
    let b = c.check_data.new.assembly in
    let e = c.check_data.ensures in
    let held = under_way.Data h came in
    let same : partial_of b held ≡ partial_of a held = same_partial role limits a h came u b e.opened e.first in
    let sound : IsSoundReceiver (receiver_of role limits a held) = subst (λ (f : UnderWay). IsSoundReceiver (receiver_of role limits a f)) c.in-Data.is c.self.invariant.sound in
    let receives : IsReceiving role limits b held = record {
      under_way = still_data role limits a h came u b e.opened c.in_err-check_data.ensures.text e.first e.kept e.joined;
      sound = shown_sound role limits a b held held sound e.opened same (room_data role limits a h came u b e.size);
    } in
    receives

pub returns-in_err-check_data-clause-refused : goal.returns-in_err-check_data-clause-refused
returns-in_err-check_data-clause-refused c =
    let role = c.self.inside.role in
    let limits = c.self.inside.limits in
    let a = c.self.inside.assembly in
    let frame = c.self.inside.frame in
    let h = c.in-Data.header in
    let came = c.in-Data.came in
    let piece = c.args.piece.now in
    let u : IsUnderWay role limits a (under_way.Data h came) = subst (λ (f : UnderWay). IsUnderWay role limits a f) c.in-Data.is c.self.invariant.under_way in
    let b = c.check_data.new.assembly in
    let e = c.check_data.ensures in
    let shown : partial_of b (under_way.Data h came) ≡ c.args.self.now.partial_frame = same_partial role limits a h came u b e.opened e.first ∙ ap (λ (f : UnderWay). partial_of a f) (sym c.in-Data.is) ∙ ap (λ (x : ReceiverValue). x.partial_frame) c.self.view_is in
    let count : came ≡ c.args.self.now.came = ap (λ (f : UnderWay). came_of f) (sym c.in-Data.is) ∙ ap (λ (x : ReceiverValue). x.came) c.self.view_is in
    on_err c.from_residual.result _ (shown, count)

pub returns-in_err-check_data-clause-sound : goal.returns-in_err-check_data-clause-sound
returns-in_err-check_data-clause-sound c =
    let role = c.self.inside.role in
    let limits = c.self.inside.limits in
    let a = c.self.inside.assembly in
    let frame = c.self.inside.frame in
    let h = c.in-Data.header in
    let came = c.in-Data.came in
    let piece = c.args.piece.now in
    let u : IsUnderWay role limits a (under_way.Data h came) = subst (λ (f : UnderWay). IsUnderWay role limits a f) c.in-Data.is c.self.invariant.under_way in
    let b = c.check_data.new.assembly in
    let e = c.check_data.ensures in
    let held = under_way.Data h came in
    let same : partial_of b held ≡ partial_of a held = same_partial role limits a h came u b e.opened e.first in
    let sound : IsSoundReceiver (receiver_of role limits a held) = subst (λ (f : UnderWay). IsSoundReceiver (receiver_of role limits a f)) c.in-Data.is c.self.invariant.sound in
    let receives : IsReceiving role limits b held = record {
      under_way = still_data role limits a h came u b e.opened c.in_err-check_data.ensures.text e.first e.kept e.joined;
      sound = shown_sound role limits a b held held sound e.opened same (room_data role limits a h came u b e.size);
    } in
    receives.sound

pub returns-in_err-check_data-clause-bytes : goal.returns-in_err-check_data-clause-bytes
returns-in_err-check_data-clause-bytes c =
    let i = c.self.inside in
    let piece = c.args.piece.now in
    on_err c.from_residual.result _ (subst (λ (x : ReceiverValue). AreBytes (x.partial_frame ++ piece)) c.self.view_is (bytes_append (partial_of i.assembly i.frame) piece c.self.invariant.under_way.bytes (λ n. omega (arith, c.type_inv.piece n))))

pub returns-in_err-check_data-clause-wants : goal.returns-in_err-check_data-clause-wants
returns-in_err-check_data-clause-wants c =
    let role = c.self.inside.role in
    let limits = c.self.inside.limits in
    let a = c.self.inside.assembly in
    let frame = c.self.inside.frame in
    let h = c.in-Data.header in
    let came = c.in-Data.came in
    let piece = c.args.piece.now in
    let u : IsUnderWay role limits a (under_way.Data h came) = subst (λ (f : UnderWay). IsUnderWay role limits a f) c.in-Data.is c.self.invariant.under_way in
    let wants = c.in_err-check_data.ensures.wants in
    let new = subst (λ (f : UnderWay). HasNewData role limits a.opened (length (partial_of a f)) (partial_of a f ++ piece)) (sym c.in-Data.is) (more_data role limits a h came piece u wants.1) in
    on_err c.from_residual.result _ (subst (λ (x : ReceiverValue). HasNewData x.role x.limits x.opened (length x.partial_frame) (x.partial_frame ++ piece)) c.self.view_is new)

pub invariant_of-self-in-Some : goal.invariant_of-self-in-Some
invariant_of-self-in-Some c =
    let role = c.self.inside.role in
    let limits = c.self.inside.limits in
    let a = c.self.inside.assembly in
    let frame = c.self.inside.frame in
    let h = c.in-Data.header in
    let came = c.in-Data.came in
    let piece = c.args.piece.now in
    let u : IsUnderWay role limits a (under_way.Data h came) = subst (λ (f : UnderWay). IsUnderWay role limits a f) c.in-Data.is c.self.invariant.under_way in
    let b = c.check_data.new.assembly in
    let e = c.check_data.ensures in
    let d = c.cut.ensures in
    let checked : IsDataCheck h came 0 (length piece) a b (Some c.in-Some.field-0) = subst (λ (x : Option PieceCheck). IsDataCheck h came 0 (length piece) a b x) c.in-Some.is c.in_ok-check_data.ensures.checked in
    let text = told_text a b h came 0 (length piece) c.in-Some.field-0 checked in
    cut_receives role limits a c.cut.new.self (d.opened ∙ e.opened) (d.text ∙ text) d.joined (under_way.Data h came)
    (subst (λ (f : UnderWay). IsReceiving role limits a f) c.in-Data.is c.self.invariant) (d.payload ∙ e.first)

pub invariant_of-self-2 : goal.invariant_of-self-2
invariant_of-self-2 c =
    let role = c.self.inside.role in
    let limits = c.self.inside.limits in
    let a = c.self.inside.assembly in
    let frame = c.self.inside.frame in
    let h = c.in-Data.header in
    let came = c.in-Data.came in
    let piece = c.args.piece.now in
    let u : IsUnderWay role limits a (under_way.Data h came) = subst (λ (f : UnderWay). IsUnderWay role limits a f) c.in-Data.is c.self.invariant.under_way in
    let b = c.check_data.new.assembly in
    let e = c.check_data.ensures in
    let next = under_way.Data h (came + length piece) in
    let are : AreBytes (partial_of a (under_way.Data h came) ++ piece) = bytes_append (partial_of a (under_way.Data h came)) piece u.bytes (λ i. omega (arith, c.type_inv.piece i)) in
    let checked : IsDataCheck h came 0 (length piece) a b None = subst (λ (x : Option PieceCheck). IsDataCheck h came 0 (length piece) a b x) c.in_default-2.is c.in_ok-check_data.ensures.checked in
    let is = piece_of_data role limits a h came u b piece (check.Need next b.text) are e.opened e.joined c.in_ok-check_data.ensures.payload checked in
    let sound = c.self.invariant.sound in
    let receives : IsReceiving role limits b next = need_receives role limits a b (length (partial_of a (under_way.Data h came))) (partial_of a (under_way.Data h came) ++ piece) next b.text e.opened sound.limit sound.size (room_data role limits a h came u b e.size) is in
    receives

pub returns-clause-goes_on : goal.returns-clause-goes_on
returns-clause-goes_on c =
    let role = c.self.inside.role in
    let limits = c.self.inside.limits in
    let a = c.self.inside.assembly in
    let frame = c.self.inside.frame in
    let h = c.in-Data.header in
    let came = c.in-Data.came in
    let piece = c.args.piece.now in
    let u : IsUnderWay role limits a (under_way.Data h came) = subst (λ (f : UnderWay). IsUnderWay role limits a f) c.in-Data.is c.self.invariant.under_way in
    let b = c.check_data.new.assembly in
    let e = c.check_data.ensures in
    let next = under_way.Data h (came + length piece) in
    let are : AreBytes (partial_of a (under_way.Data h came) ++ piece) = bytes_append (partial_of a (under_way.Data h came)) piece u.bytes (λ i. omega (arith, c.type_inv.piece i)) in
    let checked : IsDataCheck h came 0 (length piece) a b None = subst (λ (x : Option PieceCheck). IsDataCheck h came 0 (length piece) a b x) c.in_default-2.is c.in_ok-check_data.ensures.checked in
    let is = piece_of_data role limits a h came u b piece (check.Need next b.text) are e.opened e.joined c.in_ok-check_data.ensures.payload checked in
    let new = receiver_of role limits b next in
    let all = subst (λ (f : UnderWay). IsFrameCheck role limits b (length (partial_of a f)) (partial_of a f ++ piece) (check.Need next b.text)) (sym c.in-Data.is) is in
    λ yes. goes_on (receiver_of role limits a frame) c.args.self.now c.self.view_is piece new
    (subst (λ (m : Option Message). IsPartOfFrame role limits m (partial_of a frame ++ piece)) e.opened all.0) e.opened all.2

pub returns-clause-sound : goal.returns-clause-sound
returns-clause-sound c =
    let role = c.self.inside.role in
    let limits = c.self.inside.limits in
    let a = c.self.inside.assembly in
    let frame = c.self.inside.frame in
    let h = c.in-Data.header in
    let came = c.in-Data.came in
    let piece = c.args.piece.now in
    let u : IsUnderWay role limits a (under_way.Data h came) = subst (λ (f : UnderWay). IsUnderWay role limits a f) c.in-Data.is c.self.invariant.under_way in
    let b = c.check_data.new.assembly in
    let e = c.check_data.ensures in
    let next = under_way.Data h (came + length piece) in
    let are : AreBytes (partial_of a (under_way.Data h came) ++ piece) = bytes_append (partial_of a (under_way.Data h came)) piece u.bytes (λ i. omega (arith, c.type_inv.piece i)) in
    let checked : IsDataCheck h came 0 (length piece) a b None = subst (λ (x : Option PieceCheck). IsDataCheck h came 0 (length piece) a b x) c.in_default-2.is c.in_ok-check_data.ensures.checked in
    let is = piece_of_data role limits a h came u b piece (check.Need next b.text) are e.opened e.joined c.in_ok-check_data.ensures.payload checked in
    let sound = c.self.invariant.sound in
    let receives : IsReceiving role limits b next = need_receives role limits a b (length (partial_of a (under_way.Data h came))) (partial_of a (under_way.Data h came) ++ piece) next b.text e.opened sound.limit sound.size (room_data role limits a h came u b e.size) is in
    receives.sound
