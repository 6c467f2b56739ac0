-- What a call of the receiving side takes: of each thing that the check of the piece tells.
use Rattle.std.proofs.Common.{Option, Some, None, ap, subst}
use Rattle.ws_wire.specs.declared.role.Role.{Role}
use Rattle.ws_session.specs.declared.event.Event.{Event}
use Rattle.ws_session.specs.declared.event.Event.TheVariants as event
use Rattle.ws_session.specs.declared.replying.Replying.{Replying}
use Rattle.ws_session.specs.declared.receiver.piece_check.PieceCheck.{PieceCheck}
use Rattle.ws_session.specs.declared.receiver.piece_check.PieceCheck.TheVariants as piece_check
use Rattle.ws_session.specs.InnerContent as content
use Rattle.ws_session.specs.InnerReceiving.{IsPieceCheck}
use Rattle.ws_session.specs.InnerReceiver.{ReceiverValue, IsOwed, HasReceived, receiver_of, event_of_kept, opened_by, taking}
use Rattle.ws_session.specs.InnerTaking.{WantsRoom}
use Rattle.ws_session.proofs.ReceivedCalls.{receives_frame, receives_fault, frame_wants, fault_wants, as_role}
use Rattle.ws_session.proofs.Wants.{on_err}
use Rattle.ws_session.proofs.receiver.Receiver.take_part.Goals as goal

pub returns-in_ok-on_data-in-Whole-clause-takes : goal.returns-in_ok-on_data-in-Whole-clause-takes
returns-in_ok-on_data-in-Whole-clause-takes c =
    let i = c.self.inside in
    let v = c.args.self.now in
    let b = c.check_piece.new.assembly in
    let g = c.check_piece.new.frame in
    let piece = c.args.piece.now in
    let o : ReceiverValue = receiver_of i.role i.limits i.assembly i.frame in
    let n : ReceiverValue = receiver_of i.role i.limits b g in
    let r : Replying = record { role = v.role; status = c.args.status.now; answering = c.args.answering; key = c.args.key } in
    let found : IsPieceCheck i.role i.limits i.assembly i.frame b g piece c.check_piece.new.control (Some c.in-Some.check) = subst (λ (x : Option PieceCheck). IsPieceCheck i.role i.limits i.assembly i.frame b g piece c.check_piece.new.control x) c.in-Some.is c.in_ok-check.ensures.checked in
    let opened = c.in_ok-check.ensures.opened in
    let used = c.in-Whole.used in
    let x = content.Data c.in-Whole.fin c.in-Whole.kind c.in-Whole.text in
    let told : IsPieceCheck i.role i.limits i.assembly i.frame b g piece c.check_piece.new.control (Some (piece_check.Whole used c.in-Whole.fin c.in-Whole.kind c.in-Whole.text)) = subst (λ (y : PieceCheck). IsPieceCheck i.role i.limits i.assembly i.frame b g piece c.check_piece.new.control (Some y)) c.in-Whole.is found in
    let new = c.on_data.new.self in
    let before = c.args.out.now.items in
    let after = c.on_data.new.out.items in
    let e = event_of_kept n x in
    let came = c.in_ok-on_data-in-Whole.ensures in
    receives_frame o v c.self.view_is piece b g opened r used new before after x (record { used = used; event = c.on_data.new.room }) told.1
    (ap (λ (t : Option Event). taking used t) came.told)
    (subst (λ (role : Role). HasReceived (as_role role r) n new before after e (opened_by n x)) (ap (λ (w : ReceiverValue). w.role) c.self.view_is) came.received)

pub returns-in_err-on_data-in-Whole-clause-wants : goal.returns-in_err-on_data-in-Whole-clause-wants
returns-in_err-on_data-in-Whole-clause-wants c =
    let i = c.self.inside in
    let v = c.args.self.now in
    let b = c.check_piece.new.assembly in
    let g = c.check_piece.new.frame in
    let piece = c.args.piece.now in
    let o : ReceiverValue = receiver_of i.role i.limits i.assembly i.frame in
    let n : ReceiverValue = receiver_of i.role i.limits b g in
    let r : Replying = record { role = v.role; status = c.args.status.now; answering = c.args.answering; key = c.args.key } in
    let found : IsPieceCheck i.role i.limits i.assembly i.frame b g piece c.check_piece.new.control (Some c.in-Some.check) = subst (λ (x : Option PieceCheck). IsPieceCheck i.role i.limits i.assembly i.frame b g piece c.check_piece.new.control x) c.in-Some.is c.in_ok-check.ensures.checked in
    let opened = c.in_ok-check.ensures.opened in
    let used = c.in-Whole.used in
    let x = content.Data c.in-Whole.fin c.in-Whole.kind c.in-Whole.text in
    let told : IsPieceCheck i.role i.limits i.assembly i.frame b g piece c.check_piece.new.control (Some (piece_check.Whole used c.in-Whole.fin c.in-Whole.kind c.in-Whole.text)) = subst (λ (y : PieceCheck). IsPieceCheck i.role i.limits i.assembly i.frame b g piece c.check_piece.new.control (Some y)) c.in-Whole.is found in
    on_err c.from_residual-in_err-on_data-in-Whole.result (WantsRoom (IsOwed r) v piece) (frame_wants o v c.self.view_is piece b g opened (IsOwed r) used x told.1 c.in_err-on_data-in-Whole.ensures.owed)

pub returns-in_ok-on_fault-in-Fault-clause-takes : goal.returns-in_ok-on_fault-in-Fault-clause-takes
returns-in_ok-on_fault-in-Fault-clause-takes c =
    let i = c.self.inside in
    let v = c.args.self.now in
    let b = c.check_piece.new.assembly in
    let g = c.check_piece.new.frame in
    let piece = c.args.piece.now in
    let o : ReceiverValue = receiver_of i.role i.limits i.assembly i.frame in
    let n : ReceiverValue = receiver_of i.role i.limits b g in
    let r : Replying = record { role = v.role; status = c.args.status.now; answering = c.args.answering; key = c.args.key } in
    let found : IsPieceCheck i.role i.limits i.assembly i.frame b g piece c.check_piece.new.control (Some c.in-Some.check) = subst (λ (x : Option PieceCheck). IsPieceCheck i.role i.limits i.assembly i.frame b g piece c.check_piece.new.control x) c.in-Some.is c.in_ok-check.ensures.checked in
    let opened = c.in_ok-check.ensures.opened in
    let used = c.in-Fault.used in
    let reason = c.in-Fault.reason in
    let told : IsPieceCheck i.role i.limits i.assembly i.frame b g piece c.check_piece.new.control (Some (piece_check.Fault reason used)) = subst (λ (y : PieceCheck). IsPieceCheck i.role i.limits i.assembly i.frame b g piece c.check_piece.new.control (Some y)) c.in-Fault.is found in
    let new = c.on_fault.new.self in
    let before = c.args.out.now.items in
    let after = c.on_fault.new.out.items in
    let e = event.Failed reason in
    receives_fault o v c.self.view_is piece b g opened r used new before after reason (record { used = used; event = c.tell_fault.new.self }) c.check_piece.ensures.bytes told.1
    (ap (λ (t : Option Event). taking used t) c.tell_fault.ensures)
    (subst (λ (role : Role). HasReceived (as_role role r) n new before after e None) (ap (λ (w : ReceiverValue). w.role) c.self.view_is) c.in_ok-on_fault-in-Fault.ensures.received)

pub returns-in_err-on_fault-in-Fault-clause-wants : goal.returns-in_err-on_fault-in-Fault-clause-wants
returns-in_err-on_fault-in-Fault-clause-wants c =
    let i = c.self.inside in
    let v = c.args.self.now in
    let b = c.check_piece.new.assembly in
    let g = c.check_piece.new.frame in
    let piece = c.args.piece.now in
    let o : ReceiverValue = receiver_of i.role i.limits i.assembly i.frame in
    let n : ReceiverValue = receiver_of i.role i.limits b g in
    let r : Replying = record { role = v.role; status = c.args.status.now; answering = c.args.answering; key = c.args.key } in
    let found : IsPieceCheck i.role i.limits i.assembly i.frame b g piece c.check_piece.new.control (Some c.in-Some.check) = subst (λ (x : Option PieceCheck). IsPieceCheck i.role i.limits i.assembly i.frame b g piece c.check_piece.new.control x) c.in-Some.is c.in_ok-check.ensures.checked in
    let opened = c.in_ok-check.ensures.opened in
    let used = c.in-Fault.used in
    let reason = c.in-Fault.reason in
    let told : IsPieceCheck i.role i.limits i.assembly i.frame b g piece c.check_piece.new.control (Some (piece_check.Fault reason used)) = subst (λ (y : PieceCheck). IsPieceCheck i.role i.limits i.assembly i.frame b g piece c.check_piece.new.control (Some y)) c.in-Fault.is found in
    on_err c.from_residual-in_err-on_fault-in-Fault.result (WantsRoom (IsOwed r) v piece) (fault_wants o v c.self.view_is piece b g opened (IsOwed r) used reason c.check_piece.ensures.bytes told.1 c.in_err-on_fault-in-Fault.ensures.owed)
