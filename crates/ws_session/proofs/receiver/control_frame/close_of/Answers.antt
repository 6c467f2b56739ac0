-- A whole close payload is right where it reads as a close, and else its first fault is the one that reading it tells.
use Rattle.std.proofs.Common.{length, sym, subst}
use Rattle.ws_session.specs.declared.reason.Reason.{Reason}
use Rattle.ws_session.specs.InnerChecking.{IsFirstInPayload}
use Rattle.ws_session.proofs.ControlPayloads.{close_fault, close_fine}
use Rattle.ws_session.proofs.receiver.control_frame.close_of.Goals as goal

pub returns-in-Ok : goal.returns-in-Ok
returns-in-Ok c = λ opened h opcode size.
    let e = c.read.ensures in
    close_fine opened h c.args.payload.now opcode size c.read.result e.read e.one_byte e.bad_code e.reason_not_text c.in-Ok.close c.in-Ok.is

pub returns-in-Err : goal.returns-in-Err
returns-in-Err c = λ opened h opcode size.
    let e = c.read.ensures in
    let f = close_fault opened h c.args.payload.now opcode size c.read.result e.read e.one_byte e.bad_code e.reason_not_text c.in-Err.fault c.in-Err.is in
    subst (λ (r : Reason). IsFirstInPayload opened h c.args.payload.now (length c.args.payload.now) r) (sym c.reason_of.ensures) f
