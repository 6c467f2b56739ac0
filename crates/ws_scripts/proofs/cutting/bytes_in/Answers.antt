-- A frame has the bytes of its header and as many as its payload.
use Rattle.std.proofs.Common.{◌≡◌, ap, arith, length, refl, sym}
use Rattle.ws_wire.specs.Frame.{Frame, KeyedFrame, frame_bytes}
use Rattle.ws_wire.proofs.Frames.{length-frame_bytes}
use Rattle.ws_scripts.specs.Scripts.{step_bytes}
use Rattle.ws_scripts.specs.declared.script.Step.{Step}
use Rattle.ws_scripts.proofs.cutting.bytes_in.Goals as goal

pub returns-in-Frame : goal.returns-in-Frame
returns-in-Frame c =
    let f = c.in-Frame in
    let frame : Frame = record { fin = f.fin; rsv = f.rsv; opcode = f.opcode; payload = f.payload } in
    let x : KeyedFrame = record { frame = frame; key = c.args.key } in
    let bytes : length (step_bytes c.args.key c.args.step.now) ≡ length (frame_bytes x) =
    ap (λ (step : Step). length (step_bytes c.args.key step)) f.is in
    let header = c.header_len.ensures x (sym c.len-in-Frame.ensures) refl in
    omega (arith, c.saturating_add.ensures, c.len.ensures, header, length-frame_bytes x, bytes)
