-- An input that was read whole is shown as the capture that its text is.
use Rattle.std.proofs.Common.{inl, inr, refl, subst}
use Rattle.std.proofs.KnownBytes.{Keeps-refl}
use Rattle.ws_frame.specs.Devices.{watched}
use Rattle.ws_frame.specs.Watching.{inner_of}
use Rattle.ws_scripts.specs.declared.transcript.Transcript.{Transcript}
use Rattle.wst_commands.specs.Show.{AnswersShownCapture, TellsMarked}
use Rattle.wst_commands.proofs.CaptureStops.{stop_answered}
use Rattle.wst_commands.proofs.show.show_capture.Goals as goal

pub returns-in-Ok : goal.returns-in-Ok
returns-in-Ok g c =
    let (text, reads, is) = c.in-Ok.ensures in
    let output = watched g.W.Write.contents c.args.writer.now c.tell_marked.new.writer in
    inl (
      text,
      reads,
      inl (
        c.in-Ok.capture,
        is,
        subst (λ (t : Transcript). TellsMarked c.args.tested c.args.style t c.tell_marked.result output)
            c.transcript.ensures c.tell_marked.ensures,
      ),
    )

pub returns-in-Err : goal.returns-in-Err
returns-in-Err g c =
    let untouched = Keeps-refl (g.W.Write.contents (inner_of c.args.writer.now)) in
    stop_answered (AnswersShownCapture c.args.tested c.args.style) c.in-Err.stop c.ended_by.result _
    (watched g.W.Write.contents c.args.writer.now c.args.writer.now) c.in-Err.ensures untouched c.ended_by.ensures
    (λ fault text damages. inr (fault, damages, refl, untouched))
