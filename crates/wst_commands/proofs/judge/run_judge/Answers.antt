-- An input that was read whole is judged as the capture that its text is.
use Rattle.std.proofs.Common.{inl, inr, refl, subst}
use Rattle.std.proofs.KnownBytes.{Keeps-refl}
use Rattle.ws_frame.specs.Devices.{watched}
use Rattle.ws_frame.specs.Watching.{inner_of}
use Rattle.ws_scripts.specs.declared.transcript.Transcript.{Transcript}
use Rattle.wst_commands.specs.Judge.{AnswersCapture, TellsVerdict}
use Rattle.wst_commands.proofs.CaptureStops.{stop_answered}
use Rattle.wst_commands.proofs.judge.run_judge.Goals as goal

pub returns-in-Ok : goal.returns-in-Ok
returns-in-Ok g c =
    let (text, reads, is) = c.in-Ok.ensures in
    let output = watched g.W.Write.contents c.args.writer.now c.tell_verdict.new.writer in
    inl (
      text,
      reads,
      inl (
        c.in-Ok.capture,
        is,
        subst (λ (t : Transcript). TellsVerdict c.args.options t c.tell_verdict.result output) c.transcript.ensures
            c.tell_verdict.ensures,
      ),
    )

pub returns-in-Err : goal.returns-in-Err
returns-in-Err g c =
    let untouched = Keeps-refl (g.W.Write.contents (inner_of c.args.writer.now)) in
    stop_answered (AnswersCapture c.args.options) c.in-Err.stop c.ended_by.result _
    (watched g.W.Write.contents c.args.writer.now c.args.writer.now) c.in-Err.ensures untouched c.ended_by.ensures
    (λ fault text damages. inr (fault, damages, refl, untouched))
