-- How a run ends whose input gave no capture.
use Rattle.std.proofs.Common.{◌≡◌, ℕ, List, Result, Err, inl, inr, subst, sym}
use Rattle.ws_frame.specs.Devices.{Device, IsUntouched}
use Rattle.ws_scripts.specs.Captures.{DamagesCapture}
use Rattle.ws_scripts.specs.Captures2.{IsAnyCaptureOf}
use Rattle.ws_scripts.specs.declared.capture.CaptureFault.{CaptureFault}
use Rattle.wst_commands.specs.Judge.{capture_fault}
use Rattle.wst_commands.specs.ReadingCapture.{FailsCapture, ended_by}
use Rattle.wst_commands.specs.ReadingWhole.{AnswersInput}
use Rattle.wst_commands.specs.declared.exit.Exit.{Exit}
use Rattle.wst_commands.specs.declared.fault.Fault.{Fault as CommandFault}
use Rattle.wst_commands.specs.declared.reading_capture.CaptureStop.{CaptureStop}
use Rattle.wst_commands.specs.declared.reading_capture.CaptureStop.TheVariants.{Fault, Stop}

-- the reading stopped, or a text that is no capture is answered so
pub stop_answered : (Answers : List ℕ → Result Exit CommandFault → Device → Type 0) (stop : CaptureStop)
    (ended : Result Exit CommandFault) (input output : Device) → FailsCapture stop input → IsUntouched output
    → ended ≡ ended_by stop
    → ((fault : CaptureFault) (text : List ℕ) → DamagesCapture IsAnyCaptureOf fault text
    → Answers text (Err (capture_fault fault)) output)
    → AnswersInput Answers ended input output
stop_answered Answers (Stop stop) ended input output fails untouched e give = inr (stop, fails, e, untouched)
stop_answered Answers (Fault fault) ended input output (text, reads, damages, names) untouched e give =
    inl (text, reads, subst (λ (r : Result Exit CommandFault). Answers text r output) (sym e) (give fault text damages))
