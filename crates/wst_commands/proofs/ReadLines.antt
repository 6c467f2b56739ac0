-- An input that is read by two calls, one after the other, and what ends the reading.
use Rattle.std.specs.Prelude.{Option}
use Rattle.std.proofs.Common.{◌≡◌, Bool, List, ℕ, ◌++◌, subst, sym}
use Rattle.std.proofs.KnownBytes.{Consumes-trans}
use Rattle.std.specs.Io.KnownBytes.{Consumes}
use Rattle.ws_frame.specs.Devices.{Device}
use Rattle.ws_base.specs.declared.text_fault.TextFault.{TextFault}
use Rattle.ws_base.specs.declared.text_fault.TextFault.TheVariants as text_fault
use Rattle.ws_scripts.specs.Captures.{DamagesCapture}
use Rattle.ws_scripts.specs.Captures2.{IsAnyCaptureOf}
use Rattle.ws_scripts.specs.declared.capture.CaptureFault.{CaptureFault}
use Rattle.ws_scripts.specs.declared.capture.CaptureFault.TheVariants as capture_fault
use Rattle.wst_commands.specs.ReadingCapture.{FailsCapture, SpoilsCapture, StopsFeed, capture_stop}
use Rattle.wst_commands.specs.ReadingLines.{DamagesRead, FailsFeeding, FailsInput, input_fault}
use Rattle.wst_commands.specs.ReadingWhole.{ReadsAll, StopsReading}
use Rattle.wst_commands.specs.declared.reading_capture.CaptureStop.{CaptureStop}
use Rattle.wst_commands.specs.declared.reading_lines.InputFault.{InputFault}
use Rattle.wst_commands.specs.declared.reading_whole.ReadStop.{ReadStop}
use Rattle.wst_commands.specs.declared.reading_whole.ReadStop.TheVariants as stop

module _ (a b c : Option (List ℕ)) (read : List ℕ) (first : Consumes a b read) where
  -- the second stops
  pub further_stopped : (why : ReadStop) (failed : Bool) → StopsReading why (record { failed = failed; old = b; new = c })
      → StopsReading why (record { failed = failed; old = a; new = c })
  further_stopped stop.Fault failed ((rest, bytes), has) = ((read ++ rest, Consumes-trans a b c read rest first bytes), has)
  further_stopped stop.NoMemory failed ((rest, bytes), has) = ((read ++ rest, Consumes-trans a b c read rest first bytes), has)

  -- the second reads all that is left
  pub further_read : (rest : List ℕ) (failed : Bool) → ReadsAll rest (record { failed = failed; old = b; new = c })
      → ReadsAll (read ++ rest) (record { failed = failed; old = a; new = c })
  further_read rest failed h = record {
    bytes = Consumes-trans a b c read rest first h.bytes;
    all = h.all;
    works = h.works;
  }

-- ---- what ends the reading

feeding_ends : {T : Type 0} (IsLineOf : T → List ℕ → Type 0) (fault : TextFault) (input : Device)
    → DamagesRead IsLineOf fault input → FailsFeeding IsLineOf (input_fault fault) input
feeding_ends IsLineOf (text_fault.Damaged number) input d = (d, tt)
feeding_ends IsLineOf text_fault.NoMemory input d = ((d.read, d.bytes), d.works)

-- a fault of what was fed: a damaged line, or want of memory, at which the reading stops
pub feeding_ended : {T : Type 0} (IsLineOf : T → List ℕ → Type 0) (fault : TextFault) (told : InputFault)
    (input : Device) → told ≡ input_fault fault → DamagesRead IsLineOf fault input → FailsFeeding IsLineOf told input
feeding_ended IsLineOf fault told input e d =
    subst (λ (f : InputFault). FailsFeeding IsLineOf f input) (sym e) (feeding_ends IsLineOf fault input d)

input_ends : (Damage : TextFault → List ℕ → Type 0) (fault : TextFault) (text : List ℕ) (input : Device)
    → ReadsAll text input → Damage fault text → FailsInput Damage (input_fault fault) input
input_ends Damage (text_fault.Damaged number) text input reads damage = (text, reads, damage, tt)
input_ends Damage text_fault.NoMemory text input reads damage = ((text, reads.bytes), reads.works)

-- the same of a text that was read whole
pub input_ended : (Damage : TextFault → List ℕ → Type 0) (fault : TextFault) (told : InputFault) (text : List ℕ)
    (input : Device) → told ≡ input_fault fault → ReadsAll text input → Damage fault text
    → FailsInput Damage told input
input_ended Damage fault told text input e reads damage =
    subst (λ (f : InputFault). FailsInput Damage f input) (sym e) (input_ends Damage fault text input reads damage)

capture_ends : (fault : CaptureFault) (input : Device) → SpoilsCapture fault input
    → StopsFeed (capture_stop fault) input
capture_ends (capture_fault.Damaged number) input d = (d, tt)
capture_ends capture_fault.NoMemory input d = ((d.read, d.bytes), d.works)

-- the same of a capture
pub capture_ended : (fault : CaptureFault) (told : CaptureStop) (input : Device) → told ≡ capture_stop fault
    → SpoilsCapture fault input → StopsFeed told input
capture_ended fault told input e d =
    subst (λ (s : CaptureStop). StopsFeed s input) (sym e) (capture_ends fault input d)

whole_ends : (fault : CaptureFault) (text : List ℕ) (input : Device) → ReadsAll text input
    → DamagesCapture IsAnyCaptureOf fault text → FailsCapture (capture_stop fault) input
whole_ends (capture_fault.Damaged number) text input reads damage = (text, reads, damage, tt)
whole_ends capture_fault.NoMemory text input reads damage = ((text, reads.bytes), reads.works)

pub whole_ended : (fault : CaptureFault) (told : CaptureStop) (text : List ℕ) (input : Device)
    → told ≡ capture_stop fault → ReadsAll text input → DamagesCapture IsAnyCaptureOf fault text
    → FailsCapture told input
whole_ended fault told text input e reads damage =
    subst (λ (s : CaptureStop). FailsCapture s input) (sym e) (whole_ends fault text input reads damage)
