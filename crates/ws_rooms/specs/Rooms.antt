-- Bytes that go to a writer through a room, in which they wait.
use Rattle.std.specs.Prelude.{◌≡◌, ℕ, List, ◌++◌, Result, Ok, Err, false, true}
use Rattle.ws_frame.specs.Devices.{Device, HasBegun, HasWritten}
use Rattle.ws_frame.specs.declared.writing_whole.WriteFault.{WriteFault}

-- of the bytes that are due some were written and these wait; or a beginning was written
abbrev pub WritesAndKeeps : {T : Type 0} → List ℕ → List ℕ → Device → Result T WriteFault → Type 0
WritesAndKeeps due waiting output (Ok _) =
    (written : List ℕ) × HasWritten written output × (output.failed ≡ false) × (due ≡ written ++ waiting)
WritesAndKeeps due waiting output (Err _) = HasBegun due output × (output.failed ≡ true)
