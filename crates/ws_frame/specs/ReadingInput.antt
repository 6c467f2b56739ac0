-- Reading an input, to its end or to a budget of bytes.
use Rattle.std.specs.Prelude.{◌≡◌, ℕ, ◌<◌, true, false, List, length, Option, Some, IfSome}
use Rattle.std.specs.Io.KnownBytes.{IsAtEnd}
use Rattle.ws_frame.specs.declared.reading_input.InputEnd.{InputEnd}
use Rattle.ws_frame.specs.declared.reading_input.InputEnd.TheVariants.{End, Budget, Fault, NoMemory}
use Rattle.ws_frame.specs.Devices.{Device, HasRead}

-- so many bytes are less than the budget; without one they always are
abbrev pub IsBelow : Option ℕ → ℕ → Type 0
IsBelow budget count = IfSome budget (λ most. count < most)

-- these bytes were read, by how that ended
abbrev pub ReadsInput : Option ℕ → InputEnd → List ℕ → Device → Type 0
ReadsInput budget End read input =
    HasRead read input × IsBelow budget (length read) × (input.failed ≡ false) × IsAtEnd input.new
ReadsInput budget Budget read input = HasRead read input × (budget ≡ Some (length read)) × (input.failed ≡ false)
ReadsInput budget Fault read input = HasRead read input × IsBelow budget (length read) × (input.failed ≡ true)
ReadsInput budget NoMemory read input = HasRead read input × IsBelow budget (length read) × (input.failed ≡ false)
