-- Reading an input to its end.
use Rattle.std.specs.Prelude.{◌≡◌, ◌⊎◌, ℕ, true, false, List, Result, Ok, Err, MatchResult, Vec}
use Rattle.std.specs.Io.KnownBytes.{IsAtEnd}
use Rattle.std.specs.declared.alloc.Global.{Global}
use Rattle.ws_frame.specs.Devices.{Device, HasRead, IsUntouched}
use Rattle.wst_commands.specs.declared.exit.Exit.{Exit}
use Rattle.wst_commands.specs.declared.exit.Exit.TheVariants.{Failed}
use Rattle.wst_commands.specs.declared.fault.Fault.{Fault}
use Rattle.wst_commands.specs.declared.fault.Fault.TheVariants as fault
use Rattle.wst_commands.specs.declared.reading_whole.ReadStop.{ReadStop}
use Rattle.wst_commands.specs.declared.reading_whole.ReadStop.TheVariants as stop

-- some bytes were read, and then a read failed, or memory ran out
abbrev pub StopsReading : ReadStop → Device → Type 0
StopsReading stop.Fault input = ((read : List ℕ) × HasRead read input) × (input.failed ≡ true)
StopsReading stop.NoMemory input = ((read : List ℕ) × HasRead read input) × (input.failed ≡ false)

-- these bytes were read, and the reader is at its end
pub record ReadsAll (text : List ℕ) (input : Device) : Type 0 where
  pub bytes : HasRead text input
  pub all : IsAtEnd input.new
  pub works : input.failed ≡ false

-- the whole input was read, or the reading stopped
abbrev pub ReadsWhole : Result (Vec ℕ Global) ReadStop → Device → Type 0
ReadsWhole r input = MatchResult r (λ text. ReadsAll text.items input) (λ stop. StopsReading stop input)

-- how a run ends that could not read its input
abbrev pub stopped : ReadStop → Result Exit Fault
stopped stop.Fault = Ok Failed
stopped stop.NoMemory = Err fault.NoMemory

-- the input was read whole and answered so; or it could not be read, and nothing was written
abbrev pub AnswersInput : (List ℕ → Result Exit Fault → Device → Type 0) → Result Exit Fault → Device → Device → Type 0
AnswersInput Answers ended input output =
    ((text : List ℕ) × ReadsAll text input × Answers text ended output)
    ⊎ ((stop : ReadStop) × StopsReading stop input × (ended ≡ stopped stop) × IsUntouched output)
