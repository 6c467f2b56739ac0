-- The earlier run that comes in, where one is to be known.
use Rattle.std.specs.Prelude.{◌≡◌, ◌⊎◌, ℕ, Bool, true, false, List, Option, Some, None}
use Rattle.ws_base.specs.declared.text_fault.TextFault.{TextFault}
use Rattle.ws_base.specs.declared.text_fault.TextFault.TheVariants as text
use Rattle.ws_formats.specs.Lines.{Damages}
use Rattle.ws_frame.specs.Devices.{Device, IsUntouched}
use Rattle.ws_reports.specs.Known.{AreKnownLines}
use Rattle.ws_reports.specs.declared.known_line.KnownLine.{KnownLine}
use Rattle.wst_commands.specs.Faults.{TellsFault}
use Rattle.wst_commands.specs.ReadingWhole.{ReadsAll, StopsReading}
use Rattle.wst_commands.specs.RunDamages.{run_damage}
use Rattle.wst_commands.specs.declared.exit.Exit.{Exit}
use Rattle.wst_commands.specs.declared.exit.Exit.TheVariants.{Failed}
use Rattle.wst_commands.specs.declared.fault.Fault.TheVariants as fault
use Rattle.wst_commands.specs.declared.reading_whole.ReadStop.{ReadStop}
use Rattle.wst_commands.specs.declared.reading_whole.ReadStop.TheVariants as read
use Rattle.wst_testing.specs.declared.known_input.KnownStop.{KnownStop}
use Rattle.wst_testing.specs.declared.known_input.KnownStop.TheVariants as stop

-- where an earlier run is asked for, these are the lines of the input, which was read whole; else nothing was read
abbrev pub IsKnownBy : Bool → Option (List KnownLine) → Device → Type 0
IsKnownBy false known input = (known ≡ None) × IsUntouched input
IsKnownBy true None input = ⊥
IsKnownBy true (Some lines) input = (text : List ℕ) × ReadsAll text input × AreKnownLines lines text

abbrev pub read_stop : ReadStop → KnownStop
read_stop read.Fault = stop.Device
read_stop read.NoMemory = stop.NoMemory

abbrev pub known_stop : List ℕ → TextFault → KnownStop
known_stop bytes (text.Damaged line) = stop.NotAVerdict line (run_damage bytes line)
known_stop bytes text.NoMemory = stop.NoMemory

-- it was asked for, and the input could not be read, or is none
abbrev pub StopsKnowing : Bool → KnownStop → Device → Type 0
StopsKnowing is_asked why input = (is_asked ≡ true)
    × (((stopped : ReadStop) × StopsReading stopped input × (why ≡ read_stop stopped))
    ⊎ ((bytes : List ℕ) × (damage : TextFault) × ReadsAll bytes input × Damages AreKnownLines damage bytes
    × (why ≡ known_stop bytes damage)))

-- what is told of that, and the exit
abbrev pub TellsKnownStop : KnownStop → Exit → Device → Type 0
TellsKnownStop stop.Device exit faults = (exit ≡ Failed) × IsUntouched faults
TellsKnownStop (stop.NotAVerdict line damage) exit faults = TellsFault (fault.NotAVerdict line damage) exit faults
TellsKnownStop stop.NoMemory exit faults = TellsFault fault.NoMemory exit faults
