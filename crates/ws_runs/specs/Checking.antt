-- Inside the crate: texts of which each line is one of runs. A reader may skip it.
use Rattle.std.specs.Prelude.{List, [], ℕ}
use Rattle.std.specs.List.{AllByRecursion}
use Rattle.ws_formats.specs.Lines.{CanBeTold}
use Rattle.ws_runs.specs.RunLines.{IsRunLine, RunLine}
use Rattle.ws_runs.specs.declared.checking.Lines.{Lines}

-- the line means something
abbrev pub IsLineOfRuns : List ℕ → Type 0
IsLineOfRuns line = (meaning : RunLine) × IsRunLine meaning line

-- each of these does
abbrev pub AreLinesOfRuns : Lines → Unit {0} → List (List ℕ) → Type 0
AreLinesOfRuns part value lines = AllByRecursion IsLineOfRuns lines

pub lines_go_on : (part : Lines) → CanBeTold (AreLinesOfRuns part)
lines_go_on part = (tt, [], tt, tt)
