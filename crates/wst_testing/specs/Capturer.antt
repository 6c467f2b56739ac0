-- What a sink that writes a capture was told, and what it has written of that: it ends the run with the first case.
use Rattle.std.specs.Prelude.{◌≡◌, ℕ, false, List, [], ◌∷◌, ◌++◌, Option, Some, None, Result, Ok, Err}
use Rattle.ws_frame.specs.Devices.{Device, IsUntouched}
use Rattle.ws_scripts.specs.declared.script.Case.{Case}
use Rattle.wst_commands.specs.declared.exit.Exit.{Exit}
use Rattle.wst_commands.specs.declared.fault.Fault.{Fault}
use Rattle.wst_commands.specs.declared.fault.Fault.TheVariants.{NoMemory}
use Rattle.wst_sockets.specs.declared.meeting.Meeting.{Meeting}
use Rattle.wst_testing.specs.Notes.{TellsEach, progress_notes}
use Rattle.wst_testing.specs.Testing.{TellsMeeting, meeting_notes}
use Rattle.wst_testing.specs.declared.runner.RunStop.{RunStop}
use Rattle.wst_testing.specs.declared.runner.RunStop.TheVariants as stop
use Rattle.wst_testing.specs.declared.testing.RunRules.{RunRules}

-- what is told beside a capture of the case that runs, if one was begun
abbrev pub notes_of_next : RunRules → Option Case → List (List ℕ)
notes_of_next rules None = []
notes_of_next rules (Some case) = progress_notes rules.progress case

-- no case was run yet, and nothing was written; the name of the one that runs was told, where that is asked for
pub record AwaitsCapture (rules : RunRules) (came : List (Case × Meeting)) (next : Option Case) (output faults : Device)
    : Type 0 where
  pub none : came ≡ []
  pub works : output.failed ≡ false
  pub untouched : IsUntouched output
  pub noted : TellsEach (notes_of_next rules next) faults

-- the capture of what came of a case was written, or the line of the case, and why there is no connection was told
abbrev pub TellsCame : RunRules → Case → Meeting → Exit → Device → Device → Type 0
TellsCame rules case meeting exit output faults =
    TellsMeeting rules case meeting exit output × TellsEach (meeting_notes meeting) faults

-- so it was of the one case that was run
pub record HasCaptured (rules : RunRules) (came : List (Case × Meeting)) (exit : Exit) (output faults : Device)
    : Type 0 where
  pub case : Case
  pub meeting : Meeting
  pub one : came ≡ (case, meeting) ∷ []
  pub told : TellsMeeting rules case meeting exit output
  pub noted : TellsEach (progress_notes rules.progress case ++ meeting_notes meeting) faults

-- the run was ended with that one, since it was enough
abbrev pub EndsCapture : RunRules → List (Case × Meeting) → Exit → RunStop → Device → Device → Type 0
EndsCapture rules came exit stop.Enough output faults = HasCaptured rules came exit output faults
EndsCapture rules came exit _ output faults = ⊥

-- how a run ends of which a capture was to be written: with the exit of what was written, but for want of memory
abbrev pub IsEndOfCapture : Result (Unit {0}) RunStop → Exit → Result Exit Fault → Type 0
IsEndOfCapture (Err stop.NoMemory) exit ended = ended ≡ Err NoMemory
IsEndOfCapture _ exit ended = ended ≡ Ok exit
