-- The capture of one case that a client under test asks for: the first turn ends the run, and so does a client who may
-- be waited for in vain, and was.
use Rattle.std.specs.Prelude.{◌≡◌, ◌⊎◌, Result, Ok, Err, None, length}
use Rattle.ws_wire.specs.declared.role.Role.TheVariants.{Client}
use Rattle.ws_frame.specs.Devices.{Device, IsUntouched}
use Rattle.ws_paths.specs.Standings.{StandingValue, none_run}
use Rattle.ws_scripts.specs.declared.capture.Capture.{Capture}
use Rattle.ws_scripts.specs.declared.expectation.Expectation.{Expectation}
use Rattle.ws_scripts.specs.declared.script.Case.{Case}
use Rattle.ws_scripts.specs.declared.transcript.Transcript.{Transcript}
use Rattle.wst_commands.specs.Devices.{Delivers}
use Rattle.wst_commands.specs.declared.exit.Exit.{Exit}
use Rattle.wst_commands.specs.declared.exit.Exit.TheVariants.{Damaged, Failed}
use Rattle.wst_commands.specs.declared.fault.Fault.{Fault}
use Rattle.wst_testing.specs.Testing.{WritesCapture, test_line}
use Rattle.wst_testing.specs.declared.outcome.Outcome.TheVariants.{NotRun}
use Rattle.wst_clients.specs.ClientTests.{IsVisitFault}
use Rattle.wst_clients.specs.Visits.{BreaksTurn, HavePassed, IsTurnTaken, Met, Unmet}
use Rattle.wst_clients.specs.declared.visiting.NoVisit.{NoVisit}
use Rattle.wst_clients.specs.declared.visiting.NoVisit.TheVariants.{Never, TooLate}
use Rattle.wst_clients.specs.declared.visiting.Visit.{Visit}
use Rattle.wst_clients.specs.declared.visiting.Visit.TheVariants.{Over, Ran}
use Rattle.wst_clients.specs.declared.visiting.VisitRules.{VisitRules}

-- the capture of a run over a client: no frame of the tester is masked
abbrev pub client_capture : Transcript → Capture
client_capture transcript = record { key = None; transcript = transcript }

-- what is written with the turn that ends the run: the capture of the case; or the line of one that was not run
abbrev pub WritesLast : Expectation → Case → Visit → Exit → Device → Type 0
WritesLast expected case (Ran purpose transcript) exit output =
    WritesCapture Client expected (client_capture transcript) exit output
WritesLast expected case Over exit output = Delivers Damaged (test_line (case, NotRun)) exit output

-- or with none: where nobody asked in time it is the line of one that was not run, else nothing
abbrev pub WritesTaken : Expectation → Case → Result Visit NoVisit → Exit → Device → Type 0
WritesTaken expected case (Ok visit) exit output = WritesLast expected case visit exit output
WritesTaken expected case (Err TooLate) exit output = Delivers Damaged (test_line (case, NotRun)) exit output
WritesTaken expected case (Err Never) exit output = (exit ≡ Failed) × IsUntouched output

-- how the one case stands: it was not run
abbrev pub first_standing : VisitRules → StandingValue
first_standing rules = none_run (length rules.cases.now)

-- How a run for a capture of this case ended: with a turn, with which the capture or the line was written; or nobody
-- asked in time, and the line was written of a case that was not run; or none can come any more. Where memory ran out,
-- or nothing could be waited for, nothing was written.
abbrev pub CapturesClient : Met → Unmet → VisitRules → Case → Result Exit Fault → Device → Device → Type 0
CapturesClient c n rules case (Ok exit) output faults =
    ((visit : Visit) × IsTurnTaken c rules (first_standing rules) visit faults
    × WritesLast rules.expected case visit exit output)
    ⊎ (n.none rules TooLate × HavePassed c rules (first_standing rules) faults
    × Delivers Damaged (test_line (case, NotRun)) exit output)
    ⊎ (n.none rules Never × (exit ≡ Failed) × HavePassed c rules (first_standing rules) faults × IsUntouched output)
CapturesClient c n rules case (Err fault) output faults = IsVisitFault n.fails fault × IsUntouched output
    × (BreaksTurn c rules (first_standing rules) faults
    ⊎ ((visit : Visit) × IsTurnTaken c rules (first_standing rules) visit faults)
    ⊎ HavePassed c rules (first_standing rules) faults)
