-- Clients under test, turn by turn: what is written of them, a line for each case that was run, one for each that none
-- has asked for, and the total; and what is told on the fault output.
use Rattle.std.specs.Prelude.{◌≡◌, ℕ, ◌<◌, ◌^◌, ◌⊎◌, ⊤, Bool, true, false, List, [], ◌∷◌, ◌++◌, Option, Result, Ok}
use Rattle.std.specs.Prelude.{Err, MatchResult, length}
use Rattle.std.specs.List.{All}
use Rattle.ws_frame.specs.Devices.{Device, HasBegun, HasWritten, IsUntouched}
use Rattle.ws_loops.specs.declared.fault.LoopFault.{LoopFault}
use Rattle.ws_loops.specs.declared.fault.LoopFault.TheVariants as loop
use Rattle.ws_paths.specs.Standings.{StandingValue, none_run}
use Rattle.ws_reports.specs.Reports.{ReportValue, start_text}
use Rattle.ws_paths.specs.declared.behavior.Behavior.{Behavior}
use Rattle.ws_scripts.specs.declared.script.Case.{Case}
use Rattle.wst_commands.specs.Devices.{Delivers}
use Rattle.wst_commands.specs.declared.exit.Exit.{Exit}
use Rattle.wst_commands.specs.declared.exit.Exit.TheVariants.{Failed}
use Rattle.wst_commands.specs.declared.fault.Fault.{Fault}
use Rattle.wst_commands.specs.declared.fault.Fault.TheVariants.{NoMemory, NotListening}
use Rattle.wst_commands.specs.declared.fault.ListenFault.TheVariants as listen
use Rattle.wst_testing.specs.Failures.{is_enough}
use Rattle.wst_testing.specs.Outcomes.{count_in}
use Rattle.wst_testing.specs.Notes.{TellsEach}
use Rattle.wst_clients.specs.ClientLines.{behind_for, beside_for, end_for, lines_for, score_for, score_with_all}
use Rattle.wst_testing.specs.Reporting.{ClosesReport, StopsAtStart, exit_of_report}
use Rattle.wst_clients.specs.LateClients.{late_texts, run_count}
use Rattle.wst_clients.specs.VisitOutcomes.{AreVisits, IsVisitOutcome, MayBeTaken, TakenTurn, after_outcome}
use Rattle.wst_clients.specs.VisitOutcomes.{ends_with_outcome, not_run, notes_of_visits, tests_of, turn_notes}
use Rattle.wst_clients.specs.Visits.{HavePassed, Met, Passing, Unmet, case_notes, notes_of_passing}
use Rattle.wst_testing.specs.declared.outcome.Outcome.{Outcome}
use Rattle.wst_testing.specs.declared.outcome.Score.{Score}
use Rattle.wst_clients.specs.declared.testing_clients.VisitsEnd.{VisitsEnd}
use Rattle.wst_clients.specs.declared.testing_clients.VisitsEnd.TheVariants.{Ended, Enough, Stopped}
use Rattle.wst_clients.specs.declared.visiting.NoVisit.{NoVisit}
use Rattle.wst_clients.specs.declared.visiting.NoVisit.TheVariants.{Never, TooLate}
use Rattle.wst_clients.specs.declared.visiting.Telling.{Telling}
use Rattle.wst_clients.specs.declared.visiting.Visit.{Visit}
use Rattle.wst_clients.specs.declared.visit_outcome.VisitOutcome.{VisitOutcome}
use Rattle.wst_clients.specs.declared.visiting.VisitRules.{VisitRules}

-- ---- turns so far

-- these have brought enough failures to end the run, or not
abbrev pub is_enough_with : VisitRules → List TakenTurn → Bool
is_enough_with rules visits = is_enough rules.max_fail (score_for rules.telling (tests_of rules visits)).failures

-- such turns were taken, from the first on, none of which ends the run, and they have left the cases so
abbrev pub HaveCome : Met → VisitRules → List TakenTurn → StandingValue → Type 0
HaveCome c rules visits standing = AreVisits c rules (none_run (length rules.cases.now)) visits standing
    × (is_enough_with rules visits ≡ false)

-- They were, and then one that ends the run, and not by failures.
pub record HaveAllCome (c : Met) (rules : VisitRules)
    (visits : List TakenTurn) (standing : StandingValue) : Type 0 where
  pub before : List TakenTurn
  pub earlier : StandingValue
  pub have_come : HaveCome c rules before earlier
  pub last : TakenTurn
  pub comes : MayBeTaken c rules earlier last
  pub ends : ends_with_outcome (length rules.cases.now) last.outcome ≡ true
  pub all : visits ≡ before ++ last ∷ []
  pub goes_on : is_enough_with rules visits ≡ false
  pub stands : standing ≡ after_outcome earlier last.outcome

-- what is told where the next client has not come in time, and the cases stand so
abbrev pub late_notes_of : VisitRules → StandingValue → List (List ℕ)
late_notes_of rules standing = late_texts rules.wait (run_count standing.behaviors) (length rules.cases.now)

-- behind the turns such ones passed by, while the cases stand so, and this was told of them
abbrev pub PassBehind : Met → VisitRules → StandingValue → List (List ℕ) → Type 0
PassBehind c rules standing next = (passing : List Passing) × All (c.passes rules standing) passing
    × (next ≡ notes_of_passing passing)

-- All turns of a run: the last of them ends it; or none does, and no request was whole in time, which is told behind
-- them.
abbrev pub HaveBeenTaken : Met → Unmet → VisitRules → List TakenTurn → StandingValue → List (List ℕ) → Type 0
HaveBeenTaken c n rules visits standing late = (HaveAllCome c rules visits standing × (late ≡ []))
    ⊎ (n.none rules TooLate × HaveCome c rules visits standing × ((passed : List (List ℕ))
    × PassBehind c rules standing passed × (late ≡ passed ++ late_notes_of rules standing)))

-- the lines of the cases that were run were written
abbrev pub HasToldVisits : VisitRules → List TakenTurn → Device → Type 0
HasToldVisits rules visits output =
    HasWritten (lines_for rules.telling (tests_of rules visits)) output × (output.failed ≡ false)

-- Turns were taken, none of which ends the run, and their lines were written; what was told behind their notes has this
-- property.
pub record HasVisited (c : Met) (rules : VisitRules) (Behind : StandingValue → List (List ℕ) → Type 0)
    (output faults : Device) : Type 0 where
  pub visits : List TakenTurn
  pub standing : StandingValue
  pub have_come : HaveCome c rules visits standing
  pub told : HasToldVisits rules visits output
  pub next : List (List ℕ)
  pub behind : Behind standing next
  pub noted : TellsEach (notes_of_visits rules visits ++ next) faults

-- the line of the last of them could not be written
pub record StopsAtVisit (c : Met) (rules : VisitRules)
    (output faults : Device) : Type 0 where
  pub visits : List TakenTurn
  pub standing : StandingValue
  pub have_come : HaveCome c rules visits standing
  pub last : TakenTurn
  pub comes : MayBeTaken c rules standing last
  pub failed : output.failed ≡ true
  pub begun : HasBegun (lines_for rules.telling (tests_of rules (visits ++ last ∷ []))) output
  pub noted : TellsEach (notes_of_visits rules (visits ++ last ∷ [])) faults

-- no client can come any more, or a line could not be written
abbrev pub StopsVisiting : Met → Unmet → VisitRules → Device → Device → Type 0
StopsVisiting c n rules output faults = (n.none rules Never × HasVisited c rules (PassBehind c rules) output faults)
    ⊎ StopsAtVisit c rules output faults

-- One of them ends the run, or no client has come in time.
pub record EndsVisits (c : Met) (n : Unmet) (rules : VisitRules) (standing : StandingValue) (score : Score)
    (output faults : Device) : Type 0 where
  pub visits : List TakenTurn
  pub late : List (List ℕ)
  pub have_all : HaveBeenTaken c n rules visits standing late
  pub counted : score ≡ score_for rules.telling (tests_of rules visits)
  pub told : HasToldVisits rules visits output
  pub noted : TellsEach (notes_of_visits rules visits ++ late) faults

-- With the last of them, and not before, there are enough failures to end the run.
pub record EndsEnough (c : Met) (rules : VisitRules) (score : Score)
    (output faults : Device) : Type 0 where
  pub before : List TakenTurn
  pub earlier : StandingValue
  pub have_come : HaveCome c rules before earlier
  pub last : TakenTurn
  pub comes : MayBeTaken c rules earlier last
  pub visits : List TakenTurn
  pub all : visits ≡ before ++ last ∷ []
  pub enough : is_enough_with rules visits ≡ true
  pub counted : score ≡ score_for rules.telling (tests_of rules visits)
  pub told : HasToldVisits rules visits output
  pub noted : TellsEach (notes_of_visits rules visits) faults

-- behind the turns such ones passed by, and perhaps a case was begun, and this was told of that
abbrev pub BreaksBehind : Met → VisitRules → StandingValue → List (List ℕ) → Type 0
BreaksBehind c rules standing next = (before during : List Passing) × All (c.passes rules standing) before
    × All (c.passes rules standing) during × ((case : Option Case)
    × (next ≡ notes_of_passing before ++ case_notes rules.progress case ++ notes_of_passing during))

-- memory ran out, or clients can't be waited for any more
abbrev pub IsVisitFault : Type 0 → Fault → Type 0
IsVisitFault Fails fault = (fault ≡ NoMemory) ⊎ ((fault ≡ NotListening listen.Failed) × Fails)

-- it is what ends a run over clients where a loop was stopped so
abbrev pub IsFaultFor : LoopFault → Fault → Type 0
IsFaultFor loop.NoMemory fault = fault ≡ NoMemory
IsFaultFor loop.WaitFailed fault = fault ≡ NotListening listen.Failed
IsFaultFor loop.NoOutput fault = fault ≡ NotListening listen.Failed

abbrev pub BreaksVisiting : Met → VisitRules → Device → Device → Type 0
BreaksVisiting c rules output faults = HasVisited c rules (BreaksBehind c rules) output faults

-- how the taking of turns ended
abbrev pub RunsVisits : Met → Unmet → VisitRules → Result VisitsEnd Fault → Device → Device → Type 0
RunsVisits c n rules (Ok (Ended standing score)) output faults = EndsVisits c n rules standing score output faults
RunsVisits c n rules (Ok (Enough score)) output faults = EndsEnough c rules score output faults
RunsVisits c n rules (Ok Stopped) output faults = StopsVisiting c n rules output faults
RunsVisits c n rules (Err fault) output faults = IsVisitFault n.fails fault × BreaksVisiting c rules output faults

-- ---- a run

-- One of the turns ends the run, or no client has come in time, which is told. The lines of the cases that were
-- run were written, then those of the cases that no client has asked for, and what stands behind all; or a write failed
-- at last. What stands behind the cases of a document was told last.
pub record TestsAll (c : Met) (n : Unmet) (rules : VisitRules) (exit : Exit) (output faults : Device) : Type 0 where
  pub visits : List TakenTurn
  pub standing : StandingValue
  pub late : List (List ℕ)
  pub have_all : HaveBeenTaken c n rules visits standing late
  pub tests : List (Case × Outcome)
  pub are_tests : tests ≡ tests_of rules visits ++ not_run rules.cases.now standing.behaviors
  pub told : Delivers (exit_of_report (score_for rules.telling tests).is_failed) (lines_for rules.telling tests
      ++ end_for rules.telling (behind_for rules.telling (length rules.cases.now) (score_for rules.telling tests))) exit
      output
  pub noted : TellsEach ((notes_of_visits rules visits ++ late)
      ++ beside_for rules.telling (behind_for rules.telling (length rules.cases.now) (score_for rules.telling tests)))
      faults

-- With one of the turns, and not before, there are enough failures to end the run. The lines of the cases that
-- were run were written, and what stands behind them; or a write failed at last. What stands behind the cases of a
-- document was told last.
pub record TestsEnough (c : Met) (rules : VisitRules) (exit : Exit)
    (output faults : Device) : Type 0 where
  pub before : List TakenTurn
  pub earlier : StandingValue
  pub have_come : HaveCome c rules before earlier
  pub last : TakenTurn
  pub comes : MayBeTaken c rules earlier last
  pub visits : List TakenTurn
  pub all : visits ≡ before ++ last ∷ []
  pub enough : is_enough_with rules visits ≡ true
  pub tests : List (Case × Outcome)
  pub are_tests : tests ≡ tests_of rules visits
  pub told : Delivers (exit_of_report (score_for rules.telling tests).is_failed) (lines_for rules.telling tests
      ++ end_for rules.telling (behind_for rules.telling (length tests) (score_for rules.telling tests))) exit output
  pub noted : TellsEach (notes_of_visits rules visits
      ++ beside_for rules.telling (behind_for rules.telling (length tests) (score_for rules.telling tests))) faults

-- how a run over clients ended
abbrev pub TestsClients : Met → Unmet → VisitRules → Result Exit Fault → Device → Device → Type 0
TestsClients c n rules (Ok exit) output faults = TestsAll c n rules exit output faults
    ⊎ ((exit ≡ Failed) × StopsVisiting c n rules output faults)
    ⊎ TestsEnough c rules exit output faults
TestsClients c n rules (Err fault) output faults = IsVisitFault n.fails fault
    × (BreaksVisiting c rules output faults ⊎ ((standing : StandingValue) × (score : Score)
    × EndsVisits c n rules standing score output faults)
    ⊎ ((score : Score) × EndsEnough c rules score output faults))

-- ---- a document

-- What a report has before all cases was written, the clients were tested, and where that ended early, what it has
-- behind all cases was written too, if the output works.
pub record ReportsClients (c : Met) (n : Unmet) (rules : VisitRules)
    (target : List ℕ) (report : ReportValue) (ended : Result Exit Fault) (output faults : Device) : Type 0 where
  pub begun : Option (List ℕ)
  pub started : HasWritten (start_text report target) (record output { new = begun })
  pub failed : Bool
  pub behind : Option (List ℕ)
  pub tests : TestsClients c n rules ended (record { failed = failed; old = begun; new = behind }) faults
  pub closes : ClosesReport report ended failed (record output { old = behind })

-- so a document about this target was written of clients; or what it has before all cases was not, and none was tested
abbrev pub DocumentsClients : Met → Unmet → VisitRules → List ℕ → ReportValue
    → Result Exit Fault → Device → Device → Type 0
DocumentsClients c n rules target report ended output faults =
    ReportsClients c n rules target report ended output faults
    ⊎ (StopsAtStart target report ended output × IsUntouched faults)

-- ---- inside the crate: the last lines, for the contracts of private functions

-- the cases stand, as many as there are, and there is room to count them
abbrev pub FitsCases : ℕ → VisitsEnd → Type 0
FitsCases count Stopped = ⊤
FitsCases count (Enough score) = count_in score.tally < 2 ^ 64
FitsCases count (Ended standing score) = (length standing.behaviors ≡ count) × (count < 2 ^ 32)
    × (score.tally.pass < 2 ^ 63) × (score.tally.loose < 2 ^ 63) × (score.tally.fail < 2 ^ 63)
    × (score.failures < 2 ^ 63)

-- what stands behind the cases of a run that came to this was written and told; or memory ran out for it, and these are
-- as before
abbrev pub WritesEnough : Telling → Score → Result Exit Fault → Type 0 → Type 0 → Device → Device → Type 0
WritesEnough telling score ended Unwritten Untold output faults = MatchResult ended
    (λ exit. Delivers (exit_of_report score.is_failed)
    (end_for telling (behind_for telling (count_in score.tally) score)) exit output
    × TellsEach (beside_for telling (behind_for telling (count_in score.tally) score)) faults)
    (λ fault. (fault ≡ NoMemory) × Unwritten × Untold)

-- this is told of the turn that was taken, or why none was
abbrev pub TellsOfTurn : VisitRules → Result Visit NoVisit → Result VisitOutcome NoVisit → Type 0
TellsOfTurn rules (Ok visit) (Ok outcome) = IsVisitOutcome rules.explains rules.expected visit outcome
TellsOfTurn rules (Err why) (Err told) = told ≡ why
TellsOfTurn rules _ _ = ⊥

-- what is told of the next turn, with who passed by, or why there is none
abbrev pub ComesNext : Met → Unmet → VisitRules → StandingValue → Result VisitOutcome NoVisit → Device → Type 0
ComesNext c n rules standing (Ok outcome) faults = (turn : TakenTurn) × (turn.outcome ≡ outcome)
    × MayBeTaken c rules standing turn × TellsEach (turn_notes rules turn) faults
ComesNext c n rules standing (Err why) faults = n.none rules why × HavePassed c rules standing faults

-- where the turns have ended without a fault, and not with a line that could not be written, the output works
abbrev pub IsWorking : Result VisitsEnd Fault → Bool → Type 0
IsWorking (Ok (Ended standing score)) failed = failed ≡ false
IsWorking (Ok (Enough score)) failed = failed ≡ false
IsWorking _ failed = ⊤

-- the lines of the cases that were not run, and the count with them
abbrev pub AddsNotRun : Telling → List Case → List Behavior → Score → List ℕ → Score → Type 0
AddsNotRun telling cases behaviors score lines counted = (lines ≡ lines_for telling (not_run cases behaviors))
    × (counted ≡ score_with_all telling score (not_run cases behaviors))

-- and what stands behind the cases
abbrev pub AddsLastLines : VisitRules → List Behavior → Score → List ℕ → List ℕ → Score → Type 0
AddsLastLines rules behaviors score lines behind counted =
    (lines ≡ lines_for rules.telling (not_run rules.cases.now behaviors) ++ end_for rules.telling behind)
    × (behind ≡ behind_for rules.telling (length rules.cases.now) counted)
    × (counted ≡ score_with_all rules.telling score (not_run rules.cases.now behaviors))

-- what stands behind turns that have ended so was written and told; or memory ran out for it, and these are as before
abbrev pub TellsEndOf : VisitRules → Result VisitsEnd Fault → Result Exit Fault → Type 0 → Type 0 → Device → Device
    → Type 0
TellsEndOf rules (Ok (Ended standing score)) result Unwritten Untold output faults = MatchResult result
    (λ exit. (lines behind : List ℕ) × (counted : Score)
    × AddsLastLines rules standing.behaviors score lines behind counted
    × Delivers (exit_of_report counted.is_failed) lines exit output
    × TellsEach (beside_for rules.telling behind) faults)
    (λ fault. (fault ≡ NoMemory) × Unwritten × Untold)
TellsEndOf rules (Ok (Enough score)) result Unwritten Untold output faults =
    WritesEnough rules.telling score result Unwritten Untold output faults
TellsEndOf rules (Ok Stopped) result Unwritten Untold output faults = (result ≡ Ok Failed) × Unwritten × Untold
TellsEndOf rules (Err why) result Unwritten Untold output faults = (result ≡ Err why) × Unwritten × Untold
