-- What a sink that writes a report was told, and what it has written of that.
use Rattle.std.specs.Prelude.{◌≡◌, ⊤, ℕ, ◌<◌, Bool, true, false, List, [], ◌∷◌, ◌++◌, Option, Some, None}
use Rattle.std.specs.Prelude.{Result, Ok, Err}
use Rattle.ws_frame.specs.Devices.{Device, HasBegun, HasWritten}
use Rattle.ws_reports.specs.Reports.{ReportValue}
use Rattle.ws_scripts.specs.declared.script.Case.{Case}
use Rattle.wst_commands.specs.declared.exit.Exit.{Exit}
use Rattle.wst_commands.specs.declared.exit.Exit.TheVariants.{Failed}
use Rattle.wst_commands.specs.declared.fault.Fault.{Fault}
use Rattle.wst_commands.specs.declared.fault.Fault.TheVariants.{NoMemory}
use Rattle.wst_sockets.specs.declared.meeting.ConnectFault.{ConnectFault}
use Rattle.wst_sockets.specs.declared.meeting.Meeting.{Meeting}
use Rattle.wst_testing.specs.Failures.{GoesOnBehind, IsEnoughBehind, WentOn}
use Rattle.wst_testing.specs.Hints.{IsHintState}
use Rattle.wst_testing.specs.declared.hinting.HintState.{HintState}
use Rattle.wst_testing.specs.Notes.{TellsEach, notes_of, progress_notes}
use Rattle.wst_testing.specs.Outcomes.{MayRunEach, max_missed, missed_at_end}
use Rattle.wst_testing.specs.Reporting.{EndsReporting, report_texts, score_of}
use Rattle.wst_testing.specs.Testing.{EndsMissed, IsOutcomeOf, outcomes_in}
use Rattle.wst_testing.specs.Tried.{tried_notes}
use Rattle.wst_testing.specs.declared.outcome.Outcome.{Outcome}
use Rattle.wst_testing.specs.declared.run_plans.TestedEnd.{TestedEnd}
use Rattle.wst_testing.specs.declared.runner.RunStop.{RunStop}
use Rattle.wst_testing.specs.declared.runner.RunStop.TheVariants as stop
use Rattle.wst_testing.specs.declared.outcome.Score.{Score}
use Rattle.wst_testing.specs.declared.testing.RunRules.{RunRules}

-- these are the cases with what is told of each by these rules, where this came of them
abbrev pub AreJudged : RunRules → List (Case × Meeting) → List (Case × Outcome) → Type 0
AreJudged rules [] [] = ⊤
AreJudged rules (run ∷ came) (test ∷ tests) =
    (test.0 ≡ run.0) × IsOutcomeOf rules run.1 test.1 × AreJudged rules came tests
AreJudged rules _ _ = ⊥

-- what is told beside the lines of these cases, and of the name of the next one, if it was begun
abbrev pub notes_so_far : Bool → ℕ → List (Case × Outcome) → Option Case → List (List ℕ)
notes_so_far progress place tests None = notes_of progress place tests
notes_so_far progress place tests (Some case) = notes_of progress place tests ++ progress_notes progress case

-- This came of the cases: what the report has of them was written, and what there is to tell beside it was told, at
-- this place what the first ones have in common. They come to this, and so many at their end are without a connection,
-- fewer than end a run; nor were there ever enough failures.
pub record HasReported (rules : RunRules) (report : ReportValue) (place : ℕ) (came : List (Case × Meeting))
    (next : Option Case) (score : Score) (missed : ℕ) (hint : HintState) (output faults : Device) : Type 0 where
  pub tests : List (Case × Outcome)
  pub judged : AreJudged rules came tests
  pub may_run : MayRunEach (max_missed rules.is_limited) (outcomes_in tests)
  pub few : missed < max_missed rules.is_limited
  pub went_on : WentOn rules.max_fail report tests
  pub goes_on : GoesOnBehind rules.max_fail report tests
  pub counted : missed ≡ missed_at_end (outcomes_in tests)
  pub scored : score ≡ score_of report tests
  pub written : HasWritten (report_texts report tests) output
  pub works : output.failed ≡ false
  pub noted : TellsEach (notes_so_far rules.progress place tests next) faults
  pub hinted : IsHintState place (outcomes_in tests) hint

-- what the report has of the last case could not be written whole; or with it as many in a row are without a connection
-- as end a run; or, where they aren't, with it there are enough failures, and all come to this
abbrev pub EndsReport : RunRules → ReportValue → List (Case × Outcome) → Score → RunStop → Device → Type 0
EndsReport rules report tests score stop.Output output =
    (output.failed ≡ true) × HasBegun (report_texts report tests) output
EndsReport rules report tests score (stop.NoConnection why) output =
    (output.failed ≡ false) × HasWritten (report_texts report tests) output
    × (missed_at_end (outcomes_in tests) ≡ max_missed rules.is_limited) × EndsMissed why tests
EndsReport rules report tests score stop.Enough output =
    (output.failed ≡ false) × HasWritten (report_texts report tests) output
    × (missed_at_end (outcomes_in tests) < max_missed rules.is_limited) × IsEnoughBehind rules.max_fail report tests
    × (score ≡ score_of report tests)
EndsReport rules report tests score stop.NoMemory output = ⊥

-- the run was ended behind these, for this reason, and not by failures before
pub record StopsReport (rules : RunRules) (report : ReportValue) (place : ℕ) (came : List (Case × Meeting))
    (score : Score) (why : RunStop) (output faults : Device) : Type 0 where
  pub tests : List (Case × Outcome)
  pub judged : AreJudged rules came tests
  pub may_run : MayRunEach (max_missed rules.is_limited) (outcomes_in tests)
  pub went_on : WentOn rules.max_fail report tests
  pub noted : TellsEach (notes_of rules.progress place tests) faults
  pub ends : EndsReport rules report tests score why output

-- the output can take a total, where one is to be written behind a run that was stopped for this reason
abbrev pub WorksFor : RunStop → Bool → Type 0
WorksFor stop.Enough failed = failed ≡ false
WorksFor stop.Output failed = ⊤
WorksFor (stop.NoConnection why) failed = ⊤
WorksFor stop.NoMemory failed = ⊤

-- How a run ends that was stopped for this reason: what stopped it was told, but for want of memory, and nothing more
-- is written or told; but where enough was run, what the report has behind these cases, and where a connection was
-- refused, at which address.
abbrev pub IsEndOfStop : TestedEnd → ReportValue → Score → RunStop → Result Exit Fault → Type 0 → Type 0 → Device
    → Device → Type 0
IsEndOfStop tested report score stop.Enough ended Unwritten Untold output faults =
    EndsReporting report score ended Unwritten Untold output faults
IsEndOfStop tested report score stop.Output ended Unwritten Untold output faults =
    (ended ≡ Ok Failed) × Unwritten × Untold
IsEndOfStop tested report score (stop.NoConnection why) ended Unwritten Untold output faults =
    (ended ≡ Ok Failed) × Unwritten × TellsEach (tried_notes tested why) faults
IsEndOfStop tested report score stop.NoMemory ended Unwritten Untold output faults =
    (ended ≡ Err NoMemory) × Unwritten × Untold
