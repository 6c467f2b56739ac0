-- Cases run over new ends: what a report has of them is written, of each as soon as it is judged, and of the total; and
-- what is told on the fault output.
use Rattle.std.specs.Prelude.{◌≡◌, ◌⊎◌, ℕ, ◌+◌, ◌<◌, true, false, List, [], ◌∷◌, ◌++◌}
use Rattle.std.specs.Prelude.{is_some, length, map, take, Result, MatchResult, codes, string_bytes}
use Rattle.std.specs.List.{AllByRecursion, concat}
use Rattle.ws_wire.specs.declared.role.Role.{Role}
use Rattle.ws_frame.specs.Devices.{Device, HasBegun, HasWritten, IsUntouched}
use Rattle.ws_reports.specs.Reports.{ReportValue, end_text}
use Rattle.ws_scripts.specs.Captures2.{written_capture2}
use Rattle.ws_session.specs.Replies.{key_for}
use Rattle.ws_suite.specs.Evidence.{other_role}
use Rattle.ws_scripts.specs.declared.transcript.Transcript.{Transcript}
use Rattle.ws_scripts.specs.declared.capture.Capture.{Capture}
use Rattle.ws_suite.specs.Protocol.{IsVerdictBy}
use Rattle.ws_scripts.specs.declared.expectation.Expectation.{Expectation}
use Rattle.ws_scripts.specs.declared.script.Case.{Case}
use Rattle.ws_suite.specs.declared.verdict.Verdict.{Verdict}
use Rattle.wst_commands.specs.Devices.{Delivers}
use Rattle.wst_commands.specs.Explaining.{IsJudgementOf}
use Rattle.wst_commands.specs.Judge.{exit_of}
use Rattle.wst_testing.specs.Failures.{GoesOnBehind, IsEnoughBehind, WentOn}
use Rattle.wst_testing.specs.Hints.{hint_place}
use Rattle.wst_testing.specs.Notes.{TellsEach, miss_notes, notes_of, progress_notes}
use Rattle.wst_testing.specs.Outcomes.{MayRunEach, below_line, max_missed, missed_at_end}
use Rattle.wst_testing.specs.Outcomes.{outcome_words, told_refusal}
use Rattle.wst_testing.specs.Reporting.{behind_text, beside_notes, exit_of_report, report_texts, score_of}
use Rattle.wst_commands.specs.declared.exit.Exit.{Exit}
use Rattle.wst_commands.specs.declared.exit.Exit.TheVariants.{Damaged, Failed}
use Rattle.wst_commands.specs.declared.fault.Fault.{Fault}
use Rattle.wst_commands.specs.declared.fault.Fault.TheVariants.{NoMemory}
use Rattle.wst_sockets.specs.declared.meeting.Meeting.{Meeting}
use Rattle.wst_sockets.specs.declared.meeting.Meeting.TheVariants as meeting
use Rattle.wst_sockets.specs.declared.meeting.ConnectFault.{ConnectFault}
use Rattle.wst_testing.specs.Tried.{tried_notes}
use Rattle.wst_testing.specs.declared.run_plans.TestedEnd.{TestedEnd}
use Rattle.wst_testing.specs.declared.outcome.Outcome.{Outcome}
use Rattle.wst_testing.specs.declared.outcome.Outcome.TheVariants as outcome
use Rattle.wst_testing.specs.declared.testing.RunRules.{RunRules}

-- ---- one case

-- what is told of such a meeting by these rules: the verdict on the tested end by its transcript, with why it is told
-- where that is asked for; that the head of the answer is to be refused, or that there is no connection
abbrev pub IsOutcomeOf : RunRules → Meeting → Outcome → Type 0
IsOutcomeOf rules (meeting.Ran transcript) (outcome.Judged told) =
    IsJudgementOf rules.explains rules.tested rules.expected transcript told
IsOutcomeOf rules (meeting.Refused refusal) (outcome.HeadRefused told) =
    told ≡ told_refusal (is_some rules.explains) refusal
IsOutcomeOf rules (meeting.NoConnection why) (outcome.NoConnection told) = told ≡ why
IsOutcomeOf rules _ _ = ⊥

-- the outcome of a case by these rules, over one of the ends that meet cases so
pub record IsTested (Meets : Case → Meeting → Type 0) (rules : RunRules) (case : Case) (outcome : Outcome)
    : Type 0 where
  pub meeting : Meeting
  pub met : Meets case meeting
  pub told : IsOutcomeOf rules meeting outcome

-- ---- cases

-- these are the cases in their order, each with what is told of an end of its own
pub record AreTested (Meets : Case → Meeting → Type 0) (rules : RunRules) (cases : List Case)
    (tests : List (Case × Outcome)) : Type 0 where
  pub of_cases : map (λ test. test.0) tests ≡ cases
  pub tested : AllByRecursion (λ test. IsTested Meets rules test.0 test.1) tests

abbrev pub outcomes_in : List (Case × Outcome) → List Outcome
outcomes_in tests = map (λ test. test.1) tests

-- the line of a case of which no capture is written: its name and its outcome; and what stands below it
abbrev pub test_line : Case × Outcome → List ℕ
test_line test =
    concat (string_bytes test.0.id ∷ codes " " ∷ outcome_words test.1 ∷ codes "\n" ∷ below_line test.1 ∷ [])

-- ---- a run

-- All cases were tested, each behind fewer in a row without a connection than end a run, and never with enough failures
-- to end it; and what the report has of them and behind them was written; or a write failed at last. What is behind the
-- cases of a document was told last.
pub record TellsAll (Meets : Case → Meeting → Type 0) (rules : RunRules) (report : ReportValue) (cases : List Case)
    (notes : List (List ℕ))
    (exit : Exit) (output : Device) : Type 0 where
  pub tests : List (Case × Outcome)
  pub are_tested : AreTested Meets rules cases tests
  pub may_run : MayRunEach (max_missed rules.is_limited) (outcomes_in tests)
  pub few : missed_at_end (outcomes_in tests) < max_missed rules.is_limited
  pub goes_on : GoesOnBehind rules.max_fail report tests
  pub noted : notes ≡ notes_of rules.progress (hint_place (length cases)) tests
      ++ beside_notes report (behind_text report (score_of report tests))
  pub told : Delivers (exit_of_report (score_of report tests).is_failed)
      (report_texts report tests ++ end_text report (behind_text report (score_of report tests))) exit output

-- the first n cases were tested so, and a line of theirs could not be written: a beginning of their lines was
pub record StopsAtLine (Meets : Case → Meeting → Type 0) (rules : RunRules) (report : ReportValue)
    (cases : List Case) (notes : List (List ℕ))
    (exit : Exit) (output : Device) : Type 0 where
  pub n : ℕ
  pub tests : List (Case × Outcome)
  pub are_tested : AreTested Meets rules (take n cases) tests
  pub may_run : MayRunEach (max_missed rules.is_limited) (outcomes_in tests)
  pub went_on : WentOn rules.max_fail report tests
  pub noted : notes ≡ notes_of rules.progress (hint_place (length cases)) tests
  pub failed : (exit ≡ Failed) × (output.failed ≡ true)
  pub begun : HasBegun (report_texts report tests) output

-- to the end of the last of these cases there is no connection, for this reason
abbrev pub EndsMissed : ConnectFault → List (Case × Outcome) → Type 0
EndsMissed why tests =
    (before : List (Case × Outcome)) × (case : Case) × (tests ≡ before ++ (case, outcome.NoConnection why) ∷ [])

-- The first n cases were tested so, and with the last of them as many in a row are without a connection as end a run:
-- their lines were written, and no total. Where the last was refused, it was told at which address.
pub record StopsAtConnection (Meets : Case → Meeting → Type 0) (rules : RunRules) (report : ReportValue)
    (cases : List Case) (tested : TestedEnd)
    (notes : List (List ℕ)) (exit : Exit) (output : Device) : Type 0 where
  pub n : ℕ
  pub tests : List (Case × Outcome)
  pub are_tested : AreTested Meets rules (take n cases) tests
  pub may_run : MayRunEach (max_missed rules.is_limited) (outcomes_in tests)
  pub went_on : WentOn rules.max_fail report tests
  pub missed : missed_at_end (outcomes_in tests) ≡ max_missed rules.is_limited
  pub why : ConnectFault
  pub last : EndsMissed why tests
  pub noted : notes ≡ notes_of rules.progress (hint_place (length cases)) tests ++ tried_notes tested why
  pub ended : (exit ≡ Failed) × (output.failed ≡ false)
  pub written : HasWritten (report_texts report tests) output

-- The first n cases were tested so, and with the last of them, and not before, there are enough failures to end the
-- run: their lines were written, and what is behind them; or a write failed at last. What is behind the cases of a
-- document was told last.
pub record StopsAtFailures (Meets : Case → Meeting → Type 0) (rules : RunRules) (report : ReportValue)
    (cases : List Case) (notes : List (List ℕ)) (exit : Exit) (output : Device) : Type 0 where
  pub n : ℕ
  pub tests : List (Case × Outcome)
  pub are_tested : AreTested Meets rules (take n cases) tests
  pub may_run : MayRunEach (max_missed rules.is_limited) (outcomes_in tests)
  pub few : missed_at_end (outcomes_in tests) < max_missed rules.is_limited
  pub went_on : WentOn rules.max_fail report tests
  pub enough : IsEnoughBehind rules.max_fail report tests
  pub noted : notes ≡ notes_of rules.progress (hint_place (length cases)) tests
      ++ beside_notes report (behind_text report (score_of report tests))
  pub told : Delivers (exit_of_report (score_of report tests).is_failed)
      (report_texts report tests ++ end_text report (behind_text report (score_of report tests))) exit output

-- the name of the case behind the first n was told, or not yet
abbrev pub IsNextNote : RunRules → List Case → ℕ → List (List ℕ) → Type 0
IsNextNote rules cases n next = (next ≡ []) ⊎ ((case : Case) × (take (n + 1) cases ≡ take n cases ++ case ∷ [])
    × (next ≡ progress_notes rules.progress case))

-- the first n cases were tested so and their lines written, and then memory ran out
pub record LacksMemoryAfter (Meets : Case → Meeting → Type 0) (rules : RunRules) (report : ReportValue)
    (cases : List Case)
    (notes : List (List ℕ)) (output : Device) : Type 0 where
  pub n : ℕ
  pub tests : List (Case × Outcome)
  pub are_tested : AreTested Meets rules (take n cases) tests
  pub may_run : MayRunEach (max_missed rules.is_limited) (outcomes_in tests)
  pub few : missed_at_end (outcomes_in tests) < max_missed rules.is_limited
  pub went_on : WentOn rules.max_fail report tests
  pub next : List (List ℕ)
  pub is_next : IsNextNote rules cases n next
  pub noted : notes ≡ notes_of rules.progress (hint_place (length cases)) tests ++ next
  pub works : output.failed ≡ false
  pub written : HasWritten (report_texts report tests) output

-- how a run of these cases ended, over ends that meet cases so, and what was to be told beside it
abbrev pub TestsCases : (Case → Meeting → Type 0) → RunRules → ReportValue → List Case → TestedEnd → List (List ℕ)
    → Result Exit Fault → Device → Type 0
TestsCases Meets rules report cases tested notes ended output = MatchResult ended
    (λ exit. TellsAll Meets rules report cases notes exit output
    ⊎ StopsAtLine Meets rules report cases notes exit output
    ⊎ StopsAtConnection Meets rules report cases tested notes exit output
    ⊎ StopsAtFailures Meets rules report cases notes exit output)
    (λ fault. (fault ≡ NoMemory) × LacksMemoryAfter Meets rules report cases notes output)

-- it was told
abbrev pub RunsCases : (Case → Meeting → Type 0) → RunRules → ReportValue → List Case → TestedEnd → Result Exit Fault
    → Device → Device → Type 0
RunsCases Meets rules report cases tested ended output faults = (notes : List (List ℕ))
    × TestsCases Meets rules report cases tested notes ended output × TellsEach notes faults

-- ---- a capture

-- the capture of a run that tests this end: the key is that under which the tester's frames were masked, if it is the
-- client
abbrev pub run_capture : Role → List ℕ → Transcript → Capture
run_capture tested key transcript = record { key = key_for (other_role tested) key; transcript = transcript }

-- a capture was written, and the exit is that of the verdict on the tested end by its transcript
abbrev pub WritesCapture : Role → Expectation → Capture → Exit → Device → Type 0
WritesCapture tested expected capture exit output = (verdict : Verdict)
    × IsVerdictBy expected tested capture.transcript verdict
    × Delivers (exit_of verdict) (written_capture2 capture) exit output

-- the capture was written; or in its place the line of a case that has none
abbrev pub TellsMeeting : RunRules → Case → Meeting → Exit → Device → Type 0
TellsMeeting rules case (meeting.Ran transcript) exit output =
    WritesCapture rules.tested rules.expected (run_capture rules.tested rules.key transcript) exit output
TellsMeeting rules case (meeting.Refused refusal) exit output =
    Delivers Damaged (test_line (case, outcome.HeadRefused (told_refusal false refusal))) exit output
TellsMeeting rules case (meeting.NoConnection why) exit output =
    Delivers Failed (test_line (case, outcome.NoConnection why)) exit output

-- what is to be told beside it
abbrev pub meeting_notes : Meeting → List (List ℕ)
meeting_notes (meeting.Ran transcript) = []
meeting_notes (meeting.Refused refusal) = []
meeting_notes (meeting.NoConnection why) = miss_notes (outcome.NoConnection why)

-- what came of the case over one of these ends was written; or memory ran out, and nothing was written
abbrev pub CapturesCase : (Case → Meeting → Type 0) → RunRules → Case → List (List ℕ) → Result Exit Fault → Device
    → Type 0
CapturesCase Meets rules case notes ended output = MatchResult ended
    (λ exit. (meeting : Meeting) × Meets case meeting × TellsMeeting rules case meeting exit output
    × (notes ≡ progress_notes rules.progress case ++ meeting_notes meeting))
    (λ fault. (fault ≡ NoMemory) × IsUntouched output
    × ((notes ≡ []) ⊎ (notes ≡ progress_notes rules.progress case)))

-- it was told
abbrev pub RunsCapture : (Case → Meeting → Type 0) → RunRules → Case → Result Exit Fault → Device → Device → Type 0
RunsCapture Meets rules case ended output faults = (notes : List (List ℕ))
    × CapturesCase Meets rules case notes ended output × TellsEach notes faults
