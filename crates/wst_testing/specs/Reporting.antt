-- What a report writes of cases that were run, and how a run ends by it.
use Rattle.std.specs.Prelude.{◌≡◌, ℕ, ◌+◌, Bool, true, false, ◌||◌, ◌&&◌, List, [], ◌∷◌, ◌++◌, map, flat_map}
use Rattle.std.specs.Prelude.{if◌then◌else◌, filter, length}
use Rattle.std.specs.Prelude.{Option, Result, Ok, Err, MatchResult, string_bytes}
use Rattle.std.specs.List.{list_any}
use Rattle.ws_frame.specs.Devices.{Device, HasBegun, IsUntouched}
use Rattle.ws_reports.specs.Kept.{kept_of, kept_with, verdict_kept}
use Rattle.ws_reports.specs.KnownCounts.{change_on, counts_if, known_counts, known_line, no_counts}
use Rattle.ws_reports.specs.Remarks.{told_failed}
use Rattle.ws_reports.specs.Reports.{ReportValue, case_text, end_text, start_text}
use Rattle.ws_reports.specs.Told.{ToldValue}
use Rattle.ws_reports.specs.declared.case_score.CaseScore.{CaseScore}
use Rattle.ws_reports.specs.declared.kept.KeptVerdict.{KeptVerdict}
use Rattle.ws_reports.specs.declared.known_counts.Change.{Change}
use Rattle.ws_scripts.specs.declared.script.Case.{Case}
use Rattle.ws_titles.specs.Titles.{title_of}
use Rattle.wst_commands.specs.Devices.{Delivers, Tells}
use Rattle.wst_commands.specs.declared.exit.Exit.{Exit}
use Rattle.wst_commands.specs.declared.exit.Exit.TheVariants.{Damaged, Done, Failed}
use Rattle.wst_commands.specs.declared.fault.Fault.{Fault}
use Rattle.wst_commands.specs.declared.fault.Fault.TheVariants as variant
use Rattle.wst_testing.specs.Notes.{TellsEach}
use Rattle.wst_testing.specs.Outcomes.{below_line, is_fail, no_tally, outcome_words, tally_of, tally_with, total_line}
use Rattle.wst_testing.specs.Summaries.{summary_lines}
use Rattle.wst_testing.specs.declared.outcome.Outcome.{Outcome}
use Rattle.wst_testing.specs.declared.outcome.Score.{Score}

-- ---- one case

-- what there is to tell of a case: its name, its title, the words of its outcome, and what stands below its line
abbrev pub told_of_case : Case × Outcome → ToldValue
told_of_case test = record {
  id = string_bytes test.0.id;
  title = title_of (string_bytes test.0.id);
  verdict = outcome_words test.1;
  below = below_line test.1;
}

-- what is written of it
abbrev pub report_text : ReportValue → Case × Outcome → List ℕ
report_text report test = case_text report (told_of_case test)

-- a run of it alone would be said to have failed
abbrev pub fails_in : ReportValue → Case × Outcome → Bool
fails_in report test = told_failed report.known (told_of_case test)

-- it is one of the failures that are counted: a FAIL or a missing connection, beside an earlier run one by which a run
-- fails
abbrev pub is_failure : ReportValue → Case × Outcome → Bool
is_failure report test = is_fail test.1 && fails_in report test

-- how it stands beside an earlier run, where one is known
abbrev pub change_in : ReportValue → Case × Outcome → Option Change
change_in report test = change_on report.known (told_of_case test)

-- its verdict, where a summary is asked for
abbrev pub verdict_in : ReportValue → Case × Outcome → Option KeptVerdict
verdict_in report test = verdict_kept report (told_of_case test)

-- ---- cases

abbrev pub report_texts : ReportValue → List (Case × Outcome) → List ℕ
report_texts report tests = flat_map (report_text report) tests

-- a run fails by one such case
abbrev pub exit_of_report : Bool → Exit
exit_of_report is_failed = if is_failed then Damaged else Done

-- what a run of these cases comes to
abbrev pub score_of : ReportValue → List (Case × Outcome) → Score
score_of report tests = record {
  tally = tally_of (map (λ test. test.1) tests);
  is_failed = list_any (fails_in report) tests;
  failures = length (filter (is_failure report) tests);
  known = known_counts (map (change_in report) tests);
  kept = kept_of (map (verdict_in report) tests);
}

-- what stands behind the cases of such a run: the total, the summary, and how the cases stand beside the earlier run
abbrev pub behind_text : ReportValue → Score → List ℕ
behind_text report score = total_line score.tally ++ (summary_lines score.kept ++ known_line report.known score.known)

-- behind the cases of a document it is told on the fault output
abbrev pub beside_notes : ReportValue → List ℕ → List (List ℕ)
beside_notes report behind = if report.is_junit then behind ∷ [] else []

-- ---- the beginning and the end of a document

-- What a report has before all cases could not be written, or memory ran out for it, and no case was run.
abbrev pub StopsAtStart : List ℕ → ReportValue → Result Exit Fault → Device → Type 0
StopsAtStart target report (Ok Failed) output = HasBegun (start_text report target) output × (output.failed ≡ true)
StopsAtStart target report (Ok exit) output = ⊥
StopsAtStart target report (Err fault) output = (fault ≡ variant.NoMemory) × IsUntouched output

-- A run that ended early has not written what its report has behind all cases.
abbrev pub closing_text : ReportValue → Result Exit Fault → List ℕ
closing_text report (Ok Failed) = end_text report []
closing_text report (Err fault) = end_text report []
closing_text report _ = []

-- it is written then, if the output works
abbrev pub ClosesReport : ReportValue → Result Exit Fault → Bool → Device → Type 0
ClosesReport report ended true output = IsUntouched output
ClosesReport report ended false output = Tells (closing_text report ended) output

-- ---- the end of a run: a reader may skip what follows

-- what a report has last was written, behind a run that came to this, and what goes beside it was told; or memory ran
-- out for it, and these are as before
abbrev pub EndsReporting : ReportValue → Score → Result Exit Fault → Type 0 → Type 0 → Device → Device → Type 0
EndsReporting report score ended Unwritten Untold output faults = MatchResult ended
    (λ exit. Delivers (exit_of_report score.is_failed) (end_text report (behind_text report score)) exit output
    × TellsEach (beside_notes report (behind_text report score)) faults)
    (λ fault. (fault ≡ variant.NoMemory) × Unwritten × Untold)

-- ---- a step of a count

abbrev pub no_score : Score
no_score = record { tally = no_tally; is_failed = false; failures = 0; known = no_counts; kept = [] }

-- what a case adds to what a run comes to
abbrev pub case_score : ReportValue → Case × Outcome → CaseScore
case_score report test =
    record { is_failed = fails_in report test; change = change_in report test; verdict = verdict_in report test }

abbrev pub score_by : Score → Outcome → CaseScore → Score
score_by score outcome case = record {
  tally = tally_with score.tally outcome;
  is_failed = score.is_failed || case.is_failed;
  failures = if is_fail outcome && case.is_failed then score.failures + 1 else score.failures;
  known = counts_if score.known case.change;
  kept = kept_with score.kept case.verdict;
}

abbrev pub score_with : ReportValue → Score → Case × Outcome → Score
score_with report score test = score_by score test.1 (case_score report test)
