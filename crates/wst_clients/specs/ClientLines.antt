-- How cases that clients under test were run in are told of: what is written of each, and behind all of them, and what
-- a run of them comes to.
use Rattle.std.specs.Prelude.{ℕ, Bool, ◌&&◌, if◌then◌else◌, List, [], ◌∷◌, Option, None, codes, filter, flat_map}
use Rattle.std.specs.Prelude.{length, map, string_bytes}
use Rattle.std.specs.Fmt.{decimal}
use Rattle.std.specs.List.{concat, list_any}
use Rattle.ws_reports.specs.Kept.{kept_of}
use Rattle.ws_reports.specs.KnownCounts.{known_counts}
use Rattle.ws_reports.specs.Reports.{end_text}
use Rattle.ws_reports.specs.declared.case_score.CaseScore.{CaseScore}
use Rattle.ws_reports.specs.declared.kept.KeptVerdict.{KeptVerdict}
use Rattle.ws_reports.specs.declared.known_counts.Change.{Change}
use Rattle.ws_scripts.specs.declared.script.Case.{Case}
use Rattle.wst_testing.specs.Outcomes.{is_fail, outcome_words, tally_of}
use Rattle.wst_testing.specs.Reporting.{behind_text, beside_notes, change_in, fails_in, report_text, score_by}
use Rattle.wst_testing.specs.Reporting.{verdict_in}
use Rattle.wst_testing.specs.Sweeps.{is_told, sweep_total}
use Rattle.wst_testing.specs.Testing.{outcomes_in}
use Rattle.wst_testing.specs.declared.outcome.Outcome.{Outcome}
use Rattle.wst_testing.specs.declared.outcome.Score.{Score}
use Rattle.wst_clients.specs.declared.visiting.Telling.{Telling}
use Rattle.wst_clients.specs.declared.visiting.Telling.TheVariants.{Cases, Scripts}

-- the name of the case of a number as a client is told it: scripts have their numbers
abbrev pub name_told : Telling → ℕ → Case → List ℕ
name_told (Cases report) number case = string_bytes case.id
name_told (Scripts all) number case = decimal number

-- the line of a script, whose case is named by its steps: what is told of the client, and the steps
abbrev pub swept_line : Case × Outcome → List ℕ
swept_line test = concat (outcome_words test.1 ∷ codes ": " ∷ string_bytes test.0.id ∷ codes "\n" ∷ [])

-- what is written of a case: what the report has of it; of scripts those have a line that `sweep` tells
abbrev pub line_for : Telling → Case × Outcome → List ℕ
line_for (Cases report) test = report_text report.now test
line_for (Scripts all) test = if is_told all test.1 then swept_line test else []

abbrev pub lines_for : Telling → List (Case × Outcome) → List ℕ
lines_for telling tests = flat_map (line_for telling) tests

-- a run of it alone would be said to have failed
abbrev pub fails_for : Telling → Case × Outcome → Bool
fails_for (Cases report) test = fails_in report.now test
fails_for (Scripts all) test = is_fail test.1

-- it is one of the failures that are counted: a FAIL, beside an earlier run one by which a run fails
abbrev pub is_failure_for : Telling → Case × Outcome → Bool
is_failure_for telling test = is_fail test.1 && fails_for telling test

-- how it stands beside the earlier run of a report, where one is known
abbrev pub change_for : Telling → Case × Outcome → Option Change
change_for (Cases report) test = change_in report.now test
change_for (Scripts all) test = None

-- its verdict, where a report has a summary
abbrev pub verdict_for : Telling → Case × Outcome → Option KeptVerdict
verdict_for (Cases report) test = verdict_in report.now test
verdict_for (Scripts all) test = None

-- what a run of these cases comes to
abbrev pub score_for : Telling → List (Case × Outcome) → Score
score_for telling tests = record {
  tally = tally_of (outcomes_in tests);
  is_failed = list_any (fails_for telling) tests;
  failures = length (filter (is_failure_for telling) tests);
  known = known_counts (map (change_for telling) tests);
  kept = kept_of (map (verdict_for telling) tests);
}

-- what stands behind the cases of such a run, of so many scripts
abbrev pub behind_for : Telling → ℕ → Score → List ℕ
behind_for (Cases report) count score = behind_text report.now score
behind_for (Scripts all) count score = sweep_total count score.tally

-- what is written last where this stands behind the cases
abbrev pub end_for : Telling → List ℕ → List ℕ
end_for (Cases report) behind = end_text report.now behind
end_for (Scripts all) behind = behind

-- and what is told last on the fault output
abbrev pub beside_for : Telling → List ℕ → List (List ℕ)
beside_for (Cases report) behind = beside_notes report.now behind
beside_for (Scripts all) behind = []

-- ---- inside the crate: a step of a count, for the contracts of private functions

-- what a case adds to what a run comes to
abbrev pub score_of_case : Telling → Case × Outcome → CaseScore
score_of_case telling test = record {
  is_failed = fails_for telling test;
  change = change_for telling test;
  verdict = verdict_for telling test;
}

-- with these cases more
abbrev pub score_with_all : Telling → Score → List (Case × Outcome) → Score
score_with_all telling score [] = score
score_with_all telling score (test ∷ tests) =
    score_with_all telling (score_by score test.1 (score_of_case telling test)) tests
