-- The summary of a run.
use Rattle.std.specs.Prelude.{ℕ, List, [], map}
use Rattle.ws_reports.specs.declared.kept.KeptVerdict.{KeptVerdict}
use Rattle.ws_runs.specs.Runs.{ResultValue}
use Rattle.ws_runs.specs.Summary.{tally_lines}
use Rattle.ws_scripts.specs.CaseNames.{listed_names}

-- the result that a summary has of a verdict: no line of its own and none below it is asked for
abbrev pub kept_result : KeptVerdict → ResultValue
kept_result verdict = record { id = verdict.id; words = verdict.words; line = []; below = [] }

abbrev pub kept_results : List KeptVerdict → List ResultValue
kept_results kept = map kept_result kept

-- the lines of a summary: each verdict but PASS with how many cases have it and which, the most frequent first
abbrev pub summary_lines : List KeptVerdict → List ℕ
summary_lines kept = tally_lines listed_names (kept_results kept)
