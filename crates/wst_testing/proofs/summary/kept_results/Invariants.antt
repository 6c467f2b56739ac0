-- The results of the verdicts so far.
use Rattle.std.proofs.Common.{◌≡◌, map, take}
use Rattle.ws_runs.specs.Views.{result_value}
use Rattle.wst_testing.specs.Summaries.{kept_result}
use Rattle.wst_testing.proofs.summary.kept_results.Given as goal

abbrev pub invariant-loop-verdict : goal.invariant-loop-verdict
invariant-loop-verdict l = map result_value l.results.items ≡ map kept_result (take l.verdict-index l.kept)
