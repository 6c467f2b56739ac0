-- The cells so far are counted.
use Rattle.std.proofs.Common.{◌≡◌, ◌≤◌, map, take}
use Rattle.std.specs.List.{count_by}
use Rattle.ws_runs.specs.Runs.{ResultValue}
use Rattle.ws_reports.specs.Verdicts.{tells_fail}
use Rattle.ws_runs.specs.Views.{result_value}
use Rattle.ws_runs.proofs.summary.count_fails.Given as goal

abbrev pub invariant-loop-case : goal.invariant-loop-case
invariant-loop-case l =
    (l.count ≡ count_by (λ (cell : ResultValue). tells_fail cell.words) (map result_value (take l.case-index l.cells)))
    × (l.count ≤ l.case-index)
