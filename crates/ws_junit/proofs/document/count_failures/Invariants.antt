-- The cells so far are counted.
use Rattle.std.proofs.Common.{◌≡◌, ◌≤◌, map, take}
use Rattle.ws_junit.specs.Documents.{count_failures}
use Rattle.ws_runs.specs.Views.{result_value}
use Rattle.ws_junit.proofs.document.count_failures.Given as goal

abbrev pub invariant-loop-cell : goal.invariant-loop-cell
invariant-loop-cell l =
    (l.count ≡ count_failures (map result_value (take l.cell-index l.cells))) × (l.count ≤ l.cell-index)
