-- None of the cells so far is that of the case.
use Rattle.std.proofs.Common.{◌≡◌, false, map, take}
use Rattle.ws_junit.specs.Documents.{has_cell}
use Rattle.ws_runs.specs.Views.{result_value}
use Rattle.ws_junit.proofs.document.has_cell.Given as goal

abbrev pub invariant-loop-cell : goal.invariant-loop-cell
invariant-loop-cell l = has_cell (map result_value (take l.cell-index l.cells)) l.id ≡ false
