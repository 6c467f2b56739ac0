-- Those so far are written.
use Rattle.std.proofs.Common.{map, take}
use Rattle.std.specs.Fmt.{HasWritten, IsPlainFormatter}
use Rattle.std.specs.List.{flat_map}
use Rattle.ws_junit.specs.Documents.{cell_element}
use Rattle.ws_runs.specs.Views.{result_value}
use Rattle.ws_junit.proofs.elements.CellElementsDisplay.fmt.Given as goal

abbrev pub invariant-loop-cell : goal.invariant-loop-cell
invariant-loop-cell g l = IsPlainFormatter l.initial.f
    → HasWritten g.W.Write.write_str_gives l.initial.f
    (flat_map cell_element (map result_value (take l.cell-index l.cell-items))) l.f
