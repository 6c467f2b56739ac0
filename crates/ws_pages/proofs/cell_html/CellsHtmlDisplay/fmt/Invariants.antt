-- The cells of the columns so far are written.
use Rattle.std.proofs.Common.{take}
use Rattle.std.specs.Fmt.{HasWritten, IsPlainFormatter}
use Rattle.std.specs.List.{flat_map}
use Rattle.ws_pages.specs.Page.{cell_in_row}
use Rattle.ws_pages.proofs.cell_html.CellsHtmlDisplay.fmt.Given as goal

abbrev pub invariant-loop-peer : goal.invariant-loop-peer
invariant-loop-peer g l = IsPlainFormatter l.initial.f
    → HasWritten g.W.Write.write_str_gives l.initial.f
    (flat_map (cell_in_row l.self.id.now) (take l.peer-index l.peer-items)) l.f
