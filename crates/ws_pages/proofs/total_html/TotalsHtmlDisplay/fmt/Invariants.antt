-- The totals of the peers so far are written.
use Rattle.std.proofs.Common.{take}
use Rattle.std.specs.Fmt.{HasWritten, IsPlainFormatter}
use Rattle.std.specs.List.{flat_map}
use Rattle.ws_pages.specs.Page.{total_html}
use Rattle.ws_runs.specs.Views.{texts_now}
use Rattle.ws_pages.proofs.total_html.TotalsHtmlDisplay.fmt.Given as goal

abbrev pub invariant-loop-peer : goal.invariant-loop-peer
invariant-loop-peer g l = IsPlainFormatter l.initial.f
    → HasWritten g.W.Write.write_str_gives l.initial.f
    (flat_map (total_html (texts_now l.self.0.ids.now)) (take l.peer-index l.peer-items)) l.f
