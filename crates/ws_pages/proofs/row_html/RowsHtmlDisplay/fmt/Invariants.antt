-- The rows so far are written, and what is left follows.
use Rattle.std.proofs.Common.{drop}
use Rattle.std.specs.Fmt.{IsPlainFormatter}
use Rattle.ws_pages.specs.Page.{rows_from, rows_html}
use Rattle.ws_pages.specs.Views.{table_value}
use Rattle.ws_runs.specs.Views.{texts_now}
use Rattle.ws_pages.proofs.Marked.{Goes}
use Rattle.ws_pages.proofs.row_html.RowsHtmlDisplay.fmt.Given as goal

abbrev pub invariant-loop-id : goal.invariant-loop-id
invariant-loop-id g l = IsPlainFormatter l.initial.f
    → Goes g.W.Write.write_str_gives l.initial.f l.f
    (rows_from (table_value l.self.0) (texts_now (drop l.id-index l.id-items)) l.last)
    (rows_html (table_value l.self.0))
