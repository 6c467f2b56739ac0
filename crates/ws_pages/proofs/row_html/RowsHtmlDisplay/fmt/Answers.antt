-- One row more is written.
use Rattle.std.proofs.Common.{List, ℕ, ap, refl, rules}
use Rattle.std.proofs.lemmas.List.{drop_all}
use Rattle.std.specs.Borrow.{Bor}
use Rattle.ws_runs.specs.Views.{texts_now}
use Rattle.ws_pages.specs.Page.{rows_from}
use Rattle.ws_pages.specs.Views.{table_value}
use Rattle.ws_pages.proofs.Marked.{text_end}
use Rattle.ws_pages.proofs.PageLemmas.{rows_step}
use Rattle.ws_pages.proofs.row_html.RowsHtmlDisplay.fmt.Goals as goal

pub loop-id-preserved : goal.loop-id-preserved
loop-id-preserved g c = λ plain.
    let so_far = c.loop-id.invariant plain in
    rows_step g.W.Write.write_str_gives c.args.f.now c.loop-id.f c.write.new.self (table_value c.args.self.now.0)
    c.args.self.now.0.ids.now c.loop-id.id-index c.loop-id.last.now c.group_of-last.result.now _ c.loop-id-test.true
    c.group_of-last.ensures so_far (c.in_ok-write.ensures.writes so_far.2.plain refl)

pub returns-clause-writes : goal.returns-clause-writes
returns-clause-writes g c = λ plain ok.
    text_end g.W.Write.write_str_gives c.args.f.now c.loop-id.f _ _ (c.loop-id.invariant plain)
    (ap (λ (l : List (Bor (List ℕ))). rows_from (table_value c.args.self.now.0) (texts_now l) c.loop-id.last.now)
    (drop_all c.loop-id.id-index c.args.self.now.0.ids.now (search rules)))
