-- The totals of one peer more are written.
use Rattle.std.proofs.Common.{rules}
use Rattle.std.specs.Fmt.{HasWritten}
use Rattle.ws_pages.specs.Page.{total_html}
use Rattle.ws_runs.specs.Views.{texts_now}
use Rattle.ws_pages.proofs.Walks.{written_more}
use Rattle.ws_pages.proofs.total_html.TotalsHtmlDisplay.fmt.Goals as goal

pub loop-peer-preserved : goal.loop-peer-preserved
loop-peer-preserved g c = λ plain.
    let show = (total_html (texts_now c.args.self.now.0.ids.now)) in
    let written : HasWritten g.W.Write.write_str_gives c.loop-peer.f (show c.peer-item.result) c.write.new.self =
    search rules in
    written_more g.W.Write.write_str_gives c.args.f.now c.loop-peer.f c.write.new.self show
    c.args.self.now.0.peers.now c.loop-peer.peer-index
    c.peer-item.result (search rules) c.peer-item.is (c.loop-peer.invariant plain) written
