-- One result more is written.
use Rattle.std.proofs.Common.{rules}
use Rattle.std.specs.Fmt.{HasWritten}
use Rattle.ws_pages.specs.Page.{peer_result_html}
use Rattle.ws_pages.proofs.Walks.{written_more}
use Rattle.ws_pages.proofs.panel_html.ResultsHtmlDisplay.fmt.Goals as goal

pub loop-peer-preserved : goal.loop-peer-preserved
loop-peer-preserved g c = λ plain.
    let show = (peer_result_html c.args.self.now.table.texts.rules.now c.args.self.now.id.now) in
    let written : HasWritten g.W.Write.write_str_gives c.loop-peer.f (show c.peer-item.result) c.write.new.self =
    search rules in
    written_more g.W.Write.write_str_gives c.args.f.now c.loop-peer.f c.write.new.self show
    c.args.self.now.table.peers.now c.loop-peer.peer-index
    c.peer-item.result (search rules) c.peer-item.is (c.loop-peer.invariant plain) written
