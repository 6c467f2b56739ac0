-- The suite of one peer more is written.
use Rattle.std.proofs.Common.{rules, ◌<◌, length, refl}
use Rattle.ws_junit.specs.Documents.{suite_of}
use Rattle.ws_junit.proofs.Written.{written_more}
use Rattle.ws_junit.proofs.document.SuitesDisplay.fmt.Goals as goal

pub loop-peer-preserved : goal.loop-peer-preserved
loop-peer-preserved g c = λ plain.
    let peers = c.args.self.now.peers.now in
    let i = c.loop-peer.peer-index in
    let peer = c.peer-item.result in
    let less : i < length peers = search rules in
    let before = c.loop-peer.invariant plain in
    written_more g.W.Write.write_str_gives c.args.f.now c.loop-peer.f c.write.new.self
    (suite_of c.args.self.now.listed.now) peers i peer less c.peer-item.is before
    (c.in_ok-write.ensures.writes before.plain refl)
