-- One peer more is written.
use Rattle.std.proofs.Common.{◌++◌, List, ℕ, ap, codes, refl, rules}
use Rattle.std.proofs.lemmas.List.{drop_all}
use Rattle.std.specs.Fmt.{HasWritten}
use Rattle.ws_runs.specs.Json.{peer_json, peers_from}
use Rattle.ws_runs.specs.Runs.{PeerValue}
use Rattle.ws_runs.proofs.Marked.{marked_step, text_end}
use Rattle.ws_runs.proofs.index.PeerMembersDisplay.fmt.Goals as goal

pub loop-peer-preserved : goal.loop-peer-preserved
loop-peer-preserved g c = (
  search rules,
  λ plain.
      let written : HasWritten g.W.Write.write_str_gives c.loop-peer.f
      (c.loop-peer.mark.now ++ peer_json c.peer-item.result) c.write.new.self = search rules in
      marked_step g.W.Write.write_str_gives c.args.f.now c.loop-peer.f c.write.new.self peer_json
      (λ (peers : List PeerValue) (mark : List ℕ). peers_from peers mark) (codes ",")
      (λ peer peers mark. refl) c.args.self.now.0.now c.loop-peer.peer-index c.peer-item.result
      c.loop-peer.mark.now _ (search rules) c.peer-item.is
      (c.loop-peer.invariant.1 plain) written,
)

pub returns-clause-writes : goal.returns-clause-writes
returns-clause-writes g c = λ plain ok.
    text_end g.W.Write.write_str_gives c.args.f.now c.loop-peer.f _ _ (c.loop-peer.invariant.1 plain)
    (ap (λ (l : List PeerValue). peers_from l c.loop-peer.mark.now)
    (drop_all c.loop-peer.peer-index c.args.self.now.0.now (search rules)))
