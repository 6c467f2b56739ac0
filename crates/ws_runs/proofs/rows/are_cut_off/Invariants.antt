-- The runs of the peers so far were cut off.
use Rattle.std.proofs.Common.{◌≡◌, true, take}
use Rattle.std.specs.List.{list_all}
use Rattle.ws_runs.specs.Runs.{PeerValue}
use Rattle.ws_runs.proofs.rows.are_cut_off.Given as goal

abbrev pub invariant-loop-peer : goal.invariant-loop-peer
invariant-loop-peer l = list_all (λ (peer : PeerValue). peer.is_cut_off) (take l.peer-index l.peers) ≡ true
