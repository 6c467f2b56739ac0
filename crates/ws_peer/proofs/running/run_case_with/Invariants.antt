-- Turn after turn: the turns so far were run and recorded, and the peer goes on.
use Rattle.std.proofs.Common.{length}
use Rattle.ws_peer.proofs.RunLemmas.{HasRunFirst}
use Rattle.ws_peer.proofs.running.run_case_with.Given as goal

-- the turns so far were run, and the peer goes on
abbrev pub invariant-loop-pieces : goal.invariant-loop-pieces
invariant-loop-pieces g l = HasRunFirst g.P.Peer.agrees l.fn.peer l.peer l.initial.left.items l.left.items l.recorded.items

abbrev pub decreases-loop-pieces : goal.decreases-loop-pieces
decreases-loop-pieces g l = length l.left.items
