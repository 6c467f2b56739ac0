-- Piece after piece: the pieces so far were fed, their bytes are what was sent, what was got is recorded, and the peer
-- goes on.
use Rattle.std.proofs.Common.{◌≡◌, take}
use Rattle.std.specs.List.{concat}
use Rattle.ws_peer.proofs.RunLemmas.{HasFedPieces}
use Rattle.ws_peer.proofs.running.run_turn.Given as goal

-- the pieces so far were fed, and the peer goes on
abbrev pub invariant-loop-number : goal.invariant-loop-number
invariant-loop-number g l = record {
  same : l.pieces ≡ l.fn.pieces;
  fed : HasFedPieces g.P.Peer.agrees l.fn.peer l.peer (take l.number l.fn.pieces)
      (concat (take l.number l.fn.pieces)) l.got.items;
}
