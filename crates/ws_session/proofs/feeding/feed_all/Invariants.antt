-- Piece after piece: the session stands as one that was fed the pieces so far, however they are cut.
use Rattle.std.proofs.Common.{take}
use Rattle.ws_session.specs.Exchange.{joined_pieces}
use Rattle.ws_session.specs.Taking.{events_in}
use Rattle.ws_session.proofs.FedPieces.{HasFed}
use Rattle.ws_session.proofs.feeding.feed_all.Given as goal

-- the pieces so far were fed
abbrev pub invariant-loop-piece : goal.invariant-loop-piece
invariant-loop-piece l = HasFed l.fn.role l.fn.limits l.key l.session (events_in l.told.items) l.put.items (joined_pieces (take l.piece-index l.pieces))
