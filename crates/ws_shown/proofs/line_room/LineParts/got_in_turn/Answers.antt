-- The lines of bytes more wait behind the others.
use Rattle.ws_shown.proofs.line_room.LineParts.got_in_turn.Goals as goal

pub returns-clause-got : goal.returns-clause-got
returns-clause-got c = λ turns turn taken h. c.in_ok-parts-2.ensures.got turns turn taken
    (c.in_ok-parts.ensures.same turns turn taken h)
