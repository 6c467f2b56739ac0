-- Pong after pong: the last places are those of the due pongs that were passed.
use Rattle.std.proofs.Common.{◌≡◌, ◌++◌, List, length}
use Rattle.ws_suite.specs.InnerJudging.{AreLastPlaces}
use Rattle.ws_suite.specs.declared.evidence.InTurn.{InTurn}
use Rattle.ws_suite.specs.declared.evidence.Reply.{Reply}
use Rattle.ws_suite.proofs.judging.pongs.note_places.Given as goal

-- the places of those that were passed
abbrev pub invariant-loop-pong : goal.invariant-loop-pong
invariant-loop-pong l = (done : List (InTurn Reply)) × (l.fn.due ≡ done ++ l.left) × (length done ≡ l.place)
    × AreLastPlaces done l.places

abbrev pub decreases-loop-pong : goal.decreases-loop-pong
decreases-loop-pong l = length l.left
