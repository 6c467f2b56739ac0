-- Pong after pong: the last turns are those of the pongs that were passed.
use Rattle.std.proofs.Common.{◌≡◌, ◌++◌, List, length}
use Rattle.ws_suite.specs.InnerMarks.{AreLastTurns}
use Rattle.ws_suite.specs.InnerNoted.{IsAskedFor}
use Rattle.ws_suite.specs.declared.evidence.InTurn.{InTurn}
use Rattle.ws_suite.specs.declared.evidence.Reply.{Reply}
use Rattle.ws_suite.proofs.judging.owed.note_turns.Given as goal

-- the last turns of those that were there and those that were passed; what was asked for stays so
abbrev pub invariant-loop-pong : goal.invariant-loop-pong
invariant-loop-pong l = (done : List (InTurn Reply)) × (l.fn.pongs ≡ done ++ l.left)
    × ((gots : List (InTurn Reply)) → AreLastTurns gots l.fn.turns → AreLastTurns (gots ++ done) l.turns)
    × ((pings : List (InTurn Reply)) → IsAskedFor pings l.fn.turns → IsAskedFor pings l.turns)

abbrev pub decreases-loop-pong : goal.decreases-loop-pong
decreases-loop-pong l = length l.left
