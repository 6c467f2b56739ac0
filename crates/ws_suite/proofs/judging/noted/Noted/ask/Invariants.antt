-- Pong after pong: the payloads of those that were passed have a place.
use Rattle.std.proofs.Common.{◌≡◌, ◌++◌, List, length}
use Rattle.ws_suite.specs.declared.evidence.InTurn.{InTurn}
use Rattle.ws_suite.specs.declared.evidence.Reply.{Reply}
use Rattle.ws_suite.specs.InnerNoted.{HavePlaces, HoldsNothing}
use Rattle.ws_suite.proofs.judging.noted.Noted.ask.Given as goal

-- those of the pongs that were passed have one, and there is no number
abbrev pub invariant-loop-pong : goal.invariant-loop-pong
invariant-loop-pong l = (done : List (InTurn Reply)) × (l.fn.pongs ≡ done ++ l.left)
    × (HoldsNothing l.fn.self → HoldsNothing l.self × HavePlaces done l.self)

abbrev pub decreases-loop-pong : goal.decreases-loop-pong
decreases-loop-pong l = length l.left
