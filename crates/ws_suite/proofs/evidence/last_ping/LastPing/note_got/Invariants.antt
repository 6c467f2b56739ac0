-- Reply after reply: those before what is left were noted.
use Rattle.std.proofs.Common.{◌≡◌, ◌++◌, ℕ, List, length}
use Rattle.ws_suite.specs.declared.evidence.InTurn.{InTurn}
use Rattle.ws_suite.specs.declared.evidence.Reply.{Reply}
use Rattle.ws_suite.specs.LastPings.{AreOfTurn, IsLastPingOf}
use Rattle.ws_suite.proofs.evidence.last_ping.LastPing.note_got.Given as goal

-- what stands before the rest was noted, and the rest is of the turn too
abbrev pub invariant-loop-reply : goal.invariant-loop-reply
invariant-loop-reply l = (done : List (InTurn Reply)) × (l.fresh ≡ done ++ l.left)
    × ((turn : ℕ) (dues gots : List (InTurn Reply)) → AreOfTurn turn l.fresh → IsLastPingOf turn dues gots l.fn.self
    → IsLastPingOf turn dues (gots ++ done) l.self × AreOfTurn turn l.left)

abbrev pub decreases-loop-reply : goal.decreases-loop-reply
decreases-loop-reply l = length l.left
