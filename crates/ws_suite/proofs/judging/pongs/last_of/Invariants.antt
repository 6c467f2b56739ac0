-- The last one that was passed.
use Rattle.std.proofs.Common.{◌≡◌, ◌++◌, List, length}
use Rattle.ws_suite.specs.InnerChosen.{IsLastOf}
use Rattle.ws_suite.specs.declared.evidence.InTurn.{InTurn}
use Rattle.ws_suite.specs.declared.evidence.Reply.{Reply}
use Rattle.ws_suite.proofs.judging.pongs.last_of.Given as goal

-- it is the last of those that were passed
abbrev pub invariant-loop-reply : goal.invariant-loop-reply
invariant-loop-reply l = (done : List (InTurn Reply)) × (l.fn.replies ≡ done ++ l.left) × IsLastOf done l.last

abbrev pub decreases-loop-reply : goal.decreases-loop-reply
decreases-loop-reply l = length l.left
