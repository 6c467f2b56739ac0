-- Ping after ping: what is known so far of those that were passed.
use Rattle.std.proofs.Common.{◌≡◌, ◌++◌, List, length}
use Rattle.ws_suite.specs.declared.evidence.InTurn.{InTurn}
use Rattle.ws_suite.specs.declared.evidence.Reply.{Reply}
use Rattle.ws_suite.specs.InnerMarks.{counted_of}
use Rattle.ws_suite.specs.Matching.{due_pongs}
use Rattle.ws_suite.proofs.OwedLemmas.{AreSoFar}
use Rattle.ws_suite.proofs.judging.owed.owed_pongs.Given as goal

-- it is known of those that were passed
abbrev pub invariant-loop-ping : goal.invariant-loop-ping
invariant-loop-ping l = (done : List (InTurn Reply)) × (due_pongs l.marked.evidence ≡ done ++ l.pings)
    × AreSoFar (counted_of l.marked) done l.lacks_last l.skips_one l.later_is_answered

abbrev pub decreases-loop-ping : goal.decreases-loop-ping
decreases-loop-ping l = length l.pings
