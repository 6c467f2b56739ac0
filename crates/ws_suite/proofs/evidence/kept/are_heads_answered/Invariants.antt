-- Head after head: those that are left decide.
use Rattle.std.proofs.Common.{◌↔◌, length}
use Rattle.ws_suite.specs.InnerAnswered.{AreHeadsAnswered}
use Rattle.ws_suite.proofs.evidence.kept.are_heads_answered.Given as goal

-- those that are left decide
abbrev pub invariant-loop-first : goal.invariant-loop-first
invariant-loop-first l = AreHeadsAnswered l.due_left l.got_left ↔ AreHeadsAnswered l.fn.due l.fn.got

abbrev pub decreases-loop-first : goal.decreases-loop-first
decreases-loop-first l = length l.due_left
