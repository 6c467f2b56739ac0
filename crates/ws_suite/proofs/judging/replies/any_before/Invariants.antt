-- Pair after pair: the pairs so far aren't early, so those that are left decide.
use Rattle.std.proofs.Common.{◌≡◌, length}
use Rattle.std.specs.List.{list_any, zip}
use Rattle.ws_suite.specs.Verdicts.{is_before}
use Rattle.ws_suite.proofs.judging.replies.any_before.Given as goal

-- what is left decides
abbrev pub invariant-loop-one : goal.invariant-loop-one
invariant-loop-one l = list_any is_before (zip l.left l.due_left) ≡ list_any is_before (zip l.fn.got l.fn.due)

abbrev pub decreases-loop-one : goal.decreases-loop-one
decreases-loop-one l = length l.left
