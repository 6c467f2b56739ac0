-- Reply after reply: whether the ones are a beginning of the others is decided by what is left of both.
use Rattle.std.proofs.Common.{length}
use Rattle.ws_suite.specs.Matching.{IsBeginningOf, bare}
use Rattle.ws_suite.proofs.judging.replies.begins.Given as goal

-- what is left decides
abbrev pub invariant-loop-one : goal.invariant-loop-one
invariant-loop-one l = record {
  back : IsBeginningOf (bare l.left) (bare l.all_left) → IsBeginningOf (bare l.fn.front) (bare l.fn.all);
  on : IsBeginningOf (bare l.fn.front) (bare l.fn.all) → IsBeginningOf (bare l.left) (bare l.all_left);
}

abbrev pub decreases-loop-one : goal.decreases-loop-one
decreases-loop-one l = length l.left
