-- Reply after reply: whether the ones are the others with some left out is decided by what is left of both.
use Rattle.std.proofs.Common.{length}
use Rattle.ws_suite.specs.Kept.{first_of}
use Rattle.ws_suite.specs.Matching.{IsWithSomeLeftOut, bare}
use Rattle.ws_suite.proofs.judging.replies.are_left.Given as goal

-- what is left decides
abbrev pub invariant-loop-reply : goal.invariant-loop-reply
invariant-loop-reply l = record {
  back : IsWithSomeLeftOut (bare (first_of l.first l.left)) (bare l.all_left)
      → IsWithSomeLeftOut (bare l.fn.some) (bare l.fn.all);
  on : IsWithSomeLeftOut (bare l.fn.some) (bare l.fn.all)
      → IsWithSomeLeftOut (bare (first_of l.first l.left)) (bare l.all_left);
}

abbrev pub decreases-loop-reply : goal.decreases-loop-reply
decreases-loop-reply l = length l.all_left
