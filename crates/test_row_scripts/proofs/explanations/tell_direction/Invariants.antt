-- Fewer replies are left in each round.
use Rattle.std.proofs.Common.{length}
use Rattle.test_row_scripts.proofs.explanations.tell_direction.Given as goal

abbrev pub decreases-loop-reply : goal.decreases-loop-reply
decreases-loop-reply l = length l.replies
