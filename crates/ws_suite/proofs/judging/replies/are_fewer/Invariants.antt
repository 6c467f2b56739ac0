-- One of each is passed in each round: what is left compares as the whole.
use Rattle.std.proofs.Common.{◌<◌, length}
use Rattle.ws_suite.proofs.judging.replies.are_fewer.Given as goal

-- what is left decides
abbrev pub invariant-loop-other : goal.invariant-loop-other
invariant-loop-other l = record {
  back : length l.left < length l.others_left → length l.fn.some < length l.fn.others;
  on : length l.fn.some < length l.fn.others → length l.left < length l.others_left;
}

abbrev pub decreases-loop-other : goal.decreases-loop-other
decreases-loop-other l = length l.others_left
