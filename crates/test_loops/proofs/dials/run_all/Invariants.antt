-- There is room to read into.
use Rattle.std.proofs.Common.{◌<◌, length}
use Rattle.test_loops.proofs.dials.run_all.Given as goal

abbrev pub invariant-loop-left : goal.invariant-loop-left
invariant-loop-left l = 0 < length l.room

abbrev pub decreases-loop-left : goal.decreases-loop-left
decreases-loop-left l = l.left
