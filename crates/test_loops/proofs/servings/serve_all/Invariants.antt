-- There is room to read into.
use Rattle.std.proofs.Common.{◌<◌, length}
use Rattle.test_loops.proofs.servings.serve_all.Given as goal

abbrev pub invariant-arrivals : goal.invariant-arrivals
invariant-arrivals l = 0 < length l.room

abbrev pub decreases-arrivals : goal.decreases-arrivals
decreases-arrivals l = l.left
