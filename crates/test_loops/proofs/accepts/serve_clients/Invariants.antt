-- There is room to read into.
use Rattle.std.proofs.Common.{◌<◌, length}
use Rattle.test_loops.proofs.accepts.serve_clients.Given as goal

abbrev pub invariant-arrivals : goal.invariant-arrivals
invariant-arrivals g l = 0 < length l.room

abbrev pub decreases-arrivals : goal.decreases-arrivals
decreases-arrivals g l = l.tries
