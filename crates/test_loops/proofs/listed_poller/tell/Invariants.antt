-- No more are told than there is room for.
use Rattle.std.proofs.Common.{◌≤◌, length}
use Rattle.test_loops.proofs.listed_poller.tell.Given as goal

abbrev pub invariant-loop : goal.invariant-loop
invariant-loop l = l.count ≤ length l.found
