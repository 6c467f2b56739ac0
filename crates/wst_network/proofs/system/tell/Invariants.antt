-- No more are told than there is room for.
use Rattle.std.proofs.Common.{◌≤◌, length}
use Rattle.wst_network.proofs.system.tell.Given as goal

abbrev pub invariant-loop-event : goal.invariant-loop-event
invariant-loop-event l = l.count ≤ length l.found
