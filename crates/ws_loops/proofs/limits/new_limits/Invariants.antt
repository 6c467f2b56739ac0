-- So far there are no times, and twice as many nodes.
use Rattle.std.proofs.Common.{◌≡◌, ◌+◌, ◌-◌, ◌≤◌, length}
use Rattle.ws_loops.specs.Limits.{AreAllNone}
use Rattle.ws_loops.proofs.limits.new_limits.Given as goal

abbrev pub invariant-loop-times : goal.invariant-loop-times
invariant-loop-times l = record {
  within : length l.times.items ≤ l.len;
  len : length l.tree.items ≡ length l.times.items + length l.times.items;
  times : AreAllNone l.times.items;
  tree : AreAllNone l.tree.items;
}

abbrev pub decreases-loop-times : goal.decreases-loop-times
decreases-loop-times l = l.len - length l.times.items
