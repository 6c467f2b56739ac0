-- The times are the leaves, and all nodes but this one and that which it is below are in order.
use Rattle.std.proofs.Common.{◌≡◌, ◌+◌, ◌<◌, ◌≤◌, ℕ, Option, Some, length, slice_set}
use Rattle.std.specs.List.{slice_get}
use Rattle.ws_loops.proofs.LimitLemmas.{IsInOrderBut}
use Rattle.ws_loops.proofs.limits.set_limit.Given as goal

abbrev pub invariant-loop-node : goal.invariant-loop-node
invariant-loop-node l = record {
  node : 1 ≤ l.node;
  within : l.node < length l.limits.tree.items;
  set : l.limits.times.items ≡ slice_set l.fn.limits.times.items l.at l.fn.time;
  len : length l.limits.tree.items ≡ length l.limits.times.items + length l.limits.times.items;
  leaf : (i : ℕ) (x : Option ℕ) → slice_get l.limits.times.items i ≡ Some x
      → slice_get l.limits.tree.items (length l.limits.times.items + i) ≡ Some x;
  order : IsInOrderBut l.limits.tree.items l.node;
}

abbrev pub decreases-loop-node : goal.decreases-loop-node
decreases-loop-node l = l.node
