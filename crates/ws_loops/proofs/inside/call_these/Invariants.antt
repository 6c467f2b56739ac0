-- The first of these places are called.
use Rattle.std.proofs.Common.{◌≤◌, ◌-◌, length}
use Rattle.ws_loops.specs.Inside.{AreCalledTo}
use Rattle.ws_loops.proofs.inside.call_these.Given as goal

abbrev pub invariant-loop-next : goal.invariant-loop-next
invariant-loop-next l = record {
  next : l.next ≤ length l.these;
  called : AreCalledTo l.these l.next l.fn.calls.items l.calls.items;
}

abbrev pub decreases-loop-next : goal.decreases-loop-next
decreases-loop-next l = length l.these - l.next
