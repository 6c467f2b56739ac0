-- The places of the first of these are called.
use Rattle.std.proofs.Common.{◌≤◌, ◌-◌, take}
use Rattle.ws_loops.specs.Inside.{HasMarkedTo}
use Rattle.ws_loops.proofs.inside.mark_all.Given as goal

abbrev pub invariant-loop-next : goal.invariant-loop-next
invariant-loop-next g l = record {
  next : l.next ≤ l.count;
  marked : HasMarkedTo (take l.count l.fn.inside.found.items) l.next l.fn.inside l.inside;
}

abbrev pub decreases-loop-next : goal.decreases-loop-next
decreases-loop-next g l = l.count - l.next
