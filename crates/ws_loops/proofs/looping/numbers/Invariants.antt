-- All numbers below this one are in the list.
use Rattle.std.proofs.Common.{◌-◌, ◌≤◌}
use Rattle.ws_loops.specs.Loops.{HasAll}
use Rattle.ws_loops.proofs.looping.numbers.Given as goal

abbrev pub invariant-loop-next : goal.invariant-loop-next
invariant-loop-next l = record {
  within : l.next ≤ l.len;
  all : HasAll l.all.items l.next;
}

abbrev pub decreases-loop-next : goal.decreases-loop-next
decreases-loop-next l = l.len - l.next
