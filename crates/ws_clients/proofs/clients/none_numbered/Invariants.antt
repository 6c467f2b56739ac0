-- So far there are no more places than are wanted, and no number stands beside any.
use Rattle.std.proofs.Common.{◌-◌, ◌≤◌, length}
use Rattle.ws_clients.specs.Numbers.{AreUnnumbered}
use Rattle.ws_clients.proofs.clients.none_numbered.Given as goal

abbrev pub invariant-loop-numbers : goal.invariant-loop-numbers
invariant-loop-numbers l = record {
  within : length l.numbers.items ≤ l.len;
  none : AreUnnumbered l.numbers.items;
}

abbrev pub decreases-loop-numbers : goal.decreases-loop-numbers
decreases-loop-numbers l = l.len - length l.numbers.items
