-- So many were told of, and there is room for as many as there was.
use Rattle.std.proofs.Common.{length, ◌-◌, ◌≡◌, ◌≤◌}
use Rattle.test_devices.proofs.memory_network.tell_all.Given as goal

abbrev pub invariant-loop-count : goal.invariant-loop-count
invariant-loop-count l = record {
  len : length l.found ≡ length l.fn.found;
  count : l.count ≤ length l.found;
}

abbrev pub decreases-loop-count : goal.decreases-loop-count
decreases-loop-count l = length l.found - l.count
