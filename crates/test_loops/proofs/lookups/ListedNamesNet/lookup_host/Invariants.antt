-- The addresses so far fit into the room for them.
use Rattle.std.proofs.Common.{◌≤◌, length}
use Rattle.test_loops.proofs.lookups.ListedNamesNet.lookup_host.Given as goal

abbrev pub invariant-loop-word : goal.invariant-loop-word
invariant-loop-word g l = l.count ≤ length l.found
