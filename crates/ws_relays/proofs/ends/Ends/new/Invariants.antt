-- So far nothing is beside the first places.
use Rattle.std.proofs.Common.{◌-◌, ◌≤◌, length}
use Rattle.ws_relays.proofs.ends.Ends.new.Given as goal

abbrev pub invariant-loop-beside : goal.invariant-loop-beside
invariant-loop-beside g l = length l.beside.items ≤ l.len

abbrev pub decreases-loop-beside : goal.decreases-loop-beside
decreases-loop-beside g l = l.len - length l.beside.items
