-- What is left of both decides.
use Rattle.std.proofs.Common.{◌≡◌, length}
use Rattle.ws_runs.specs.Summary.{are_one_section}
use Rattle.ws_runs.proofs.id_runs.are_one_section.Given as goal

abbrev pub invariant-loop-byte : goal.invariant-loop-byte
invariant-loop-byte l = are_one_section l.left l.right ≡ are_one_section l.fn.one l.fn.other

abbrev pub decreases-loop-byte : goal.decreases-loop-byte
decreases-loop-byte l = length l.left
