-- What was found in the parts so far, behind which those of the rest stand.
use Rattle.std.proofs.Common.{length}
use Rattle.ws_paths.proofs.Naming.{HasFound}
use Rattle.ws_paths.proofs.named_case.find_case.Given as goal

abbrev pub invariant-loop-part : goal.invariant-loop-part
invariant-loop-part l = HasFound l.fn.query l.rest l.found

abbrev pub decreases-loop-part : goal.decreases-loop-part
decreases-loop-part l = length l.rest
