-- Each turn takes two words.
use Rattle.std.proofs.Common.{length}
use Rattle.test_row_scripts.proofs.paths.tell_purposes.Given as goal

abbrev pub decreases-loop-rest : goal.decreases-loop-rest
decreases-loop-rest l = length l.rest
