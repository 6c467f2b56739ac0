-- Escape after escape: whether one is wrong is told by those that are left.
use Rattle.std.proofs.Common.{◌≡◌, length}
use Rattle.wst_commands.specs.StepTexts.{has_wrong_escape}
use Rattle.wst_commands.proofs.step_texts.has_wrong_escape.Given as goal

abbrev pub invariant-loop-rest : goal.invariant-loop-rest
invariant-loop-rest l = has_wrong_escape l.text ≡ has_wrong_escape l.rest

abbrev pub decreases-loop-rest : goal.decreases-loop-rest
decreases-loop-rest l = length l.rest
