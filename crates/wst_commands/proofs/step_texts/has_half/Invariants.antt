-- Byte after byte: whether a half stands alone is told by those that are left, and by how many come before a second half.
use Rattle.std.proofs.Common.{◌≡◌, length}
use Rattle.wst_commands.specs.StepTexts.{has_half, half_stands_alone}
use Rattle.wst_commands.proofs.step_texts.has_half.Given as goal

abbrev pub invariant-loop-rest : goal.invariant-loop-rest
invariant-loop-rest l = has_half l.text ≡ half_stands_alone l.left l.rest

abbrev pub decreases-loop-rest : goal.decreases-loop-rest
decreases-loop-rest l = length l.rest
