-- Byte after byte: whether such a character is there is told by those that are left, behind the last.
use Rattle.std.proofs.Common.{◌≡◌, drop}
use Rattle.wst_commands.specs.StepTexts.{has_high_control, high_control_from}
use Rattle.wst_commands.proofs.step_texts.has_high_control.Given as goal

abbrev pub invariant-loop-byte : goal.invariant-loop-byte
invariant-loop-byte l = has_high_control l.text ≡ high_control_from l.led (drop l.byte-index l.text)
