-- Byte after byte: which word is lower is told by what is left of both.
use Rattle.std.proofs.Common.{◌≡◌, drop}
use Rattle.wst_commands.specs.StepWords.{is_not_above}
use Rattle.wst_commands.proofs.step_words.is_not_above.Given as goal

abbrev pub invariant-loop-byte : goal.invariant-loop-byte
invariant-loop-byte l = is_not_above l.word l.most ≡ is_not_above (drop l.byte-index l.word) l.limit
