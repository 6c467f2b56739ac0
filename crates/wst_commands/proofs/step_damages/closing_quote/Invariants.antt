-- Byte after byte: where the text ends is told by those that are left.
use Rattle.std.proofs.Common.{◌≡◌, drop, false}
use Rattle.wst_commands.specs.StepDamages.{closing_from}
use Rattle.wst_commands.proofs.step_damages.closing_quote.Given as goal

abbrev pub invariant-loop-byte : goal.invariant-loop-byte
invariant-loop-byte l =
    (closing_from false 0 l.bytes ≡ closing_from l.escaped l.at (drop l.byte-index l.bytes)) × (l.at ≡ l.byte-index)
