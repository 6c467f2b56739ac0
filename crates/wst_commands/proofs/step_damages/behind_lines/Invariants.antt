-- Line after line: what is left stands behind as many as were cut off.
use Rattle.std.proofs.Common.{◌≡◌}
use Rattle.wst_commands.specs.StepDamages.{behind_lines}
use Rattle.wst_commands.proofs.step_damages.behind_lines.Given as goal

abbrev pub invariant-loop : goal.invariant-loop
invariant-loop l = l.rest ≡ behind_lines l.counter l.text
