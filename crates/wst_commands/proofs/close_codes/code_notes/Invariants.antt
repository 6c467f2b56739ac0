-- Line after line: the notes so far are those of the lines that were cut off, and what is left stands behind them.
use Rattle.std.proofs.Common.{◌≡◌, ◌+◌, ◌≤◌, length, string_bytes}
use Rattle.wst_commands.specs.CloseCodes.{notes_before}
use Rattle.wst_commands.specs.StepDamages.{behind_lines}
use Rattle.wst_commands.proofs.close_codes.code_notes.Given as goal

-- the notes of so many lines, and what stands behind them
abbrev pub invariant-loop-line : goal.invariant-loop-line
invariant-loop-line l = (string_bytes l.notes ≡ notes_before l.number l.script)
    × (l.rest ≡ behind_lines l.number l.script) × (l.number + length l.rest ≤ length l.script)

abbrev pub decreases-loop-line : goal.decreases-loop-line
decreases-loop-line l = length l.rest
