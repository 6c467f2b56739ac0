-- Case after case: the lines are those of the cases so far, with their titles.
use Rattle.std.proofs.Common.{◌≡◌, flat_map, string_bytes, take}
use Rattle.wst_commands.specs.Cases.{titled_line}
use Rattle.wst_commands.proofs.cases.titled_lines.Given as goal

-- the lines of the cases so far
abbrev pub invariant-loop-case : goal.invariant-loop-case
invariant-loop-case l = string_bytes l.lines ≡ flat_map titled_line (take l.case-index l.cases)
