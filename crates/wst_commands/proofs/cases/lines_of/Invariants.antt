-- Case after case: the lines are those of the cases so far.
use Rattle.std.proofs.Common.{◌≡◌, flat_map, string_bytes, take}
use Rattle.wst_commands.specs.Cases.{case_line}
use Rattle.wst_commands.proofs.cases.lines_of.Given as goal

-- the lines of the cases so far
abbrev pub invariant-loop-case : goal.invariant-loop-case
invariant-loop-case l = string_bytes l.lines ≡ flat_map case_line (take l.case-index l.cases)
