-- What stands behind the lines that are left is behind all of them.
use Rattle.std.proofs.Common.{◌≡◌}
use Rattle.ws_runs.specs.NameLines.{from_line}
use Rattle.ws_runs.proofs.name_line.from_line.Given as goal

abbrev pub invariant-loop-left : goal.invariant-loop-left
invariant-loop-left l = from_line l.left l.rest ≡ from_line l.fn.lines l.fn.text

abbrev pub decreases-loop-left : goal.decreases-loop-left
decreases-loop-left l = l.left
