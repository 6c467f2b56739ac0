-- The lines read so far were taken, and what is left of the text follows them.
use Rattle.std.proofs.Common.{◌≡◌, ◌+◌, ◌≤◌, ◌++◌, List, ℕ, length}
use Rattle.std.specs.List.{AllByRecursion}
use Rattle.ws_formats.specs.Lines.{IsLine, ended}
use Rattle.ws_formats.proofs.lines.read_by_lines.Given as goal

-- the lines so far stand in front of the rest; what tells a value after them tells it with them, and goes on after them
abbrev pub invariant-loop-rest : goal.invariant-loop-rest
invariant-loop-rest g l = (lines : List (List ℕ)) × AllByRecursion IsLine lines × (l.fn.text ≡ ended lines ++ l.rest)
    × (l.number ≡ length lines + 1) × (l.number + length l.rest ≤ length l.fn.text + 1)
    × ((value : _) (more : List (List ℕ))
    → (g.P.PartialText.tells l.fn.start value (lines ++ more)
    → (other : _) × g.P.PartialText.tells l.part other more)
    × (g.P.PartialText.tells l.part value more → g.P.PartialText.tells l.fn.start value (lines ++ more)))

abbrev pub decreases-loop-rest : goal.decreases-loop-rest
decreases-loop-rest g l = length l.rest
