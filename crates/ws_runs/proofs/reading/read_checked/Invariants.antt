-- What is left has the lines of runs, and decides what all lines say.
use Rattle.std.proofs.Common.{List, length}
use Rattle.ws_runs.specs.RunLines.{AreRunLines, RunLine}
use Rattle.ws_runs.proofs.ReadLemmas.{Decides}
use Rattle.ws_runs.proofs.reading.read_checked.Given as goal

abbrev pub invariant-loop-line : goal.invariant-loop-line
invariant-loop-line l =
    ((left : List RunLine) × AreRunLines left l.rest) × Decides l.reading l.rest l.fn.text

abbrev pub decreases-loop-line : goal.decreases-loop-line
decreases-loop-line l = length l.rest
