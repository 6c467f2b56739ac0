-- The lines so far are below.
use Rattle.std.proofs.Common.{ℕ, List, length}
use Rattle.ws_runs.proofs.ReadLemmas.{IsBelowSoFar}
use Rattle.ws_runs.proofs.reading.below_text.Given as goal

abbrev pub invariant-loop-line : goal.invariant-loop-line
invariant-loop-line l = (front : List ℕ) × IsBelowSoFar front l.rest l.fn.text

abbrev pub decreases-loop-line : goal.decreases-loop-line
decreases-loop-line l = length l.rest
