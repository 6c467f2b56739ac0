-- What is known so far, behind which the lines that are left decide.
use Rattle.std.proofs.Common.{◌≡◌, List, ℕ, Option, drop}
use Rattle.ws_reports.specs.Known.{IsKnownAs, known_after, known_verdict}
use Rattle.ws_reports.proofs.known.KnownVerdicts.verdict_of.Given as goal

abbrev pub invariant-loop-line : goal.invariant-loop-line
invariant-loop-line l = (known : Option (List ℕ))
    × (known_after l.id known (drop l.line-index l.line-items) ≡ known_verdict l.id l.line-items) × IsKnownAs known l.found
