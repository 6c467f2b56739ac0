-- A total is three counts.
use Rattle.std.proofs.Common.{[], List, ℕ, codes, subst}
use Rattle.std.proofs.lemmas.Bool.{false≢true}
use Rattle.ws_reports.specs.KnownLines.{HasCount}
use Rattle.ws_reports.proofs.Parts.{one_passes}
use Rattle.ws_reports.proofs.known_line.is_total.Goals as goal

pub returns-in-Some : goal.returns-in-Some
returns-in-Some c = (
  λ is. (c.in-Some.ensures.0, c.in-Some.rest.now, c.in-Some.ensures.1, c.in-Some.ensures.2, c.is_count_of.ensures.0 is),
  λ (pass, loose, first, second, last). c.is_count_of.ensures.1 (subst (λ (l : List ℕ). HasCount (codes "fail") [] l)
      (one_passes c.args.line.now loose c.in-Some.rest.now (pass, first, second) c.in-Some.ensures) last),
)

pub returns-in-None : goal.returns-in-None
returns-in-None c = (
  λ wrong. absurd (false≢true wrong),
  λ (pass, loose, first, second, last). absurd (c.in-None.ensures loose (pass, first, second)),
)
