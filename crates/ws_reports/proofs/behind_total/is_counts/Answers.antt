-- The counts stand behind their name.
use Rattle.std.proofs.Common.{codes}
use Rattle.ws_reports.specs.KnownLines.{CountsSame, IsKnownCounts}
use Rattle.ws_reports.proofs.BehindTotals.{behind_then}
use Rattle.ws_reports.proofs.Parts.{told_false}
use Rattle.ws_reports.proofs.behind_total.is_counts.Goals as goal

pub returns-in-Some : goal.returns-in-Some
returns-in-Some c = behind_then CountsSame c.args.line.now (codes "known: ") c.in-Some.counts.now
    c.counts_same.result c.in-Some.ensures c.counts_same.ensures

pub returns-in-None : goal.returns-in-None
returns-in-None c = told_false (IsKnownCounts c.args.line.now) (λ (counts, e, same). c.in-None.ensures counts e)
