-- The first count is read, and then the others.
use Rattle.std.proofs.Common.{codes}
use Rattle.ws_reports.specs.KnownLines.{CountsNew, CountsSame}
use Rattle.ws_reports.proofs.BehindTotals.{count_then}
use Rattle.ws_reports.proofs.Parts.{told_false}
use Rattle.ws_reports.proofs.behind_total.counts_same.Goals as goal

pub returns-in-Some : goal.returns-in-Some
returns-in-Some c = count_then CountsNew c.args.line.now (codes "same, ") c.in-Some.rest.now c.counts_new.result
    c.in-Some.ensures c.counts_new.ensures

pub returns-in-None : goal.returns-in-None
returns-in-None c = told_false (CountsSame c.args.line.now) (λ (rest, has, others). c.in-None.ensures rest has)
