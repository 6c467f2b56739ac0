-- The count begins with the first digit.
use Rattle.ws_reports.specs.KnownLines.{IsCountedVerdict}
use Rattle.ws_reports.proofs.BehindTotals.{counted_none, counted_read}
use Rattle.ws_reports.proofs.Parts.{told_false}
use Rattle.ws_reports.proofs.behind_total.is_counted_verdict.Goals as goal

pub returns-in-Some : goal.returns-in-Some
returns-in-Some c =
    counted_read c.args.front.now c.in-Some.named.now c.in-Some.field-0-1
    c.in-Some.rest.now c.is_named_count.result c.in-Some.ensures c.is_named_count.ensures

pub returns-in-None : goal.returns-in-None
returns-in-None c =
    told_false (IsCountedVerdict c.args.front.now) (counted_none c.args.front.now c.in-None.ensures)
