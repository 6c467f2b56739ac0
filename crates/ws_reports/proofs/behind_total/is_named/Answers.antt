-- A space stands last.
use Rattle.ws_reports.specs.KnownLines.{IsNamedVerdict}
use Rattle.ws_reports.proofs.BehindTotals.{named_read}
use Rattle.ws_reports.proofs.Parts.{told_false}
use Rattle.ws_reports.proofs.behind_total.is_named.Goals as goal

pub returns-in-Some : goal.returns-in-Some
returns-in-Some c = named_read c.args.named.now c.in-Some.words.now c.is_other_verdict.result c.in-Some.ensures
    c.is_other_verdict.ensures

pub returns-in-None : goal.returns-in-None
returns-in-None c =
    told_false (IsNamedVerdict c.args.named.now) (λ (words, is, other, e). c.in-None.ensures words e)
