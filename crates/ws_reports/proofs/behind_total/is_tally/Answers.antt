-- Such a line is cut at its first colon.
use Rattle.ws_reports.proofs.BehindTotals.{no_verdict_line, verdict_line_read}
use Rattle.ws_reports.proofs.behind_total.is_tally.Goals as goal

pub returns-in-Some : goal.returns-in-Some
returns-in-Some c =
    verdict_line_read c.args.line.now c.in-Some.front.now c.in-Some.cases.now c.is_tally_of.result c.in-Some.ensures
    c.is_tally_of.ensures

pub returns-in-None : goal.returns-in-None
returns-in-None c = no_verdict_line c.args.line.now c.in-None.ensures
