-- A remark begins one byte before the first bracket.
use Rattle.std.proofs.Common.{rules}
use Rattle.ws_reports.proofs.Cuts.{cuts_none, cuts_remark}
use Rattle.ws_reports.proofs.known_line.cut_remark.Goals as goal

pub returns-in-Some : goal.returns-in-Some
returns-in-Some c =
    cuts_remark c.args.rest.now c.in-Some.front.now c.in-Some.field-0-1.now c.split_at.result.0.now
    c.split_at.result.1.now c.in-Some.ensures (search rules) (search rules) (search rules)

pub returns-in-None : goal.returns-in-None
returns-in-None c = cuts_none c.args.rest.now c.in-None.ensures
