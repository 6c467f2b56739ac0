-- The moves of the lines that were read were played, and the report is of them.
use Rattle.wst_commands.proofs.pair.report_in.Goals as goal

pub returns-in-Ok : goal.returns-in-Ok
returns-in-Ok g c =
    let t = c.in-Ok.ensures in
    (t.0, t.1, (t.2.0, t.2.1, c.report.ensures c.args.client c.args.server c.new.result t.2.0 c.new.ensures t.2.2))
