-- The calls of the lines that were read were made, and what came of them is told.
use Rattle.wst_commands.proofs.session.session_lines.Goals as goal

pub returns-in-Ok-session_report : goal.returns-in-Ok-session_report
returns-in-Ok-session_report g c =
    let t = c.in-Ok.ensures in
    (t.0, t.1, (t.2.0, t.2.1, c.in-Ok-session_report.ensures c.args.role c.args.limits c.of_session.result t.2.0 c.of_session.ensures t.2.2))
