-- The calls of the lines that were read were made, and what came of them is told.
use Rattle.wst_commands.proofs.session.echo_lines.Goals as goal

pub returns-in-Ok-echo_report : goal.returns-in-Ok-echo_report
returns-in-Ok-echo_report g c =
    let t = c.in-Ok.ensures in
    (t.0, t.1, (t.2.0, t.2.1, c.in-Ok-echo_report.ensures c.args.role c.args.limits c.of_echo.result t.2.0 c.of_echo.ensures t.2.2))
