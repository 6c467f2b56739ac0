-- What is read whole is the text on which a report is written.
use Rattle.std.proofs.Common.{inl}
use Rattle.wst_commands.proofs.report.report_input.Goals as goal

pub returns-in-Ok : goal.returns-in-Ok
returns-in-Ok g c = inl (c.in-Ok.text.items, c.in-Ok.ensures, c.report_text.ensures)
