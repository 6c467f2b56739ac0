-- The list of cases is that of their names.
use Rattle.wst_commands.proofs.report.junit_of.Goals as goal

pub returns : goal.returns
returns c = (c.args.listed.now, c.requires, c.in_ok-document.ensures)
