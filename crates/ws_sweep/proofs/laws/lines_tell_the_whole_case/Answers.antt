-- The steps of a case are those of a script, or these and what was put behind them.
use Rattle.ws_sweep.proofs.Lines.{whole_case_told}
use Rattle.ws_sweep.proofs.laws.lines_tell_the_whole_case.Goals as goal

pub returns : goal.returns
returns c = whole_case_told
