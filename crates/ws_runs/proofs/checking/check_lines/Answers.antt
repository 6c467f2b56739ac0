-- Lines that are each of runs are those of runs.
use Rattle.ws_runs.proofs.CheckLemmas.{checked}
use Rattle.ws_runs.proofs.checking.check_lines.Goals as goal

pub returns : goal.returns
returns c = checked _ c.args.text.now c.read_by_lines.result c.read_by_lines.ensures
