-- Two scripts of one number are one.
use Rattle.ws_sweep.proofs.OrderLaws.{one_script}
use Rattle.ws_sweep.proofs.laws.no_script_comes_twice.Goals as goal

pub returns : goal.returns
returns c = one_script
