-- A script has so many steps at most exactly where its number is less than the count of these.
use Rattle.ws_sweep.proofs.OrderLaws.{counted}
use Rattle.ws_sweep.proofs.laws.scripts_are_counted.Goals as goal

pub returns : goal.returns
returns c = counted
