-- A script that stands before another has a smaller number.
use Rattle.ws_sweep.proofs.OrderLaws.{before_is_smaller}
use Rattle.ws_sweep.proofs.laws.numbers_follow_the_order.Goals as goal

pub returns : goal.returns
returns c = before_is_smaller
