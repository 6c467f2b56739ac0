-- The first ones are given up, and the others are as they were.
use Rattle.std.proofs.Common.{◌-◌, length}
use Rattle.ws_networks.specs.NetworkLoops.{AreFree}
use Rattle.wst_errands.proofs.GivingLemmas.{AreGivenUpTo}
use Rattle.wst_errands.proofs.errands.give_up.Given as goal

abbrev pub invariant-loop-place : goal.invariant-loop-place
invariant-loop-place g l = record {
  free : AreFree l.all.standings;
  given_up : AreGivenUpTo l.fn.line.items l.line.items l.place;
}

abbrev pub decreases-loop-place : goal.decreases-loop-place
decreases-loop-place g l = length l.line.items - l.place
