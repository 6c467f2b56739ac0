-- So far these addresses were tried, and have taken no connection.
use Rattle.std.proofs.Common.{◌-◌, length}
use Rattle.ws_networks.proofs.DialLemmas.{HaveTried}
use Rattle.ws_networks.proofs.dialing.try_next.Given as goal

abbrev pub invariant-loop-tries : goal.invariant-loop-tries
invariant-loop-tries g l = HaveTried g.N.Network.did l.at l.now l.fn.tries l.tries l.fn.network l.network

abbrev pub decreases-loop-tries : goal.decreases-loop-tries
decreases-loop-tries g l = length l.tries.addresses.items - l.tries.missed
