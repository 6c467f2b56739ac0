-- The addresses in front of this place were tried, and none could be listened at.
use Rattle.std.proofs.Common.{◌-◌, length}
use Rattle.ws_networks.proofs.ListenLemmas.{RefusedSoFar}
use Rattle.ws_networks.proofs.listening.listen_at.Given as goal

abbrev pub invariant-loop-tried : goal.invariant-loop-tried
invariant-loop-tried g l = RefusedSoFar g.N.Network.did l.fn.network l.network l.addresses l.tried l.first

abbrev pub decreases-loop-tried : goal.decreases-loop-tried
decreases-loop-tried g l = length l.addresses - l.tried
