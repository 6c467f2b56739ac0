-- The first place that is empty is the first in which nothing stands.
use Rattle.std.proofs.Common.{subst, sym}
use Rattle.ws_networks.specs.NetworkLoops.{IsNetworkSound}
use Rattle.ws_networks.proofs.BoardLemmas.{first_free}
use Rattle.ws_networks.proofs.network_loop.free_in.Goals as goal

pub returns-clause-free : goal.returns-clause-free
returns-clause-free g c = first_free g.M.Machine.agrees g.M.Machine.wants g.S.NonBlocking.did c.free_place.new.self
    c.args.board.now.outbound.items c.free_place.result
    (subst (λ l. IsNetworkSound g.M.Machine.agrees g.M.Machine.wants g.S.NonBlocking.did l
    c.args.board.now.outbound.items) (sym c.free_place.ensures.same) c.requires.whole) c.free_place.ensures.free
