-- One address after the other: the first that can be listened at, or none.
use Rattle.std.proofs.Common.{arith}
use Rattle.ws_networks.proofs.ListenLemmas.{bound_at, none_bound, one_refused}
use Rattle.ws_networks.proofs.listening.listen_at.Goals as goal

pub returns-in-Ok-clause-tried : goal.returns-in-Ok-clause-tried
returns-in-Ok-clause-tried g c = bound_at g.N.Network.did c.args.network.now c.loop-tried.network c.bind.new.self
    c.args.addresses.now c.loop-tried.tried c.address_at-address.result c.loop-tried.first
    c.address_at-address.ensures c.loop-tried.invariant c.in-Ok.ensures.did

pub loop-tried-preserved : goal.loop-tried-preserved
loop-tried-preserved g c = one_refused g.N.Network.did c.args.network.now c.loop-tried.network c.bind.new.self
    c.args.addresses.now c.loop-tried.tried c.address_at-address.result c.loop-tried.first c.first_of-first.result
    c.in-Err.why (omega (arith, c.loop-tried-test.true)) c.address_at-address.ensures c.first_of-first.ensures
    c.loop-tried.invariant c.in-Err.ensures.did

pub returns-clause-tried : goal.returns-clause-tried
returns-clause-tried g c = none_bound g.N.Network.did c.args.network.now c.loop-tried.network c.args.addresses.now
    c.loop-tried.tried c.loop-tried.first (omega (arith, c.loop-tried-test.false)) c.loop-tried.invariant
