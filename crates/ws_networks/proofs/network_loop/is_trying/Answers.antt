-- It is as what goes on there says.
use Rattle.std.proofs.Common.{◌≡◌, ◌↔◌, subst, true}
use Rattle.ws_networks.specs.NetworkLoops.{IsTryingAt}
use Rattle.ws_networks.specs.declared.network_loop.Outbound.{Outbound}
use Rattle.ws_networks.proofs.BoardLemmas.{not_trying, trying_iff, trying_of}
use Rattle.ws_networks.proofs.network_loop.is_trying.Goals as goal

pub returns-in-Trying : goal.returns-in-Trying
returns-in-Trying g c =
    let outbound = c.args.outbound.now in
    subst (λ (o : Outbound g.row.M.Denot g.row.A.Denot g.row.S.Denot g.row.W.Denot). (trying_of o ≡ true)
    ↔ IsTryingAt outbound c.args.at) c.in-Trying.is (trying_iff outbound c.args.at c.outbound_at.result.now c.outbound_at.ensures)

pub returns-in-Idle : goal.returns-in-Idle
returns-in-Idle g c =
    not_trying c.args.outbound.now c.args.at c.outbound_at.result.now c.outbound_at.ensures c.in-Idle.is

pub returns-in-Idle-2 : goal.returns-in-Idle-2
returns-in-Idle-2 g c =
    not_trying c.args.outbound.now c.args.at c.outbound_at.result.now c.outbound_at.ensures c.in-Idle.is
