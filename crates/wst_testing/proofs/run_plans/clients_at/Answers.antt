-- A word to which clients can't come is told by how it begins.
use Rattle.std.proofs.Common.{IsTrue}
use Rattle.wst_testing.specs.RunPlans.{IsClientsAddress}
use Rattle.wst_testing.proofs.PlanLemmas.{address_refused}
use Rattle.wst_testing.proofs.run_plans.clients_at.Goals as goal

pub returns-else-is_clients_address : goal.returns-else-is_clients_address
returns-else-is_clients_address c =
    let lacks : ¬ (IsClientsAddress c.args.word.now) = λ holds.
    let wrong : IsTrue c.is_clients_address.result = c.is_clients_address.ensures.1 holds in absurd cc in
    address_refused c.args.word.now c.clients_advice.result (c.requires.own, c.requires.tung) lacks c.clients_advice.ensures
