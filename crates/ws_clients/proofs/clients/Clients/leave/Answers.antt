-- Who waits is seen from outside.
use Rattle.ws_clients.proofs.ClientLemmas.{left_seen, lingers_seen, no_more_seen, numbers_seen}
use Rattle.ws_clients.proofs.clients.Clients.leave.Goals as goal

pub returns-clause-leaves : goal.returns-clause-leaves
returns-clause-leaves g c = left_seen c.args.at _ c.args.self.now c.leave_inside.new.inside.all.places c.self.view_is
    g.S.NonBlocking.did (λ stream held. c.leave_inside.ensures.leaves stream held)

pub returns-clause-lingers : goal.returns-clause-lingers
returns-clause-lingers g c = lingers_seen c.args.at _ c.args.self.now c.leave_inside.new.inside.all.places
    c.self.view_is c.args.now (λ stream held. c.leave_inside.ensures.lingers stream held)

pub returns-clause-only : goal.returns-clause-only
returns-clause-only g c = no_more_seen c.args.at _ c.args.self.now c.leave_inside.new.inside.all.places c.self.view_is
    c.leave_inside.ensures.only

pub returns-clause-numbers : goal.returns-clause-numbers
returns-clause-numbers g c = numbers_seen c.args.at _ c.args.self.now c.leave_inside.new.inside.all.places
    c.self.view_is c.leave_inside.new.inside.numbers.items c.leave_inside.ensures.numbers
