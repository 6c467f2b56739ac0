-- What was held before is seen from outside.
use Rattle.std.proofs.Common.{[]}
use Rattle.ws_clients.specs.Clients.{clients_value, held_streams}
use Rattle.ws_clients.proofs.ClientLemmas.{always_so, fresh_seen, held_seen, only_seen, takes_seen}
use Rattle.ws_clients.proofs.ServedLemmas.{serves_seen}
use Rattle.ws_clients.proofs.clients.Clients.next.Goals as goal

pub returns-clause-fresh : goal.returns-clause-fresh
returns-clause-fresh g c = fresh_seen 0 _ c.args.self.now [] c.self.view_is c.next_inside.result
    c.next_inside.ensures.fresh

pub returns-clause-held : goal.returns-clause-held
returns-clause-held g c = held_seen 0 _ c.args.self.now [] c.self.view_is c.next_inside.result
    (held_streams c.next_inside.new.inside.held.items) c.next_inside.ensures.held

pub returns-clause-only : goal.returns-clause-only
returns-clause-only g c = only_seen 0 _ c.args.self.now c.next_inside.new.inside.all.places c.self.view_is
    c.next_inside.result c.next_inside.ensures.only

pub returns-clause-takes : goal.returns-clause-takes
returns-clause-takes g c = takes_seen 0 _ c.args.self.now [] c.self.view_is g.L.Listener.did c.args.listener.now
    c.next_inside.new.listener (clients_value [] c.next_inside.new.inside.limits c.next_inside.new.inside.all
    c.next_inside.new.inside.held.items c.next_inside.new.inside.taken c.next_inside.new.inside.numbers.items)
    c.next_inside.result c.next_inside.ensures.takes

pub returns-clause-apart : goal.returns-clause-apart
returns-clause-apart g c = always_so c.next_inside.result _ c.next_inside.ensures.counted.are

pub returns-clause-goes_on : goal.returns-clause-goes_on
returns-clause-goes_on g c = serves_seen g.M.Machine.agrees g.M.Machine.wants g.S.NonBlocking.did _ c.args.self.now
    c.next_inside.new.inside.all.places (g.P.Poller.time c.args.poller.now) (g.P.Poller.time c.next_inside.new.poller)
    c.next_inside.result c.self.view_is c.next_inside.ensures.goes_on
