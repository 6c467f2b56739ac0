-- Who is seen out was there before.
use Rattle.ws_clients.proofs.ServedLemmas.{ends_seen}
use Rattle.ws_clients.proofs.clients.Clients.end.Goals as goal

pub returns-clause-ends : goal.returns-clause-ends
returns-clause-ends g c = ends_seen g.M.Machine.agrees g.M.Machine.wants g.S.NonBlocking.did _ c.args.self.now
    (g.P.Poller.time c.args.poller.now) (g.P.Poller.time c.end_inside.new.poller) c.end_inside.result
    c.self.view_is c.end_inside.ensures.ends
