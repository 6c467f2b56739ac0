-- The limit is seen from outside.
use Rattle.ws_clients.proofs.ClientLemmas.{limit_seen, there_seen}
use Rattle.ws_clients.proofs.clients.Clients.play.Goals as goal

pub returns-clause-limit : goal.returns-clause-limit
returns-clause-limit g c = limit_seen c.args.at _ c.args.self.now c.play_inside.new.inside.all.places c.self.view_is
    c.play_inside.result (λ yes. c.play_inside.ensures.limit yes)

pub returns-clause-only : goal.returns-clause-only
returns-clause-only g c = there_seen c.args.at _ c.args.self.now c.play_inside.new.inside.all.places c.self.view_is
    (λ other plays. c.play_inside.ensures.only other plays)
