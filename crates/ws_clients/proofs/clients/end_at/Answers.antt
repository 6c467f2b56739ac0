-- All other places stand as they did.
use Rattle.ws_clients.proofs.ServedLemmas.{rest_then}
use Rattle.ws_clients.proofs.clients.end_at.Goals as goal

pub returns-clause-rest : goal.returns-clause-rest
returns-clause-rest g c = rest_then c.args.at c.args.inside.now.all.places c.ended_at.new.inside.all.places
    c.leave_inside.new.inside.all.places c.in_ok-ended_at.ensures.rest c.leave_inside.ensures.rest
