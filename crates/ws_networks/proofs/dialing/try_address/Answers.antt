-- It was begun, and asked for once; or it could not be begun.
use Rattle.std.proofs.Common.{[], subst, sym}
use Rattle.ws_networks.specs.Connecting.{HasTriedOne, IfTried}
use Rattle.ws_networks.specs.declared.dialing.Tried.{Tried}
use Rattle.ws_networks.proofs.TryLemmas.{begun_so, fresh_so, not_begun}
use Rattle.ws_networks.proofs.dialing.try_address.Goals as goal

pub returns-in-Ok-clause-tried : goal.returns-in-Ok-clause-tried
returns-in-Ok-clause-tried g c = subst (λ (t : Tried g.row.N-Stream.Denot g.row.N-Miss.Denot).
    HasTriedOne g.N.Network.did c.args.at c.args.bounds c.args.now c.args.network.now c.progress-progress.new.self
    c.args.address t) (sym c.outcome_of.ensures)
    (begun_so g.N.Network.did c.args.at c.args.bounds c.args.now c.args.network.now c.begin.new.self
    c.progress-progress.new.self c.args.address c.in-Ok.stream c.progress-progress.result c.is_given_up.result
    c.in-Ok.ensures.did c.progress-progress.ensures c.is_given_up.ensures)

pub returns-in-Ok-clause-fresh : goal.returns-in-Ok-clause-fresh
returns-in-Ok-clause-fresh g c = subst (λ (t : Tried g.row.N-Stream.Denot g.row.N-Miss.Denot). IfTried t
    (λ s. g.N.Stream.NonBlocking.did s s [])) (sym c.outcome_of.ensures)
    (fresh_so (λ s. g.N.Stream.NonBlocking.did s s []) c.in-Ok.stream c.progress-progress.result c.is_given_up.result
    c.in-Ok.ensures.fresh)

pub returns-in-Err-clause-tried : goal.returns-in-Err-clause-tried
returns-in-Err-clause-tried g c = not_begun g.row.N-Stream.Denot g.N.Network.did c.args.at c.args.bounds c.args.now c.args.network.now
    c.begin.new.self c.args.address c.in-Err.why c.in-Err.ensures.did
