-- What is told of the turn that was taken follows from it.
use Rattle.ws_frame.specs.Devices.{watched}
use Rattle.wst_clients.specs.Visits.{AreFailing, BreaksTurn, Met, Unmet, unmet_by}
use Rattle.wst_clients.proofs.ClientLemmas.{fault_stops, told_next, untold_next, where_err}
use Rattle.wst_clients.proofs.testing_clients.next_outcome.Goals as goal

pub returns-in_ok-came-in-Ok-clause-comes : goal.returns-in_ok-came-in-Ok-clause-comes
returns-in_ok-came-in-Ok-clause-comes g c =
    let m : Met = record { visits = g.C.TestedClients.visits; passes = g.C.TestedClients.passes } in
    let u : Unmet = unmet_by g.C.TestedClients.none g.C.TestedClients.fails in
    told_next m u c.args.round.rules.now c.args.round.standing.now c.in-Ok.taken c.in_ok-came-in-Ok.came
    (watched g.F.Write.contents c.args.faults.now c.next_visit.new.faults) c.in-Ok.ensures.visits
    c.in-Ok.ensures.inside c.in_ok-came-in-Ok.ensures

pub returns-in_err-came-in-Ok-clause-lacks : goal.returns-in_err-came-in-Ok-clause-lacks
returns-in_err-came-in-Ok-clause-lacks g c =
    let m : Met = record { visits = g.C.TestedClients.visits; passes = g.C.TestedClients.passes } in
    let u : Unmet = unmet_by g.C.TestedClients.none g.C.TestedClients.fails in
    let faults = watched g.F.Write.contents c.args.faults.now c.next_visit.new.faults in
    where_err c.from_residual.result (BreaksTurn m c.args.round.rules.now c.args.round.standing.now faults)
    (untold_next m u c.args.round.rules.now c.args.round.standing.now c.in-Ok.taken faults c.in-Ok.ensures.visits)

pub returns-in-Err-clause-stops : goal.returns-in-Err-clause-stops
returns-in-Err-clause-stops g c =
    fault_stops (AreFailing g.C.TestedClients.fails) (g.C.TestedClients.fails c.next_visit.new.self) c.in-Err.why
    c.fault_of.result (λ fails. (c.next_visit.new.self, fails)) c.fault_of.ensures c.in-Err.ensures.stops
