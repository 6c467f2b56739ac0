-- What stands behind the turns is written and told behind them.
use Rattle.std.proofs.Common.{ap, sym, ◌≡◌}
use Rattle.ws_frame.specs.Watching.{has_failed, inner_of}
use Rattle.wst_clients.specs.Visits.{Met, Unmet, unmet_by}
use Rattle.wst_clients.proofs.ClientLemmas.{tests_end, works_so}
use Rattle.ws_frame.specs.Devices.{watched}
use Rattle.wst_clients.proofs.testing_clients.test_clients.Goals as goal

pub tell_end-told-requires-clause-works : goal.tell_end-told-requires-clause-works
tell_end-told-requires-clause-works g c =
    let m : Met = record { visits = g.C.TestedClients.visits; passes = g.C.TestedClients.passes } in
    let u : Unmet = unmet_by g.C.TestedClients.none g.C.TestedClients.fails in
    works_so m u c.args.rules.now c.run_visits-ended.result
    (watched g.W.Write.contents c.args.writer.now c.run_visits-ended.new.writer)
    (watched g.F.Write.contents c.args.faults.now c.run_visits-ended.new.faults) c.run_visits-ended.ensures.runs

pub returns-clause-tests : goal.returns-clause-tests
returns-clause-tests g c =
    let m : Met = record { visits = g.C.TestedClients.visits; passes = g.C.TestedClients.passes } in
    let u : Unmet = unmet_by g.C.TestedClients.none g.C.TestedClients.fails in
    let first = c.run_visits-ended.new.writer in
    let last = c.tell_end-told.new.writer in
    let heard = c.run_visits-ended.new.faults in
    let told = c.tell_end-told.new.faults in
    tests_end m u c.args.rules.now c.run_visits-ended.result c.tell_end-told.result
    (g.W.Write.contents (inner_of c.args.writer.now)) (g.W.Write.contents (inner_of first))
    (g.W.Write.contents (inner_of last)) (has_failed last) (has_failed first) (has_failed heard) (has_failed told)
    (g.F.Write.contents (inner_of c.args.faults.now)) (g.F.Write.contents (inner_of heard))
    (g.F.Write.contents (inner_of told)) (last ≡ first) (told ≡ heard) c.run_visits-ended.ensures.runs
    (λ stays. (ap (λ w. has_failed w) (sym stays), ap (λ w. g.W.Write.contents (inner_of w)) (sym stays)))
    (λ quiet. (ap (λ w. has_failed w) (sym quiet), ap (λ w. g.F.Write.contents (inner_of w)) (sym quiet)))
    c.tell_end-told.ensures.still c.tell_end-told.ensures.tells
