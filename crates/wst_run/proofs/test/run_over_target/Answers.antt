-- The cases of a plan run over the end that it names.
use Rattle.ws_frame.specs.Devices.{watched}
use Rattle.wst_run.proofs.EndLemmas.{tests_clients, tests_end}
use Rattle.wst_run.proofs.test.run_over_target.Goals as goal

pub returns-in-Ok : goal.returns-in-Ok
returns-in-Ok g c =
    let plan = c.args.plan.now in
    let output = watched g.W.Write.contents c.args.writer.now c.run_over_end.new.writer in
    let faults = watched g.F.Write.contents c.args.faults.now c.run_over_end.new.faults in
    tests_end plan.run.tested plan c.args.report.now c.in-Ok.end c.run_over_end.result output faults c.in-Ok.ensures
    c.run_over_end.ensures

pub returns-in-Err : goal.returns-in-Err
returns-in-Err g c =
    let plan = c.args.plan.now in
    let output = watched g.W.Write.contents c.args.writer.now c.test_clients_at.new.writer in
    let faults = watched g.F.Write.contents c.args.faults.now c.test_clients_at.new.faults in
    tests_clients plan.run.tested plan c.args.report.now c.of_plan.result c.in-Err.address c.test_clients_at.result output faults c.in-Err.is c.of_plan.ensures
    c.test_clients_at.ensures
