-- The scripts of a plan run over the end that it names.
use Rattle.ws_frame.specs.Devices.{watched}
use Rattle.wst_run.proofs.EndLemmas.{sweeps_clients, sweeps_end}
use Rattle.wst_run.proofs.sweep.sweep_target.Goals as goal

pub returns-in-Ok : goal.returns-in-Ok
returns-in-Ok g c =
    let plan = c.args.plan.now in
    let output = watched g.W.Write.contents c.args.writer.now c.sweep_end.new.writer in
    let faults = watched g.F.Write.contents c.args.faults.now c.sweep_end.new.faults in
    sweeps_end plan.run.tested plan c.in-Ok.end c.sweep_end.result output faults c.in-Ok.ensures
    c.sweep_end.ensures

pub returns-in-Err : goal.returns-in-Err
returns-in-Err g c =
    let plan = c.args.plan.now in
    let output = watched g.W.Write.contents c.args.writer.now c.sweep_clients_at.new.writer in
    let faults = watched g.F.Write.contents c.args.faults.now c.sweep_clients_at.new.faults in
    sweeps_clients plan.run.tested plan c.of_plan.result c.in-Err.address c.sweep_clients_at.result output faults c.in-Err.is c.of_plan.ensures
    c.sweep_clients_at.ensures
