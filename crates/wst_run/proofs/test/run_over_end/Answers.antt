-- Several cases at a time over a server are run over the end that it is.
use Rattle.ws_frame.specs.Devices.{watched}
use Rattle.wst_run.proofs.EndLemmas.{tests_server}
use Rattle.wst_run.proofs.test.run_over_end.Goals as goal

pub returns-then-plan-gt1 : goal.returns-then-plan-gt1
returns-then-plan-gt1 g c =
    let output = watched g.W.Write.contents c.args.writer.now c.run_at_once.new.writer in
    let faults = watched g.F.Write.contents c.args.faults.now c.run_at_once.new.faults in
    tests_server c.args.end.now c.in-Address.server c.args.plan.now c.args.report.now c.run_at_once.result output faults
    c.in-Address.is c.run_at_once.ensures
