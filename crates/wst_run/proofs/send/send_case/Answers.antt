-- The script is run over the end that the plan names.
use Rattle.ws_frame.specs.Devices.{watched}
use Rattle.wst_run.proofs.EndLemmas.{sends_clients, sends_end}
use Rattle.wst_run.proofs.send.send_case.Goals as goal

pub returns-in-Ok-clause-sends : goal.returns-in-Ok-clause-sends
returns-in-Ok-clause-sends g c =
    let plan = c.args.plan.now in
    sends_end plan.run.tested plan c.in-Ok.end c.args.case.now c.send_over.result
    (watched g.W.Write.contents c.args.writer.now c.send_over.new.writer)
    (watched g.F.Write.contents c.args.faults.now c.send_over.new.faults) c.in-Ok.ensures c.send_over.ensures.sends

pub returns-in-Err-clause-sends : goal.returns-in-Err-clause-sends
returns-in-Err-clause-sends g c =
    let plan = c.args.plan.now in
    sends_clients plan.run.tested plan c.of_plan.result c.in-Err.address c.args.case.now c.send_at.result
    (watched g.W.Write.contents c.args.writer.now c.send_at.new.writer)
    (watched g.F.Write.contents c.args.faults.now c.send_at.new.faults) c.in-Err.is c.of_plan.ensures
    c.send_at.ensures.sends
