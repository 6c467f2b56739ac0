-- How a plan ended is told behind what was told while it was carried out.
use Rattle.ws_frame.specs.Devices.{watched}
use Rattle.ws_frame.specs.Watching.{has_failed, inner_of}
use Rattle.wst_run.proofs.PlanLemmas.{carries_on}
use Rattle.wst_run.proofs.test.run_plan.Goals as goal

pub returns : goal.returns
returns g c = (
  c.carry_out-ended.result,
  g.F.Write.contents (inner_of c.carry_out-ended.new.faults),
  carries_on (g.S.CaseServer.meets c.args.server.now c.args.plan.now.run.key) c.args.plan.now c.args.report.now c.carry_out-ended.result
      (watched g.W.Write.contents c.args.writer.now c.carry_out-ended.new.writer)
      (has_failed c.carry_out-ended.new.faults) (has_failed c.end_run.new.faults)
      (g.F.Write.contents (inner_of c.args.faults.now))
      (g.F.Write.contents (inner_of c.carry_out-ended.new.faults)) c.end_run.ensures.still
      c.carry_out-ended.ensures.runs,
  c.end_run.ensures.ends,
)
