-- How a plan ended of which several cases ran at a time is told behind what was told while it was carried out.
use Rattle.std.proofs.Common.{inr, subst}
use Rattle.ws_frame.specs.Devices.{watched}
use Rattle.ws_frame.specs.Watching.{has_failed, inner_of}
use Rattle.wst_run.specs.Test.{ReportsPlan}
use Rattle.wst_testing.specs.Servers.{AddressValue, MeetsAtAddress}
use Rattle.wst_run.proofs.PlanLemmas.{captures_alone, carries_on}
use Rattle.wst_run.proofs.test.run_at_once.Goals as goal

pub returns : goal.returns
returns g c =
    let plan = c.args.plan.now in
    let output = watched g.W.Write.contents c.args.writer.now c.report_cases-ended.new.writer in
    let faults = watched g.F.Write.contents c.args.faults.now c.report_cases-ended.new.faults in
    let reports = subst (λ (server : AddressValue). ReportsPlan (MeetsAtAddress server plan.run.key) plan
    c.args.report.now c.report_cases-ended.result output faults) c.new-runner.ensures
    c.report_cases-ended.ensures.runs in (
      c.report_cases-ended.result,
      g.F.Write.contents (inner_of c.report_cases-ended.new.faults),
      carries_on (MeetsAtAddress c.args.server.now plan.run.key) plan c.args.report.now c.report_cases-ended.result
          output (has_failed c.report_cases-ended.new.faults) (has_failed c.end_run.new.faults)
          (g.F.Write.contents (inner_of c.args.faults.now))
          (g.F.Write.contents (inner_of c.report_cases-ended.new.faults)) c.end_run.ensures.still
          (inr (captures_alone plan c.requires.plan c.requires.several, reports)),
      c.end_run.ensures.ends,
    )
