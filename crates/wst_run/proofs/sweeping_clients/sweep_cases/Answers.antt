-- The rules are those of the plan, and lines are written.
use Rattle.std.proofs.Common.{subst}
use Rattle.ws_frame.specs.Devices.{watched}
use Rattle.wst_run.specs.ClientRuns.{VisitsAt}
use Rattle.wst_run.specs.declared.clients_at.ClientJob.{ClientJob}
use Rattle.wst_run.proofs.sweeping_clients.sweep_cases.Goals as goal

pub returns-clause-sweeps : goal.returns-clause-sweeps
returns-clause-sweeps g c =
    let rules = c.sweep_rules-rules.result in
    let output = watched g.W.Write.contents c.args.writer.now c.visit_at.new.writer in
    let faults = watched g.F.Write.contents c.args.faults.now c.visit_at.new.faults in (
      rules,
      c.sweep_rules-rules.ensures.rules,
      subst
          (λ (j : ClientJob). VisitsAt c.args.address.now j rules c.visit_at.result output faults)
          c.sweep_job-job.ensures c.visit_at.ensures.tests,
    )
