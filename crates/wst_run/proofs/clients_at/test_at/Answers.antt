-- The rules and the job are those of the plan.
use Rattle.std.proofs.Common.{All, List, subst, sym}
use Rattle.ws_scripts.specs.Scripts.{CanBeRun}
use Rattle.ws_scripts.specs.declared.script.Case.{Case}
use Rattle.wst_run.proofs.ClientRunLemmas.{job_for}
use Rattle.wst_run.proofs.clients_at.test_at.Goals as goal

pub visit_at-requires-clause-can : goal.visit_at-requires-clause-can
visit_at-requires-clause-can g c = subst (λ (l : List Case). All CanBeRun l) (sym c.visit_rules-rules.ensures.rules.cases)
    c.requires.plan.0

pub visit_at-requires-clause-one : goal.visit_at-requires-clause-one
visit_at-requires-clause-one g c = job_for c.args.plan.now c.args.report.now c.client_job-job.result
    c.visit_rules-rules.result c.requires.plan c.visit_rules-rules.ensures.rules c.client_job-job.ensures

pub visit_at-requires-clause-protocols : goal.visit_at-requires-clause-protocols
visit_at-requires-clause-protocols g c = c.visit_rules-rules.ensures.rules.protocols

pub visit_at-requires-clause-wait : goal.visit_at-requires-clause-wait
visit_at-requires-clause-wait g c = c.visit_rules-rules.ensures.rules.wait

pub visit_at-requires-clause-limited : goal.visit_at-requires-clause-limited
visit_at-requires-clause-limited g c = c.visit_rules-rules.ensures.rules.has_timeouts

pub returns-clause-tests : goal.returns-clause-tests
returns-clause-tests g c = (
  c.visit_rules-rules.result,
  c.visit_rules-rules.ensures.rules,
  (c.client_job-job.result, c.client_job-job.ensures, c.visit_at.ensures.tests),
)
