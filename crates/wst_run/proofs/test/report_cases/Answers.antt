-- What a report has before and behind all cases, round their run.
use Rattle.std.proofs.Common.{rules, ◌≡◌, ◌∙◌, List, IsErrAnd, false, true, inl, inr, refl, subst, sym}
use Rattle.std.proofs.KnownBytes.{Keeps-refl}
use Rattle.ws_frame.specs.Devices.{watched}
use Rattle.ws_frame.specs.Watching.{has_failed, inner_of}
use Rattle.ws_reports.specs.Reports.{start_text}
use Rattle.ws_scripts.specs.declared.script.Case.{Case}
use Rattle.wst_commands.proofs.Delivering.{delivers_same}
use Rattle.wst_commands.specs.declared.exit.Exit.TheVariants.{Done}
use Rattle.wst_commands.specs.declared.fault.Fault.TheVariants.{NoMemory}
use Rattle.wst_run.specs.Test.{rules_of}
use Rattle.wst_testing.specs.Testing.{RunsCases}
use Rattle.wst_testing.specs.declared.testing.RunRules.{RunRules}
use Rattle.wst_testing.proofs.ReportLemmas.{stops_failed, stops_lacking}
use Rattle.wst_sockets.proofs.WrittenLemmas.{was_begun, was_written}
use Rattle.wst_run.proofs.test.report_cases.Goals as goal

pub returns-in_err-start-clause-runs : goal.returns-in_err-start-clause-runs
returns-in_err-start-clause-runs g c =
    let lacks : IsErrAnd c.from_residual.result (λ fault. fault ≡ NoMemory) = search rules in
    let output = watched g.W.Write.contents c.args.writer.now c.args.writer.now in
    inr (
      stops_lacking c.args.plan.now.target.now c.args.report.now c.from_residual.result output lacks
          (Keeps-refl output.old),
      Keeps-refl (g.F.Write.contents (inner_of c.args.faults.now)),
    )

pub returns-then-failed-clause-runs : goal.returns-then-failed-clause-runs
returns-then-failed-clause-runs g c =
    let start = start_text c.args.report.now c.args.plan.now.target.now in
    let text : c.as_bytes.result.now ≡ start = search rules in
    let output = watched g.W.Write.contents c.args.writer.now c.deliver-begun.new.writer in
    let given = delivers_same Done Done c.as_bytes.result.now start c.deliver-begun.result output refl text
    c.deliver-begun.ensures in
    let broken : has_failed c.deliver-begun.new.writer ≡ true = sym c.failed.ensures ∙ c.if-failed.true in
    let (fails, begun) = was_begun Done c.deliver-begun.result start output given broken in
    inr (
      stops_failed c.args.plan.now.target.now c.args.report.now c.deliver-begun.result output fails begun broken,
      Keeps-refl (g.F.Write.contents (inner_of c.args.faults.now)),
    )

pub returns-clause-runs : goal.returns-clause-runs
returns-clause-runs g c =
    let plan = c.args.plan.now in
    let report = c.args.report.now in
    let start = start_text report plan.target.now in
    let text : c.as_bytes.result.now ≡ start = search rules in
    let first = watched g.W.Write.contents c.args.writer.now c.deliver-begun.new.writer in
    let given = delivers_same Done Done c.as_bytes.result.now start c.deliver-begun.result first refl text
    c.deliver-begun.ensures in
    let works : has_failed c.deliver-begun.new.writer ≡ false = sym c.failed.ensures ∙ c.if-failed.false in
    let tested = watched g.W.Write.contents c.deliver-begun.new.writer c.test_cases-ended.new.writer in
    let faults = watched g.F.Write.contents c.args.faults.now c.test_cases-ended.new.faults in
    let by_rules = subst (λ (r : RunRules). RunsCases (g.R.CaseRunner.meets c.args.runner.now r.key) r report
    c.as_slice.result.now plan.run.tested c.test_cases-ended.result tested faults) c.rules_of-rules.ensures
    c.test_cases-ended.ensures.runs in
    let runs = subst (λ (l : List Case). RunsCases (g.R.CaseRunner.meets c.args.runner.now plan.run.key) (rules_of plan) report l
    plan.run.tested c.test_cases-ended.result tested faults) c.as_slice.ensures.value by_rules in
    inl (record {
      begun = first.new;
      started = was_written Done c.deliver-begun.result start first given works;
      failed = tested.failed;
      behind = tested.new;
      runs = runs;
      closes = c.close_report.ensures;
    })
