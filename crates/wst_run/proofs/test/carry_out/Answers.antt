-- A plan's capture is of its one case, by its rules.
use Rattle.std.proofs.Common.{◌≡◌, List, inl, slice_index_or, subst}
use Rattle.ws_frame.specs.Devices.{watched}
use Rattle.ws_scripts.specs.declared.script.Case.{Case}
use Rattle.wst_testing.specs.Testing.{RunsCapture}
use Rattle.wst_testing.specs.declared.testing.RunRules.{RunRules}
use Rattle.wst_commands.proofs.CaseLemmas.{only_one}
use Rattle.wst_run.proofs.test.carry_out.Goals as goal

pub returns-then-plan-clause-runs : goal.returns-then-plan-clause-runs
returns-then-plan-clause-runs g c =
    let case = c.index-cases-0.result in
    let cases = c.args.plan.now.cases.items in
    let output = watched g.W.Write.contents c.args.writer.now c.capture_case.new.writer in
    let faults = watched g.F.Write.contents c.args.faults.now c.capture_case.new.faults in
    let first = subst (λ (l : List Case). case ≡ slice_index_or l 0 case) c.as_slice-cases.ensures.value
    c.index-cases-0.is in
    let runs = subst (λ (r : RunRules). RunsCapture (g.S.CaseServer.meets c.args.server.now r.key) r case
    c.capture_case.result output faults) c.rules_of-rules.ensures c.capture_case.ensures.runs in
    inl (case, c.if-plan.true, only_one cases case (c.requires.plan.1 c.if-plan.true) first, runs)
