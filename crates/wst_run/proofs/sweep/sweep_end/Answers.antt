-- Several scripts at a time over a server are run over the end that it is.
use Rattle.std.proofs.Common.{subst}
use Rattle.ws_frame.specs.Devices.{watched}
use Rattle.wst_run.specs.Sweep.{RunsSweepPlan}
use Rattle.wst_testing.specs.Servers.{AddressValue, MeetsAtAddress}
use Rattle.wst_run.proofs.EndLemmas.{sweeps_server}
use Rattle.wst_run.proofs.sweep.sweep_end.Goals as goal

pub returns-then-plan-gt1 : goal.returns-then-plan-gt1
returns-then-plan-gt1 g c =
    let plan = c.args.plan.now in
    let output = watched g.W.Write.contents c.args.writer.now c.sweep_with.new.writer in
    let faults = watched g.F.Write.contents c.args.faults.now c.sweep_with.new.faults in
    let runs = subst (λ (server : AddressValue). RunsSweepPlan (λ case meeting. MeetsAtAddress server plan.run.key case meeting)
    plan c.sweep_with.result output faults) c.new-runner.ensures c.sweep_with.ensures in
    sweeps_server c.args.end.now c.in-Address.server plan c.sweep_with.result output faults c.in-Address.is runs
