-- The cases are the short scripts.
use Rattle.std.proofs.Common.{List, inl, subst, sym}
use Rattle.ws_scripts.specs.declared.script.Case.{Case}
use Rattle.wst_run.specs.ClientSweeps.{AreShortCases}
use Rattle.wst_run.proofs.sweeping_clients.sweep_at.Goals as goal

pub returns-clause-sweeps : goal.returns-clause-sweeps
returns-clause-sweeps g c =
    let plan = c.args.plan.now in
    let cases = subst (λ (l : List Case). AreShortCases plan.run.expected plan.steps l) (sym c.as_slice.ensures.value)
    c.in_ok-cases.ensures.cases in
    inl (c.as_slice.result.now, cases, c.sweep_cases.ensures.sweeps)
