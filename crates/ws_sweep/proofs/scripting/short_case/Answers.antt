-- The case can be run, with a close behind its steps or not.
use Rattle.std.proofs.Common.{◌∙◌, ◌++◌, List, ap}
use Rattle.ws_scripts.specs.declared.script.Step.{Step}
use Rattle.ws_sweep.specs.ShortCases.{end_steps, short_steps}
use Rattle.ws_sweep.proofs.Running.{can_be_run, closed_steps_fit, steps_fit}
use Rattle.ws_sweep.proofs.scripting.short_case.Goals as goal

pub has_end-requires : goal.has_end-requires
has_end-requires c =
    can_be_run c.whole_case-case.result (short_steps c.args.tested c.args.script.now)
    (c.whole_case-case.ensures.steps ∙ c.in_ok-steps.ensures) c.whole_case-case.ensures.whole
    (steps_fit c.args.tested c.args.script.now c.requires)

pub returns-then-branch-clause-runs : goal.returns-then-branch-clause-runs
returns-then-branch-clause-runs c =
    can_be_run c.whole_case-case.result (short_steps c.args.tested c.args.script.now)
    (c.whole_case-case.ensures.steps ∙ c.in_ok-steps.ensures) c.whole_case-case.ensures.whole
    (steps_fit c.args.tested c.args.script.now c.requires)

pub returns-clause-runs : goal.returns-clause-runs
returns-clause-runs c =
    can_be_run c.in_ok-closed.closed (short_steps c.args.tested c.args.script.now ++ end_steps c.args.expected)
    (c.in_ok-closed.ensures.steps ∙ ap (λ (l : List Step). l ++ end_steps c.args.expected)
    (c.whole_case-case.ensures.steps ∙ c.in_ok-steps.ensures))
    (c.in_ok-closed.ensures.chop ∙ c.whole_case-case.ensures.whole)
    (closed_steps_fit c.args.tested c.args.expected c.args.script.now c.requires)
