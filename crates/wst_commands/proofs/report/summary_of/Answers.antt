-- The list of cases is that of their names.
use Rattle.std.proofs.Common.{◌∙◌, ℕ, List, ap}
use Rattle.ws_runs.specs.Summary.{runs_summary}
use Rattle.wst_commands.proofs.report.summary_of.Goals as goal

pub returns : goal.returns
returns c =
    c.in_ok-summary.ensures ∙ ap (λ (l : List (List ℕ)). runs_summary l c.args.runs.now) c.requires
