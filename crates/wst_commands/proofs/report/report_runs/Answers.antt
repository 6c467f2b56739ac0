-- What is delivered is the report, and how that ended is told by the names of its cases.
use Rattle.std.proofs.Common.{◌≡◌, ◌∙◌, ap, inl, ℕ, List, subst, sym}
use Rattle.wst_commands.specs.Report.{IsRunReport, ended_report}
use Rattle.wst_commands.proofs.report.report_runs.Goals as goal

pub returns-in-Ok : goal.returns-in-Ok
returns-in-Ok g c = inl (
  c.as_bytes.result.now,
  c.deliver-exit.result,
  subst (λ (l : List ℕ). IsRunReport c.args.kind c.args.date.now c.args.runs.now l) (sym c.as_bytes.ensures.value)
      c.in-Ok.ensures,
  c.deliver-exit.ensures,
  c.ended_report.ensures ∙ ap (λ (ids : List (List ℕ)). ended_report ids c.deliver-exit.result) c.ids.ensures,
)
