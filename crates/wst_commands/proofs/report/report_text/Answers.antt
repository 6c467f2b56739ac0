-- The runs that are read are those on which a report is written, and a damaged line is the one that is told.
use Rattle.std.proofs.Common.{◌∙◌, Err, ℕ, List, ap, inl, inr, rules, subst}
use Rattle.ws_formats.specs.Lines.{Damages}
use Rattle.ws_frame.specs.Devices.{watched}
use Rattle.ws_runs.specs.RunLines.{AreRunLines}
use Rattle.ws_runs.specs.Runs.{RunsValue}
use Rattle.wst_commands.specs.Report.{ReportsRuns, run_fault}
use Rattle.wst_commands.specs.declared.fault.Fault.{Fault}
use Rattle.wst_commands.proofs.report.report_text.Goals as goal

pub returns-in-Ok : goal.returns-in-Ok
returns-in-Ok g c =
    let output = watched g.W.Write.contents c.args.writer.now c.report_runs.new.writer in
    inl (
      c.in-Ok.ensures.0,
      subst (λ (t : List ℕ). AreRunLines c.in-Ok.ensures.0 t) c.as_slice.ensures.value c.in-Ok.ensures.1,
      subst (λ (r : RunsValue). ReportsRuns c.args.kind c.args.date.now r c.report_runs.result output) c.in-Ok.ensures.2
          c.report_runs.ensures,
    )

pub returns : goal.returns
returns g c =
    let fault = c.in-Err.fault in
    inr (
      fault,
      subst (λ (t : List ℕ). Damages AreRunLines fault t) c.as_slice.ensures.value c.in-Err.ensures,
      ap (λ (f : Fault). Err f)
          (c.run_fault.ensures ∙ ap (λ (t : List ℕ). run_fault t fault) c.as_slice-in-Err.ensures.value),
      search rules,
    )
