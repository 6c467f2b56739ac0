-- The report is what the words ask for, beside the earlier run that came in.
use Rattle.std.proofs.Common.{List, Option, inl, subst, sym}
use Rattle.ws_frame.specs.Devices.{watched}
use Rattle.ws_reports.specs.declared.known_line.KnownLine.{KnownLine}
use Rattle.wst_testing.specs.KnownInput.{IsKnownBy}
use Rattle.wst_run.proofs.running.run_planned.Goals as goal

pub returns-in-Ok : goal.returns-in-Ok
returns-in-Ok g c =
    let input = watched g.R.Read.remaining c.args.reader.now c.known_given.new.reader in
    let known = subst (λ (k : Option (List KnownLine)). IsKnownBy c.args.options.now.known k input)
    (sym c.new-report.ensures.known) c.in-Ok.ensures in
    inl (
      c.new-report.result,
      (c.new-report.ensures.junit, c.new-report.ensures.summary, known),
      c.run_over_target.ensures,
    )
