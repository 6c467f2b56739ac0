-- What a report has behind all cases is written, and told where that is a document.
use Rattle.std.proofs.Common.{rules, ◌≡◌, List, ℕ, subst}
use Rattle.ws_frame.specs.Devices.{watched}
use Rattle.ws_reports.specs.Reports.{end_text}
use Rattle.wst_commands.proofs.Delivering.{delivers_same}
use Rattle.wst_testing.specs.Notes.{TellsEach}
use Rattle.wst_testing.specs.Reporting.{behind_text, beside_notes, exit_of_report}
use Rattle.wst_testing.proofs.outcome.tell_end.Goals as goal

pub returns-clause-is : goal.returns-clause-is
returns-clause-is g c =
    let behind = behind_text c.args.report.now c.args.score.now in
    let last = end_text c.args.report.now behind in
    let text : c.as_bytes.result.now ≡ last = search rules in
    let told : c.as_str-2.result.now ≡ behind = search rules in (
      delivers_same c.exit.result (exit_of_report c.args.score.now.is_failed) c.as_bytes.result.now last c.deliver-exit.result
          (watched g.W.Write.contents c.args.writer.now c.deliver-exit.new.writer) c.exit.ensures text c.deliver-exit.ensures,
      subst (λ (l : List ℕ). TellsEach (beside_notes c.args.report.now l)
          (watched g.F.Write.contents c.args.faults.now c.tell_beside.new.faults)) told c.tell_beside.ensures.told,
    )
