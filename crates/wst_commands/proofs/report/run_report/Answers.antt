-- What the kind's call answers is the kind that the options ask for, and so is the date.
use Rattle.std.proofs.Common.{◌≡◌, List, ℕ, Result, subst}
use Rattle.ws_frame.specs.Devices.{watched}
use Rattle.wst_commands.specs.ReadingWhole.{AnswersInput}
use Rattle.wst_commands.specs.Report.{CarriesOutReport, ReportsText, date_of}
use Rattle.wst_commands.proofs.report.run_report.Goals as goal

pub returns-in-Ok : goal.returns-in-Ok
returns-in-Ok g c =
    let input = watched g.R.Read.remaining c.args.reader.now c.report_input.new.reader in
    let output = watched g.W.Write.contents c.args.writer.now c.report_input.new.writer in
    let ended = c.report_input.result in
    subst (λ kind. CarriesOutReport kind (date_of c.args.options) ended input output) c.in-Ok.ensures
    (subst (λ (date : List ℕ). AnswersInput (ReportsText c.in-Ok.kind date) ended input output)
    c.date_of.ensures c.report_input.ensures)
