-- An input that was read whole is played as the script that its text is, under the limits that the options give.
use Rattle.std.proofs.Common.{◌≡◌, ◌∙◌, List, Result, Ok, Err, ap, inl, inr, rules, subst}
use Rattle.ws_formats.specs.Lines.{Damages}
use Rattle.ws_frame.specs.Devices.{Device, watched}
use Rattle.ws_session.specs.Limits.{LimitsValue}
use Rattle.ws_pair.specs.declared.moves.Move.{Move}
use Rattle.ws_pair.specs.declared.report.Report.{Report}
use Rattle.ws_pair.specs.Headline.{IsReportOf}
use Rattle.ws_pair.specs.Script.{AreMoveLines}
use Rattle.wst_commands.specs.Limits.{limits_given}
use Rattle.wst_commands.specs.Pairs.{AnswersScript, PlaysMoves, TellsReport, script_fault}
use Rattle.wst_commands.specs.ReadingLines.{FailsInput}
use Rattle.wst_commands.specs.declared.exit.Exit.{Exit}
use Rattle.wst_commands.specs.declared.fault.Fault.{Fault}
use Rattle.wst_commands.specs.declared.reading_lines.InputFault.{InputFault}
use Rattle.wst_commands.proofs.pair.run_moves.Goals as goal

plays : (client server : LimitsValue) (moves : List Move) (report : Report) → IsReportOf client server moves report
    → (ended : Result Exit Fault) (output : Device) → TellsReport report ended output → PlaysMoves client server moves ended output
plays client server moves report is (Ok exit) output told = (report, is, told)
plays client server moves report is (Err fault) output told = told

pub returns-in-Ok : goal.returns-in-Ok
returns-in-Ok g c =
    let output = watched g.W.Write.contents c.args.writer.now c.tell_report.new.writer in
    let both = c.in-Some.ensures in
    let limits = c.in-Some.limits in
    let (text, read, (moves, are, is)) = c.in-Ok.ensures in
    let client = limits_given c.args.options.limit_client c.args.options.frame_client in
    let played = plays limits.0 limits.1 moves c.in-Ok.report is c.tell_report.result output c.tell_report.ensures in
    let of_client = subst (λ (l : LimitsValue). AnswersScript l limits.1 text c.tell_report.result output) both.1 (inl (moves, are, played)) in
    inl (both.0, inl (text, read, subst (λ (l : LimitsValue). AnswersScript client l text c.tell_report.result output) both.2 of_client))

pub returns-in-Err-Text : goal.returns-in-Err-Text
returns-in-Err-Text g c =
    let input = watched g.R.Read.remaining c.args.reader.now c.report_in.new.reader in
    let output = watched g.W.Write.contents c.args.writer.now c.args.writer.now in
    let both = c.in-Some.ensures in
    let limits = c.in-Some.limits in
    let client = limits_given c.args.options.limit_client c.args.options.frame_client in
    let (text, read, damages, names) = subst (λ (fault : InputFault). FailsInput (Damages AreMoveLines) fault input)
    c.in-Err-Text.field-0-is c.in-Err-Text.ensures in
    let ended = Err c.fault_of.result in
    let same = c.in-Err-Text.fault-is in
    let told : c.fault_of.result ≡ script_fault c.in-Err-Text.fault = c.fault_of.ensures ∙ ap script_fault same in
    let damaged : AnswersScript limits.0 limits.1 text ended output =
    inr (c.in-Err-Text.fault, damages, ap Err told, search rules) in
    let of_client = subst (λ (l : LimitsValue). AnswersScript l limits.1 text ended output) both.1 damaged in
    inl (both.0, inl (text, read, subst (λ (l : LimitsValue). AnswersScript client l text ended output) both.2 of_client))
