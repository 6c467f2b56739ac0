-- The lines that tell what came of two joined sessions. Each ends with LF.
use Rattle.std.specs.Prelude.{◌≡◌, ℕ, true, false, List, [], ◌∷◌, Result, Ok, Err, codes}
use Rattle.std.specs.List.{concat, flat_map}
use Rattle.std.specs.Fmt.{decimal}
use Rattle.ws_formats.specs.Words.{hex_word}
use Rattle.ws_frame.specs.Devices.{Device, HasBegun, HasWritten, IsUntouched}
use Rattle.ws_session.specs.declared.message.Message.{Message}
use Rattle.ws_session.specs.declared.send_fault.SendFault.{SendFault}
use Rattle.ws_session.specs.Words.{fault_name, kind_word, status_words}
use Rattle.ws_pair.specs.declared.moves.End.{End}
use Rattle.ws_pair.specs.declared.moves.End.TheVariants.{Client, Server}
use Rattle.ws_pair.specs.declared.report.Answer.{Answer}
use Rattle.ws_pair.specs.declared.report.Answer.TheVariants.{Did, Refused, Arrived, Cut}
use Rattle.ws_pair.specs.declared.report.EndReport.{EndReport}
use Rattle.ws_pair.specs.declared.report.Report.{Report}
use Rattle.ws_pair.specs.declared.report_lines.ReportFault.{ReportFault}
use Rattle.ws_pair.specs.declared.report_lines.ReportFault.TheVariants as stop
use Rattle.ws_pair.specs.Script.{end_word}

-- a send that was refused
abbrev pub refusal_line : SendFault → List ℕ
refusal_line fault = concat (codes "refused " ∷ fault_name fault ∷ codes "\n" ∷ [])

-- what came of a move
abbrev pub answer_line : Answer → List ℕ
answer_line Did = codes "ok\n"
answer_line (Refused fault) = refusal_line fault
answer_line (Arrived count) = concat (codes "arrived " ∷ decimal count ∷ codes "\n" ∷ [])
answer_line Cut = codes "cut\n"

-- a message that this end delivered
abbrev pub message_line : End → Message → List ℕ
message_line side message = concat (
    end_word side ∷ codes " got " ∷ kind_word message.kind ∷ codes " " ∷ hex_word message.payload ∷ codes "\n" ∷ [])

-- an end: what it put, how many bytes reached it, the messages that it delivered, how it stands
abbrev pub end_lines : End → EndReport → List ℕ
end_lines side end = concat (
    concat (end_word side ∷ codes " put " ∷ hex_word end.put.items ∷ codes "\n" ∷ [])
    ∷ concat (end_word side ∷ codes " reached " ∷ decimal end.reached ∷ codes "\n" ∷ [])
    ∷ flat_map (message_line side) end.delivered.items
    ∷ concat (end_word side ∷ codes " status " ∷ status_words end.status ∷ codes "\n" ∷ []) ∷ [])

-- a line for each move, then the client's and the server's
abbrev pub report_lines : Report → List ℕ
report_lines report = concat (
    flat_map answer_line report.answers.items ∷ end_lines Client report.client ∷ end_lines Server report.server ∷ [])

-- these lines were written; or a write failed, and a beginning of them was; or memory ran out, and nothing was
abbrev pub WritesReport : List ℕ → Result (Unit {0}) ReportFault → Device → Type 0
WritesReport lines (Ok _) output = HasWritten lines output × (output.failed ≡ false)
WritesReport lines (Err stop.Write) output = HasBegun lines output × (output.failed ≡ true)
WritesReport lines (Err stop.NoMemory) output = IsUntouched output
