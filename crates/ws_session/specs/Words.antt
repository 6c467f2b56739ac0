-- The words for a status, a reason, a refusal, a kind and a stop: what a report or a script calls them.
use Rattle.std.specs.Prelude.{ℕ, List, ◌++◌, Some, None, codes}
use Rattle.std.specs.Fmt.{decimal}
use Rattle.ws_session.specs.declared.message.Kind.{Kind}
use Rattle.ws_session.specs.declared.message.Kind.TheVariants.{Text, Binary}
use Rattle.ws_session.specs.declared.send_fault.SendFault.{SendFault}
use Rattle.ws_session.specs.declared.send_fault.SendFault.TheVariants as send
use Rattle.ws_session.specs.declared.reason.Reason.{Reason}
use Rattle.ws_session.specs.declared.reason.Reason.TheVariants as reason
use Rattle.ws_session.specs.declared.status.Status.{Status}
use Rattle.ws_session.specs.declared.status.Status.TheVariants.{Open, Closing, Clean, Failed, Lost}

abbrev pub kind_word : Kind → List ℕ
kind_word Text = codes "text"
kind_word Binary = codes "binary"

-- what refused a frame, by its name
abbrev pub fault_name : SendFault → List ℕ
fault_name send.Over = codes "Over"
fault_name send.Busy = codes "Busy"
fault_name send.NothingOpen = codes "NothingOpen"
fault_name send.NotText = codes "NotText"
fault_name send.TooLong = codes "TooLong"
fault_name send.BadCode = codes "BadCode"
fault_name send.NoMemory = codes "NoMemory"

-- why a session failed, by its name
abbrev pub reason_name : Reason → List ℕ
reason_name reason.ReservedBits = codes "ReservedBits"
reason_name reason.Opcode = codes "Opcode"
reason_name reason.MaskWrong = codes "MaskWrong"
reason_name reason.NotShortest = codes "NotShortest"
reason_name reason.BadLength = codes "BadLength"
reason_name reason.ControlCut = codes "ControlCut"
reason_name reason.ControlLong = codes "ControlLong"
reason_name reason.NothingToContinue = codes "NothingToContinue"
reason_name reason.MessageOpen = codes "MessageOpen"
reason_name reason.TooBig = codes "TooBig"
reason_name reason.NotText = codes "NotText"
reason_name reason.TextCut = codes "TextCut"
reason_name reason.CloseOneByte = codes "CloseOneByte"
reason_name reason.CloseCode = codes "CloseCode"
reason_name reason.CloseReason = codes "CloseReason"
reason_name reason.FrameBig = codes "FrameBig"

-- how an endpoint stands
abbrev pub status_words : Status → List ℕ
status_words Open = codes "open"
status_words Closing = codes "closing"
status_words (Clean (Some code)) = codes "clean " ++ decimal code
status_words (Clean None) = codes "clean none"
status_words (Failed reason) = codes "failed " ++ reason_name reason
status_words Lost = codes "lost"

-- want of memory inside a piece, of which so many bytes were taken
abbrev pub stop_words : ℕ → List ℕ
stop_words used = codes "no memory after " ++ (decimal used ++ codes " bytes")
