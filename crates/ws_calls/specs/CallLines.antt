-- The lines that tell what came of the calls of one endpoint. Each ends with LF.
use Rattle.std.specs.Prelude.{ℕ, List, [], ◌∷◌, ◌++◌, Option, Some, None, codes}
use Rattle.std.specs.List.{concat, flat_map}
use Rattle.std.specs.Fmt.{decimal}
use Rattle.ws_formats.specs.Words.{hex_word}
use Rattle.ws_text.specs.Close.{CloseValue}
use Rattle.ws_session.specs.declared.message.Message.{Message}
use Rattle.ws_session.specs.declared.event.Event.{Event}
use Rattle.ws_session.specs.declared.event.Event.TheVariants as event
use Rattle.ws_session.specs.declared.status.Status.{Status}
use Rattle.ws_session.specs.Words.{fault_name, kind_word, reason_name, status_words}
use Rattle.ws_calls.specs.declared.report.PlacedInStream.{PlacedInStream}
use Rattle.ws_calls.specs.declared.report.CallAnswer.{CallAnswer}
use Rattle.ws_calls.specs.declared.report.CallAnswer.TheVariants.{Sent, Refused, Taken, Ended}
use Rattle.ws_calls.specs.Calls.{CallsReport}

abbrev pub message_words : Message → List ℕ
message_words message = kind_word message.kind ++ (codes " " ++ hex_word message.payload)

-- what a close frame says, or that it is empty
abbrev pub close_words : Option CloseValue → List ℕ
close_words None = codes "none"
close_words (Some close) = decimal close.code ++ (codes " " ++ hex_word close.reason)

abbrev pub event_words : Event → List ℕ
event_words event.Part = codes "part"
event_words (event.Message message) = message_words message
event_words (event.Ping payload) = codes "ping " ++ hex_word payload
event_words (event.Pong payload) = codes "pong " ++ hex_word payload
event_words (event.Close close) = codes "close " ++ close_words close
event_words (event.Failed reason) = codes "failed " ++ reason_name reason

-- an event behind its place
abbrev pub event_line : PlacedInStream → List ℕ
event_line x = concat (decimal x.place ∷ codes " " ∷ event_words x.event ∷ codes "\n" ∷ [])

-- what came of a call: of a piece, its events, and then its length and what was put
abbrev pub answer_lines : CallAnswer → List ℕ
answer_lines (Sent put) = concat (codes "sent " ∷ hex_word put ∷ codes "\n" ∷ [])
answer_lines (Refused fault) = concat (codes "refused " ∷ fault_name fault ∷ codes "\n" ∷ [])
answer_lines (Taken events len put) = flat_map event_line events
    ++ concat (codes "taken " ∷ decimal len ∷ codes " put " ∷ hex_word put ∷ codes "\n" ∷ [])
answer_lines Ended = codes "ended\n"

abbrev pub held_line : Option ℕ → List ℕ
held_line None = []
held_line (Some held) = concat (codes "held " ∷ decimal held ∷ codes "\n" ∷ [])

-- the bytes kept, where that is told, and the status
abbrev pub last_lines : Option ℕ → Status → List ℕ
last_lines held status = held_line held ++ concat (codes "status " ∷ status_words status ∷ codes "\n" ∷ [])

-- the lines of each call, and those that come last
abbrev pub calls_lines : CallsReport → List ℕ
calls_lines report = flat_map answer_lines report.answers ++ last_lines report.held report.status
