-- Inside the crate: an endpoint between two calls, for contracts of private functions. A reader may skip this file.
use Rattle.std.specs.Prelude.{◌≡◌, ℕ, true, List, [], ◌++◌, length, map, ◌+◌, Option, Some, None, Result, Ok, Err}
use Rattle.std.specs.Prelude.{string_bytes}
use Rattle.std.specs.List.{flat_map}
use Rattle.ws_base.specs.declared.text_fault.LineFault.{LineFault}
use Rattle.ws_base.specs.declared.text_fault.LineFault.TheVariants.{Damaged}
use Rattle.ws_formats.specs.Words.{IsHexWord}
use Rattle.ws_wire.specs.Frame.{Frame}
use Rattle.ws_session.specs.declared.event.Event.{Event}
use Rattle.ws_session.specs.declared.event.PlacedEvent.{PlacedEvent}
use Rattle.ws_session.specs.declared.send_fault.SendFault.{SendFault}
use Rattle.ws_session.specs.declared.send_fault.SendFault.TheVariants as fault
use Rattle.ws_session.specs.Exchange.{Exchange, SessionValue, HasExchanged, is_over}
use Rattle.ws_session.specs.Faults.{open_payload}
use Rattle.ws_session.specs.Taking.{HasTakenAll}
use Rattle.ws_session.specs.Sends.{Send}
use Rattle.ws_calls.specs.declared.calling.Caller.{Caller}
use Rattle.ws_calls.specs.declared.calls.Call.{Call}
use Rattle.ws_calls.specs.declared.calls.Call.TheVariants.{Take}
use Rattle.ws_calls.specs.declared.report.PlacedInStream.{PlacedInStream}
use Rattle.ws_calls.specs.declared.report.CallAnswer.{CallAnswer}
use Rattle.ws_calls.specs.declared.report.CallAnswer.TheVariants.{Sent, Refused}
use Rattle.ws_calls.specs.CallLines.{answer_lines, event_line}
use Rattle.ws_calls.specs.Calls.{Endpoint, AreAnswered, IsSendAnswered, IsCallAnswered}

-- what is asked of an end of this value, which owes such frames for an event
abbrev pub endpoint_of : (Event → List Frame) → SessionValue → Endpoint
endpoint_of reply session = record { role = session.role; limits = session.limits; reply = reply }

-- the session has exchanged this, and so many bytes of it are counted as taken
pub record Agrees (exchange : Exchange) (taken : ℕ) (session : SessionValue) : Type 0 where
  pub exchanged : HasExchanged session exchange.sent exchange.taken exchange.ended
  pub count : taken ≡ length exchange.taken

-- what a send that is done or refused is answered with; want of memory ends the run
abbrev pub IsOutcome : {X : Type 0} → Result X SendFault → List ℕ → CallAnswer → Type 0
IsOutcome (Ok done) put answer = answer ≡ Sent put
IsOutcome (Err fault.NoMemory) put answer = ⊥
IsOutcome (Err why) put answer = answer ≡ Refused why

-- why a send was refused, if it was; want of memory ends the run
abbrev pub IsSendRefusal : {X : Type 0} → Result X SendFault → Option SendFault → Type 0
IsSendRefusal (Ok done) refusal = refusal ≡ None
IsSendRefusal (Err fault.NoMemory) refusal = ⊥
IsSendRefusal (Err why) refusal = refusal ≡ Some why

-- what a send is answered with that put these bytes, or was refused
abbrev pub send_answer : List ℕ → Option SendFault → CallAnswer
send_answer put None = Sent put
send_answer put (Some why) = Refused why

-- an event of a piece behind so many bytes
abbrev pub placed_behind : ℕ → PlacedEvent → PlacedInStream
placed_behind start x = record { place = start + x.end; event = x.event }

-- the call was answered so, and the session agrees with what it has then exchanged
pub record HasAnsweredCall (endpoint : Endpoint) (exchange : Exchange) (call : Call) (answer : CallAnswer) (taken : ℕ)
    (session : SessionValue) : Type 0 where
  pub after : Exchange
  pub answered : IsCallAnswered endpoint exchange call answer after
  pub agrees : Agrees after taken session
  pub same : (session.role ≡ endpoint.role) × (session.limits ≡ endpoint.limits)

-- the send was answered so, and the session agrees with what it has then exchanged
pub record HasAnsweredSend (endpoint : Endpoint) (exchange : Exchange) (what : Send) (key : List ℕ)
    (answer : CallAnswer) (taken : ℕ) (session : SessionValue) : Type 0 where
  pub after : Exchange
  pub answered : IsSendAnswered endpoint exchange what key answer after
  pub agrees : Agrees after taken session
  pub same : (session.role ≡ endpoint.role) × (session.limits ≡ endpoint.limits)

-- the send was answered, and its answer was told behind these lines
pub record HasToldSend (endpoint : Endpoint) (exchange : Exchange) (what : Send) (key before : List ℕ) (taken : ℕ)
    (session : SessionValue) (lines : List ℕ) : Type 0 where
  pub answer : CallAnswer
  pub answered : HasAnsweredSend endpoint exchange what key answer taken session
  pub told : lines ≡ before ++ answer_lines answer

-- the lines of the events of a piece behind so many bytes
abbrev pub told_behind : ℕ → List PlacedEvent → List ℕ
told_behind start told = flat_map event_line (map (placed_behind start) told)

-- a piece, or a part of one, was taken under this key, and gave these events
abbrev pub HasTakenPart : (Event → List Frame) → SessionValue → SessionValue → List ℕ → List ℕ → List ℕ → List ℕ
    → List PlacedEvent → Type 0
HasTakenPart reply old new piece key before after told =
    HasTakenAll reply old new (record { piece = piece; key = key; before = before; after = after }) [] told

-- a piece, or a part of one, was taken under this key and counted, and its events were told behind the lines before
abbrev pub HasToldPart : {E : Type 0} → (E → SessionValue) → (Event → List Frame) → Caller E → Caller E → List ℕ
    → List ℕ → Type 0
HasToldPart value reply old new piece key = (told : List PlacedEvent)
    × HasTakenPart reply (value old.called) (value new.called) piece key old.put.items new.put.items told
    × (new.taken ≡ old.taken + length piece)
    × (string_bytes new.lines ≡ string_bytes old.lines ++ told_behind old.taken told)

-- the call was answered, and its answer was told behind these lines
pub record HasToldCall (endpoint : Endpoint) (exchange : Exchange) (call : Call) (before : List ℕ) (taken : ℕ)
    (session : SessionValue) (lines : List ℕ) : Type 0 where
  pub answer : CallAnswer
  pub answered : HasAnsweredCall endpoint exchange call answer taken session
  pub told : lines ≡ before ++ answer_lines answer

-- the piece that a word spells was taken and told, whatever was exchanged before; or the word spells none, or memory
-- ran out
abbrev pub HasToldWord : {E U : Type 0} → (E → SessionValue) → (Event → List Frame) → Caller E → Caller E → List ℕ
    → List ℕ → Result U LineFault → Type 0
HasToldWord value reply old new word key (Ok done) = (piece : List ℕ) × IsHexWord piece word
    × ((exchange : Exchange) → Agrees exchange old.taken (value old.called)
    → HasToldCall (endpoint_of reply (value old.called)) exchange (Take piece key) (string_bytes old.lines) new.taken
    (value new.called) (string_bytes new.lines))
HasToldWord value reply old new word key (Err why) = why ≡ Damaged → (piece : List ℕ) → IsHexWord piece word → ⊥

-- so many input bytes are kept
pub record IsHeld (session : SessionValue) (held : ℕ) : Type 0 where
  pub count : held ≡ length (open_payload session.opened) + length session.partial_frame
  pub over : is_over session.status ≡ true → held ≡ 0

-- At an end that had exchanged this these values were taken, each as the call that `call_of` says, and what came of
-- them was told behind the lines before.
pub record HasMade {T : Type 0} (call_of : T → Call) (endpoint : Endpoint) (exchange : Exchange) (before : List ℕ)
    (values : List T) (taken : ℕ) (session : SessionValue) (lines : List ℕ) : Type 0 where
  pub answers : List CallAnswer
  pub after : Exchange
  pub answered : AreAnswered endpoint exchange (map call_of values) answers after
  pub agrees : Agrees after taken session
  pub same : (session.role ≡ endpoint.role) × (session.limits ≡ endpoint.limits)
  pub told : lines ≡ before ++ flat_map answer_lines answers
