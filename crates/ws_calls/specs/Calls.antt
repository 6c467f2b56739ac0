-- What each call of an endpoint answers, by the frames that it has sent, the bytes that it has taken and whether its
-- stream has ended: RFC 6455 sections 5 to 7. No part of a frame, masking phase, unfinished character or buffer is in
-- it.
use Rattle.std.specs.Prelude.{◌≡◌, ℕ, ◌+◌, ◌≤◌, nat_le, if◌then◌else◌, true, false, MatchBool, List, [], ◌∷◌, ◌++◌}
use Rattle.std.specs.Prelude.{length, take, map, Option, Some, None}
use Rattle.std.specs.List.{AllByRecursion}
use Rattle.ws_wire.specs.declared.role.Role.{Role}
use Rattle.ws_wire.specs.Frame.{Frame, KeyedFrame, frame_bytes, stream_bytes}
use Rattle.ws_wire.specs.Stream.{SplitsInto}
use Rattle.ws_session.specs.declared.event.Event.{Event}
use Rattle.ws_session.specs.declared.status.Status.{Status}
use Rattle.ws_session.specs.Limits.{LimitsValue}
use Rattle.ws_session.specs.Messages.{open_message_of}
use Rattle.ws_session.specs.Faults.{frames_of, open_payload}
use Rattle.ws_session.specs.Events.{HasEvents}
use Rattle.ws_session.specs.Replies.{reply_to, echo_reply_to, replies_by, under_key}
use Rattle.ws_session.specs.Exchange.{Exchange, status_of, is_over}
use Rattle.ws_session.specs.Sends.{Send, frame_of, MaySend, IsFirstWrong}
use Rattle.ws_sends.specs.KeyedSends.{key_in, send_in}
use Rattle.ws_calls.specs.declared.calls.Call.{Call}
use Rattle.ws_calls.specs.declared.calls.Call.TheVariants as asked
use Rattle.ws_calls.specs.declared.calls.EchoCall.{EchoCall}
use Rattle.ws_calls.specs.declared.report.PlacedInStream.{PlacedInStream}
use Rattle.ws_calls.specs.declared.report.CallAnswer.{CallAnswer}
use Rattle.ws_calls.specs.declared.report.CallAnswer.TheVariants.{Sent, Refused, Taken, Ended}
use Rattle.ws_calls.specs.Script.{as_call}

-- an endpoint: its role and limits, and the frames that it owes for an event
pub record Endpoint : Type 0 where
  pub role : Role
  pub limits : LimitsValue
  pub reply : Event → List Frame

abbrev pub session_of : Role → LimitsValue → Endpoint
session_of role limits = record { role = role; limits = limits; reply = reply_to }

-- an echo also sends each message back
abbrev pub echo_of : Role → LimitsValue → Endpoint
echo_of role limits = record { role = role; limits = limits; reply = echo_reply_to }

-- it has sent and taken nothing
abbrev pub new_exchange : Exchange
new_exchange = record { sent = []; taken = []; ended = false }

-- the status is that of the events of the bytes taken, of the frames sent and of the stream's end
abbrev pub IsStatusAfter : Endpoint → Exchange → Status → Type 0
IsStatusAfter endpoint exchange status = (events : List Event)
    × HasEvents endpoint.role endpoint.limits exchange.taken events
    × (status ≡ status_of exchange.sent exchange.ended events)

-- ---- a send

abbrev pub after_sending : Exchange → List Frame → Exchange
after_sending exchange frames = record exchange { sent = exchange.sent ++ frames }

-- The frame is sent where nothing is wrong with it, and its bytes are put, under the key of the call if this is a
-- client. Else the first thing that is wrong is answered, and nothing changes.
abbrev pub IsSendAnswered : Endpoint → Exchange → Send → List ℕ → CallAnswer → Exchange → Type 0
IsSendAnswered endpoint exchange what key (Sent put) after = (status : Status) × IsStatusAfter endpoint exchange status
    × MaySend exchange.sent status what
    × (put ≡ frame_bytes (under_key endpoint.role key (frame_of what)))
    × (after ≡ after_sending exchange (frame_of what ∷ []))
IsSendAnswered endpoint exchange what key (Refused fault) after = (status : Status)
    × IsStatusAfter endpoint exchange status × IsFirstWrong exchange.sent status what fault × (after ≡ exchange)
IsSendAnswered endpoint exchange what key (Taken events len put) after = ⊥
IsSendAnswered endpoint exchange what key Ended after = ⊥

-- ---- a piece

-- the events without their places
abbrev pub events_without_places : List PlacedInStream → List Event
events_without_places events = map (λ (x : PlacedInStream). x.event) events

-- the events up to the first whose place is behind the first n bytes
abbrev pub placed_by : ℕ → List PlacedInStream → List PlacedInStream
placed_by n [] = []
placed_by n (x ∷ xs) = if nat_le x.place n then x ∷ placed_by n xs else []

-- These are the events that the piece adds, each at its place in all bytes taken: the first n bytes of the piece add
-- those whose place is reached by then, and no others.
pub record AddsEvents (endpoint : Endpoint) (exchange : Exchange) (piece : List ℕ) (events : List PlacedInStream)
    : Type 0 where
  pub before : List Event
  pub has_before : HasEvents endpoint.role endpoint.limits exchange.taken before
  pub within : AllByRecursion (λ (x : PlacedInStream). x.place ≤ length exchange.taken + length piece) events
  pub by_place : (n : ℕ) → HasEvents endpoint.role endpoint.limits (exchange.taken ++ take n piece)
      (before ++ events_without_places (placed_by (length exchange.taken + n) events))

-- the frames owed for events
abbrev pub replies : Endpoint → Exchange → List PlacedInStream → List Frame
replies endpoint exchange events = replies_by endpoint.reply exchange.sent (events_without_places events)

-- the piece is taken whole, its events are told, and the frames owed for them are sent and put
pub record TakesPiece (endpoint : Endpoint) (exchange : Exchange) (piece key : List ℕ) (events : List PlacedInStream)
    (put : List ℕ) (after : Exchange) : Type 0 where
  pub adds : AddsEvents endpoint exchange piece events
  pub is_put : put ≡ stream_bytes (map (under_key endpoint.role key) (replies endpoint exchange events))
  pub next : after ≡ record {
    sent = exchange.sent ++ replies endpoint exchange events;
    taken = exchange.taken ++ piece;
    ended = exchange.ended;
  }

-- once the endpoint is over a piece tells nothing, puts nothing and changes nothing
pub record IgnoresPiece (exchange : Exchange) (events : List PlacedInStream) (put : List ℕ) (after : Exchange)
    : Type 0 where
  pub nothing : events ≡ []
  pub is_put : put ≡ []
  pub next : after ≡ exchange

abbrev pub IsTakeAnswered : Endpoint → Exchange → List ℕ → List ℕ → CallAnswer → Exchange → Type 0
IsTakeAnswered endpoint exchange piece key (Taken events len put) after =
    (status : Status) × IsStatusAfter endpoint exchange status × (len ≡ length piece)
    × MatchBool (is_over status) (IgnoresPiece exchange events put after)
    (TakesPiece endpoint exchange piece key events put after)
IsTakeAnswered endpoint exchange piece key (Sent put) after = ⊥
IsTakeAnswered endpoint exchange piece key (Refused fault) after = ⊥
IsTakeAnswered endpoint exchange piece key Ended after = ⊥

-- ---- all calls

abbrev pub IsCallAnswered : Endpoint → Exchange → Call → CallAnswer → Exchange → Type 0
IsCallAnswered endpoint exchange (asked.Send what) answer after =
    IsSendAnswered endpoint exchange (send_in what) (key_in what) answer after
IsCallAnswered endpoint exchange (asked.Take piece key) answer after =
    IsTakeAnswered endpoint exchange piece key answer after
IsCallAnswered endpoint exchange asked.End answer after = (answer ≡ Ended) × (after ≡ record exchange { ended = true })

-- one call after the other
abbrev pub AreAnswered : Endpoint → Exchange → List Call → List CallAnswer → Exchange → Type 0
AreAnswered endpoint exchange [] answers after = (answers ≡ []) × (after ≡ exchange)
AreAnswered endpoint exchange (call ∷ calls) [] after = ⊥
AreAnswered endpoint exchange (call ∷ calls) (answer ∷ answers) after = (next : Exchange)
    × IsCallAnswered endpoint exchange call answer next × AreAnswered endpoint next calls answers after

-- ---- what is told last

-- the bytes kept are those of the open message and of the unfinished frame behind it
pub record Keeps (taken : List ℕ) (held : ℕ) : Type 0 where
  pub frames : List KeyedFrame
  pub rest : List ℕ
  pub split : SplitsInto taken frames rest
  pub count : held ≡ length (open_payload (open_message_of (frames_of frames))) + length rest

-- once the endpoint is over it keeps none
abbrev pub HasHeld : Endpoint → Exchange → ℕ → Type 0
HasHeld endpoint exchange held = (status : Status) × IsStatusAfter endpoint exchange status
    × MatchBool (is_over status) (held ≡ 0) (Keeps exchange.taken held)

-- what comes of all calls: what each answers, how many input bytes are kept after the last, which an echo doesn't tell,
-- and the status
pub record CallsReport : Type 0 where
  pub answers : List CallAnswer
  pub held : Option ℕ
  pub status : Status

-- the report of these calls at a session
pub record IsSessionReport (role : Role) (limits : LimitsValue) (calls : List Call) (report : CallsReport)
    : Type 0 where
  pub after : Exchange
  pub answers : AreAnswered (session_of role limits) new_exchange calls report.answers after
  pub held : (held : ℕ) × (report.held ≡ Some held) × HasHeld (session_of role limits) after held
  pub status : IsStatusAfter (session_of role limits) after report.status

-- the report of these calls at an echo, which doesn't tell the bytes kept
pub record IsEchoReport (role : Role) (limits : LimitsValue) (calls : List EchoCall) (report : CallsReport)
    : Type 0 where
  pub after : Exchange
  pub answers : AreAnswered (echo_of role limits) new_exchange (map as_call calls) report.answers after
  pub held : report.held ≡ None
  pub status : IsStatusAfter (echo_of role limits) after report.status
