-- The transcript of a tester and an application that keeps the protocol and has taken all by the end of each turn: RFC
-- 6455 sections 5.4 to 5.6 and 7.1.
use Rattle.std.specs.Prelude.{◌≡◌, ℕ, ◌+◌, ◌<◌, ◌≤◌, ◌&&◌, ◌==◌, Bool, true, false, if◌then◌else◌, List, [], ◌∷◌, ◌++◌}
use Rattle.std.specs.Prelude.{length}
use Rattle.std.specs.Prelude.{bytes_eq}
use Rattle.std.specs.List.{AllByRecursion, concat, list_any}
use Rattle.ws_wire.specs.declared.role.Role.{Role}
use Rattle.ws_wire.specs.Header.{AreBytes}
use Rattle.ws_wire.specs.Frame.{Frame, KeyedFrame, FitsTheLayout, stream_bytes}
use Rattle.ws_session.specs.declared.event.Event.{Event}
use Rattle.ws_session.specs.declared.event.Event.TheVariants as event
use Rattle.ws_session.specs.Events.{HasEvents}
use Rattle.ws_session.specs.Exchange.{is_over, status_of}
use Rattle.ws_session.specs.Faults.{KeysFit, frames_of}
use Rattle.ws_session.specs.Replies.{has_close, reply_to}
use Rattle.ws_session.specs.Sends.{most_limits}
use Rattle.ws_session.specs.Validity.{AreValidFrames}
use Rattle.ws_scripts.specs.declared.transcript.Ended.TheVariants.{Tester, Peer}
use Rattle.ws_scripts.specs.declared.transcript.Transcript.{Transcript}
use Rattle.ws_suite.specs.Evidence.{other_role, sent_turns}
use Rattle.ws_suite.specs.Fairness.{got_within, sent_within}

abbrev pub is_ping_of : List ℕ → Event → Bool
is_ping_of payload (event.Ping other) = bytes_eq payload other
is_ping_of payload _ = false

abbrev pub is_pong_of : List ℕ → Frame → Bool
is_pong_of payload frame = (frame.opcode == 10) && bytes_eq payload frame.payload

-- each ping among the events has a pong with its payload among the frames
abbrev pub AnswerPings : List Event → List Frame → Type 0
AnswerPings events frames = (payload : List ℕ) → list_any (is_ping_of payload) events ≡ true
    → list_any (is_pong_of payload) frames ≡ true

-- neither a close nor a fault is the last of these events, as of a session whose stream goes on
abbrev pub go_on : List Event → Bool
go_on events = if is_over (status_of [] false events) then false else true

-- A tester and an application at the tested end:
-- (1) what was sent is bytes, and in the first turns, so many, has these events;
-- (2) by then the application has sent these frames, each turn's behind those before, and what was got is their bytes;
-- (3) all of them are valid, fit the layout and are masked as that end must;
-- (4) while it has sent no close, the pings of a turn are answered in it;
-- (5) once a close or a fault came, it has sent a close;
-- (6) neither came before the last turn; and the end is Peer where one came in it, else Tester.
-- Nothing is asked of what was sent, nor of what else the application sends, nor of when it closes.
pub record IsAppTranscript (tested : Role) (transcript : Transcript) : Type 0 where
  pub bytes : AreBytes (concat (sent_turns transcript.turns))
  pub events : ℕ → List Event
  pub has_events : (n : ℕ) → n ≤ length transcript.turns
      → HasEvents tested most_limits (sent_within transcript n) (events n)
  pub sent : ℕ → List KeyedFrame
  pub begun : sent 0 ≡ []
  pub got : (n : ℕ) → n ≤ length transcript.turns → got_within transcript n ≡ stream_bytes (sent n)
  pub layout : AllByRecursion FitsTheLayout (sent (length transcript.turns))
  pub keys : KeysFit (other_role tested) (sent (length transcript.turns))
  pub valid : AreValidFrames most_limits (frames_of (sent (length transcript.turns)))
  pub turn : (n : ℕ) → n < length transcript.turns → (later : List Event) × (more : List KeyedFrame)
      × (events (n + 1) ≡ events n ++ later) × (sent (n + 1) ≡ sent n ++ more)
      × (has_close (frames_of (sent (n + 1))) ≡ false → AnswerPings later (frames_of more))
  pub closes : (n : ℕ) → n ≤ length transcript.turns → go_on (events n) ≡ false
      → has_close (frames_of (sent n)) ≡ true
  pub goes_on : (n : ℕ) → n < length transcript.turns → go_on (events n) ≡ true
  pub ended : transcript.ended ≡ (if go_on (events (length transcript.turns)) then Tester else Peer)

-- it sent no close of its own: none before a close or a fault came, and then, last of all, the one that answers it
pub record SendsNoClose (tested : Role) (transcript : Transcript) (app : IsAppTranscript tested transcript)
    : Type 0 where
  pub none : go_on (app.events (length transcript.turns)) ≡ true
      → has_close (frames_of (app.sent (length transcript.turns))) ≡ false
  pub answers : (n : ℕ) → n < length transcript.turns → go_on (app.events (n + 1)) ≡ false
      → has_close (frames_of (app.sent n)) ≡ false
  pub reply : (before : List Event) (last : Event) → app.events (length transcript.turns) ≡ before ++ last ∷ []
      → go_on (last ∷ []) ≡ false
      → (front : List Frame) × (frames_of (app.sent (length transcript.turns)) ≡ front ++ reply_to last)
