-- What is progress while a run waits for the tested end: any byte of a frame that is neither a ping nor a pong, and a
-- whole pong that is owed. Pings and other pongs, which may come for ever, are none (RFC 6455 sections 5.5.2, 5.5.3).
use Rattle.std.specs.Prelude.{◌≡◌, ◌⊎◌, ◌↔◌, ◌||◌, Bool, true, false, if◌then◌else◌, ℕ, List, [], ◌∷◌, ◌++◌, bytes_eq}
use Rattle.std.specs.Prelude.{Option, Some, flat_map}
use Rattle.std.specs.List.{concat, list_any}
use Rattle.ws_wire.specs.declared.role.Role.{Role}
use Rattle.ws_session.specs.declared.event.Event.{Event}
use Rattle.ws_session.specs.declared.event.Event.TheVariants as event
use Rattle.ws_session.specs.Events.{HasEvents}
use Rattle.ws_session.specs.Exchange.{last_event}
use Rattle.ws_session.specs.PingsAndPongs.{begins_ping_or_pong}
use Rattle.ws_session.specs.Sends.{most_limits}
use Rattle.ws_scripts.specs.declared.transcript.Turn.{Turn}
use Rattle.ws_suite.specs.Evidence.{HasRest, got_turns, other_role, sent_turns}

-- ---- pings that aren't answered yet

-- the payloads of these pings without the first that is this one
abbrev pub without_ping : List ℕ → List (List ℕ) → List (List ℕ)
without_ping payload [] = []
without_ping payload (first ∷ pings) = if bytes_eq payload first then pings else first ∷ without_ping payload pings

-- a pong with this payload is owed: one of the pings that aren't answered yet has it
abbrev pub is_pong_owed : List ℕ → List (List ℕ) → Bool
is_pong_owed payload pings = list_any (bytes_eq payload) pings

-- the payload of an event that is a ping
abbrev pub ping_in : Event → List (List ℕ)
ping_in event.Part = []
ping_in (event.Message message) = []
ping_in (event.Ping payload) = payload ∷ []
ping_in (event.Pong payload) = []
ping_in (event.Close close) = []
ping_in (event.Failed reason) = []

-- with the pings among these events, which were sent
abbrev pub with_pings : List (List ℕ) → List Event → List (List ℕ)
with_pings pings events = pings ++ flat_map ping_in events

-- without the one that this event, which was got, answers: a pong answers the first with its payload
abbrev pub after_pong : List (List ℕ) → Event → List (List ℕ)
after_pong pings event.Part = pings
after_pong pings (event.Message message) = pings
after_pong pings (event.Ping payload) = pings
after_pong pings (event.Pong payload) = without_ping payload pings
after_pong pings (event.Close close) = pings
after_pong pings (event.Failed reason) = pings

-- without those that these events answer, one after the other
abbrev pub after_pongs : List (List ℕ) → List Event → List (List ℕ)
after_pongs pings [] = pings
after_pongs pings (e ∷ events) = after_pongs (after_pong pings e) events

-- ---- progress

-- what was got is progress, where these pings aren't answered yet: each event but pings, and but pongs that aren't owed
abbrev pub is_progress : List (List ℕ) → Event → Bool
is_progress pings event.Part = true
is_progress pings (event.Message message) = true
is_progress pings (event.Ping payload) = false
is_progress pings (event.Pong payload) = is_pong_owed payload pings
is_progress pings (event.Close close) = true
is_progress pings (event.Failed reason) = true

-- one of the events is, one after the other
abbrev pub has_progress : List (List ℕ) → List Event → Bool
has_progress pings [] = false
has_progress pings (e ∷ events) = is_progress pings e || has_progress (after_pong pings e) events

-- no event follows this one: it is a close or a fault
abbrev pub ends_stream : Option Event → Bool
ends_stream (Some (event.Close close)) = true
ends_stream (Some (event.Failed reason)) = true
ends_stream _ = false

-- The bytes that an end of this role took end inside a frame that is neither a ping nor a pong: they have neither a
-- close nor a fault, bytes stand behind their last event, and these begin such a frame.
pub record EndInOtherFrame (reader : Role) (bytes : List ℕ) : Type 0 where
  pub events : List Event
  pub are_events : HasEvents reader most_limits bytes events
  pub going : ends_stream (last_event events) ≡ false
  pub inside : HasRest reader bytes events
  pub other : begins_ping_or_pong are_events.rest ≡ false

-- the bytes behind others add these events
pub record BringEvents (reader : Role) (before bytes : List ℕ) (later : List Event) : Type 0 where
  pub events : List Event
  pub are_events : HasEvents reader most_limits before events
  pub more : HasEvents reader most_limits (before ++ bytes) (events ++ later)

-- Bytes that came behind others, and added these events, are progress where these pings weren't answered yet: an event
-- is, or they end inside a frame that is neither a ping nor a pong.
abbrev pub IsProgress : Role → List (List ℕ) → List ℕ → List ℕ → List Event → Type 0
IsProgress reader pings before bytes later =
    (has_progress pings later ≡ true) ⊎ EndInOtherFrame reader (before ++ bytes)

-- ---- a run

-- Bytes that were sent behind these turns leave these pings without an answer: those from before, and those among the
-- bytes.
pub record NotesSent (tested : Role) (turns : List Turn) (bytes : List ℕ) (old new : List (List ℕ)) : Type 0 where
  pub later : List Event
  pub adds : BringEvents tested (concat (sent_turns turns)) bytes later
  pub pings : new ≡ with_pings old later

-- Bytes that were got behind these turns leave these pings without an answer: those from before but for those that the
-- pongs among the bytes answer. It is told whether the bytes are progress.
pub record NotesGot (tested : Role) (turns : List Turn) (bytes : List ℕ) (old new : List (List ℕ)) (told : Bool)
    : Type 0 where
  pub later : List Event
  pub adds : BringEvents (other_role tested) (concat (got_turns turns)) bytes later
  pub pings : new ≡ after_pongs old later
  pub progress : (told ≡ true) ↔ IsProgress (other_role tested) old (concat (got_turns turns)) bytes later
