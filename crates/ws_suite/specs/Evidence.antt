-- The events of a transcript, and the turns in which they stand: what is due for what was sent, and what was got.
use Rattle.std.specs.Prelude.{◌≡◌, ℕ, ◌+◌, ◌<◌, ◌≤◌, ◌↔◌, true, false, List, [], ◌∷◌, ◌++◌, length, map, take}
use Rattle.std.specs.Prelude.{flat_map, None}
use Rattle.std.specs.List.{concat, last_or}
use Rattle.ws_wire.specs.declared.role.Role.{Role}
use Rattle.ws_wire.specs.declared.role.Role.TheVariants.{Client, Server}
use Rattle.ws_session.specs.declared.event.Event.{Event}
use Rattle.ws_session.specs.declared.event.Event.TheVariants as event
use Rattle.ws_session.specs.Events.{HasEvents}
use Rattle.ws_session.specs.Exchange.{code_if_any}
use Rattle.ws_session.specs.Sends.{most_limits}
use Rattle.ws_scripts.specs.declared.transcript.Turn.{Turn}
use Rattle.ws_scripts.specs.declared.transcript.Transcript.{Transcript}
use Rattle.ws_suite.specs.declared.evidence.InTurn.{InTurn}
use Rattle.ws_suite.specs.declared.evidence.Reply.{Reply}
use Rattle.ws_suite.specs.declared.evidence.Reply.TheVariants as reply
use Rattle.ws_suite.specs.declared.evidence.Ending.{Ending}
use Rattle.ws_suite.specs.declared.evidence.Ending.TheVariants.{Closed, Failed}
use Rattle.ws_suite.specs.declared.evidence.Direction.{Direction}
use Rattle.ws_suite.specs.declared.evidence.Evidence.{Evidence}

-- ---- the two ends

-- the other end of the connection
abbrev pub other_role : Role → Role
other_role Client = Server
other_role Server = Client

-- ---- events and their turns

abbrev pub joined_events : List (List Event) → List Event
joined_events turns = flat_map (λ (events : List Event). events) turns

-- The events of bytes that come in turns, one list of events a turn, at an endpoint of this role that takes the largest
-- messages: the bytes of the first turns, however many, have the events of those turns. An event comes with its last
-- byte, and a fault with the byte of its place: so each stands in the turn that holds this byte.
pub record AreEventsByTurn (role : Role) (turns : List (List ℕ)) (events : List (List Event)) : Type 0 where
  pub each : length events ≡ length turns
  pub so_far : (n : ℕ) → n ≤ length turns →
      HasEvents role most_limits (concat (take n turns)) (joined_events (take n events))

-- fewer bytes have the same events: so bytes stand after the last of them, or there are bytes and no events
pub record HasRest (role : Role) (bytes : List ℕ) (events : List Event) : Type 0 where
  pub n : ℕ
  pub fewer : n < length bytes
  pub same : HasEvents role most_limits (take n bytes) events

-- ---- the last byte of an event

-- The event at this place of all of them, counted from 0, ends with the n-th byte, counted from 1: the first n bytes
-- have it, and no fewer do.
pub record EndsWithByte (role : Role) (bytes : List ℕ) (place n : ℕ) : Type 0 where
  pub events : List Event
  pub are_events : HasEvents role most_limits (take n bytes) events
  pub there : place < length events
  pub no_fewer : (m : ℕ) (others : List Event) → m < n → HasEvents role most_limits (take m bytes) others
      → length others ≤ place

-- the event at this place of all of them is one of this turn
abbrev pub StandsInTurn : List (List Event) → ℕ → ℕ → Type 0
StandsInTurn events turn place = (length (joined_events (take turn events)) ≤ place)
    × (place < length (joined_events (take (turn + 1) events)))

-- the n-th byte of all of them is one of this turn
abbrev pub HoldsByte : List (List ℕ) → ℕ → ℕ → Type 0
HoldsByte turns turn n = (length (concat (take turn turns)) < n) × (n ≤ length (concat (take (turn + 1) turns)))

-- ---- what is due and what was got

-- what is due for what was sent: the message again, and for a ping a pong with its payload
abbrev pub due_for : Event → List Reply
due_for event.Part = []
due_for (event.Message message) = reply.Message message ∷ []
due_for (event.Ping payload) = reply.Pong payload ∷ []
due_for (event.Pong payload) = []
due_for (event.Close close) = []
due_for (event.Failed reason) = []

-- what was got: Part and Ping are passed over
abbrev pub got_in : Event → List Reply
got_in event.Part = []
got_in (event.Message message) = reply.Message message ∷ []
got_in (event.Ping payload) = []
got_in (event.Pong payload) = reply.Pong payload ∷ []
got_in (event.Close close) = []
got_in (event.Failed reason) = []

-- a close, with its code if it has one, or a fault: no event follows it
abbrev pub ending_in : Event → List Ending
ending_in event.Part = []
ending_in (event.Message message) = []
ending_in (event.Ping payload) = []
ending_in (event.Pong payload) = []
ending_in (event.Close close) = Closed (code_if_any close) ∷ []
ending_in (event.Failed reason) = Failed reason ∷ []

-- what is found in events, each with the turn of its event, where the first turn has this number
abbrev pub by_turn : {X : Type 0} → (Event → List X) → ℕ → List (List Event) → List (InTurn X)
by_turn found turn [] = []
by_turn found turn (events ∷ later) =
    map (λ x. record { turn = turn; what = x }) (flat_map found events) ++ by_turn found (turn + 1) later

-- ---- the evidence of a transcript

-- What is found in bytes that came turn by turn to an endpoint of this role: the replies, the close or fault at the
-- end, and whether bytes stand after the last event.
pub record IsDirectionOf (role : Role) (found : Event → List Reply) (turns : List (List ℕ))
    (direction : Direction) : Type 0 where
  pub events : List (List Event)
  pub are_events : AreEventsByTurn role turns events
  pub replies : direction.replies ≡ by_turn found 0 events
  pub ending : direction.ending ≡ last_or None (by_turn ending_in 0 events)
  pub has_rest : (direction.has_rest ≡ true) ↔ HasRest role (concat turns) (joined_events events)

abbrev pub sent_turns : List Turn → List (List ℕ)
sent_turns turns = map (λ (turn : Turn). turn.sent) turns

abbrev pub got_turns : List Turn → List (List ℕ)
got_turns turns = map (λ (turn : Turn). turn.got) turns

-- what all that was sent says to the tested end, and all that was got to the tester, which is the other end
pub record IsEvidenceOf (tested : Role) (transcript : Transcript) (evidence : Evidence) : Type 0 where
  pub due : IsDirectionOf tested due_for (sent_turns transcript.turns) evidence.due
  pub got : IsDirectionOf (other_role tested) got_in (got_turns transcript.turns) evidence.got
  pub turns : evidence.turns ≡ length transcript.turns
  pub ended : evidence.ended ≡ transcript.ended
  -- nothing is counted yet of what was doomed
  pub uncounted : evidence.answers_doom ≡ false
