-- Inside the crate: how the evidence of a direction is collected, piece by piece. A reader may skip this file.
use Rattle.std.specs.Prelude.{◌≡◌, ℕ, ◌≤◌, max, false, List, [], ◌∷◌, ◌++◌, length, map, take, flat_map, Bool}
use Rattle.std.specs.Prelude.{if◌then◌else◌, Option, None, Some}
use Rattle.std.specs.List.{AllByRecursion, last_or}
use Rattle.ws_wire.specs.declared.role.Role.{Role}
use Rattle.ws_wire.specs.Frame.{KeyedFrame, FitsTheLayout, stream_bytes}
use Rattle.ws_wire.specs.Stream.{SplitsInto}
use Rattle.ws_session.specs.declared.event.Event.{Event}
use Rattle.ws_session.specs.declared.event.PlacedEvent.{PlacedEvent}
use Rattle.ws_session.specs.Limits.{LimitsValue}
use Rattle.ws_session.specs.Events.{HasEvents}
use Rattle.ws_session.specs.Faults.{KeysFit, frames_of}
use Rattle.ws_session.specs.Reach.{events_within, first_passing, fitting}
use Rattle.ws_session.specs.Validity.{AreValidFrames}
use Rattle.ws_session.specs.Exchange.{SessionValue}
use Rattle.ws_scripts.specs.declared.transcript.Transcript.{Transcript}
use Rattle.ws_scripts.specs.declared.transcript.Turn.{Turn}
use Rattle.ws_suite.specs.declared.evidence.InTurn.{InTurn}
use Rattle.ws_suite.specs.declared.evidence.Reply.{Reply}
use Rattle.ws_suite.specs.declared.evidence.Evidence.{Evidence}
use Rattle.ws_suite.specs.declared.evidence.collecting.Way.{Way}
use Rattle.ws_suite.specs.declared.evidence.collecting.Way.TheVariants.{Sent, Got, Told}
use Rattle.ws_suite.specs.declared.evidence.collecting.Collected.{Collected}
use Rattle.ws_suite.specs.Evidence.{IsDirectionOf, due_for, ending_in, got_in, got_turns, other_role, sent_turns}
use Rattle.ws_suite.specs.declared.evidence.kept.ReplyKind.{ReplyKind}
use Rattle.ws_suite.specs.Explanation.{told_in}
use Rattle.ws_suite.specs.Growing.{HasTakenTurns}
use Rattle.ws_suite.specs.Kept.{reply_of}

abbrev pub found_by : Way → Event → List Reply
found_by Sent e = due_for e
found_by Got e = got_in e
found_by Told e = told_in e

-- the reply of this kind with this payload, if there is one
abbrev pub reply_if_any : Option ReplyKind → List ℕ → List Reply
reply_if_any None payload = []
reply_if_any (Some kind) payload = reply_of kind payload ∷ []

-- the bytes of a turn that go this way
abbrev pub way_bytes : Way → Turn → List ℕ
way_bytes Sent turn = turn.sent
way_bytes Got turn = turn.got
way_bytes Told turn = turn.got

-- the turn of the first byte beyond a close, where this turn may be it
abbrev pub first_beyond : Option ℕ → ℕ → Bool → Option ℕ
first_beyond (Some turn) number goes_on = Some turn
first_beyond None number goes_on = if goes_on then Some number else None

-- the evidence of a transcript, where what was got is told this way
pub record IsEvidenceBy (way : Way) (tested : Role) (transcript : Transcript) (evidence : Evidence) : Type 0 where
  pub due : IsDirectionOf tested due_for (sent_turns transcript.turns) evidence.due
  pub got : IsDirectionOf (other_role tested) (found_by way) (map (way_bytes way) transcript.turns) evidence.got
  pub turns : evidence.turns ≡ length transcript.turns
  pub ended : evidence.ended ≡ transcript.ended
  pub uncounted : evidence.answers_doom ≡ false

-- the evidence of a transcript, but that the pings that were got stand among the replies
pub record IsToldEvidenceOf (tested : Role) (transcript : Transcript) (evidence : Evidence) : Type 0 where
  pub due : IsDirectionOf tested due_for (sent_turns transcript.turns) evidence.due
  pub got : IsDirectionOf (other_role tested) told_in (got_turns transcript.turns) evidence.got
  pub turns : evidence.turns ≡ length transcript.turns
  pub ended : evidence.ended ≡ transcript.ended
  pub uncounted : evidence.answers_doom ≡ false

-- these, each with the number of this turn
abbrev pub at_turn : {X : Type 0} → ℕ → List X → List (InTurn X)
at_turn turn xs = map (λ x. record { turn = turn; what = x }) xs

-- the greatest place at which an event ends, or 0
abbrev pub last_end : List PlacedEvent → ℕ
last_end [] = 0
last_end (x ∷ xs) = max x.end (last_end xs)

-- the turns so far of a direction were taken by a session of this role
abbrev pub HasTakenWay : {K : Type 0} → (K → List (InTurn Reply) → Type 0) → Way → Role → List (List ℕ) → SessionValue
    → Collected K → Type 0
HasTakenWay keeps way role turns session collected =
    HasTakenTurns keeps (found_by way) role turns session collected

-- events of one turn are collected after what was
pub record AreCollected {K : Type 0} (keeps : List (InTurn Reply) → K → List (InTurn Reply) → Type 0) (way : Way)
    (turn : ℕ) (events : List Event) (old new : Collected K) : Type 0 where
  pub replies : (handed replies : List (InTurn Reply)) → keeps handed old.replies replies
      → keeps handed new.replies (replies ++ at_turn turn (flat_map (found_by way) events))
  pub ending : new.ending ≡ last_or old.ending (at_turn turn (flat_map ending_in events))
  pub has_rest : new.has_rest ≡ old.has_rest

-- the laws of the layer below that serve here
pub record EventLaws : Type 0 where
  pub one_list : (role : Role) (limits : LimitsValue) (bytes : List ℕ) (events others : List Event)
      → HasEvents role limits bytes events → HasEvents role limits bytes others → events ≡ others
  pub go_on : (role : Role) (limits : LimitsValue) (bytes more : List ℕ) (events all : List Event)
      → HasEvents role limits bytes events → HasEvents role limits (bytes ++ more) all
      → (later : List Event) × (all ≡ events ++ later)

-- those that speak of valid frames
pub record FrameLaws : Type 0 where
  pub one_list : (role : Role) (limits : LimitsValue) (bytes : List ℕ) (events others : List Event)
      → HasEvents role limits bytes events → HasEvents role limits bytes others → events ≡ others
  pub told : (role : Role) (limits most : LimitsValue) (n : ℕ) (xs : List KeyedFrame)
      → AllByRecursion FitsTheLayout xs → KeysFit role xs → AreValidFrames most (frames_of xs)
      → HasEvents role limits (take n (stream_bytes xs)) (events_within limits n xs)
  pub fit : (limits most : LimitsValue) (xs : List KeyedFrame) → AreValidFrames most (frames_of xs)
      → most.max_message ≤ limits.max_message → most.max_frame ≤ limits.max_frame
      → (fitting limits xs ≡ xs) × (first_passing limits xs ≡ None)
  pub one_split : (bytes : List ℕ) (xs ys : List KeyedFrame) (a b : List ℕ) → SplitsInto bytes xs a
      → SplitsInto bytes ys b → (xs ≡ ys) × (a ≡ b)
