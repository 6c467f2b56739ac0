-- Why a verdict is told: what was owed and what came, by the evidence that the verdict is made of.
use Rattle.std.specs.Prelude.{◌≡◌, ◌≢◌, ℕ, ◌+◌, ◌-◌, ◌≤◌, ◌⊎◌, true, false, List, [], ◌∷◌, length, take, Option}
use Rattle.std.specs.Prelude.{Some, None}
use Rattle.std.specs.List.{concat}
use Rattle.ws_wire.specs.declared.role.Role.{Role}
use Rattle.ws_session.specs.declared.event.Event.{Event}
use Rattle.ws_session.specs.declared.event.Event.TheVariants as event
use Rattle.ws_session.specs.Events.{HasEvents}
use Rattle.ws_session.specs.Sends.{most_limits}
use Rattle.ws_scripts.specs.declared.transcript.Transcript.{Transcript}
use Rattle.ws_scripts.specs.declared.expectation.Expectation.{Expectation}
use Rattle.ws_scripts.specs.declared.expectation.Expectation.TheVariants.{Echo, Protocol}
use Rattle.ws_suite.specs.declared.evidence.Ending.{Ending}
use Rattle.ws_suite.specs.declared.evidence.InTurn.{InTurn}
use Rattle.ws_suite.specs.declared.evidence.marks.Marks.{Marks}
use Rattle.ws_suite.specs.declared.evidence.Reply.{Reply}
use Rattle.ws_suite.specs.declared.evidence.Reply.TheVariants as reply
use Rattle.ws_suite.specs.declared.evidence.Direction.{Direction}
use Rattle.ws_suite.specs.declared.evidence.Evidence.{Evidence}
use Rattle.ws_suite.specs.declared.explaining.Explanation.{Explanation}
use Rattle.ws_suite.specs.Evidence.{HoldsByte, IsDirectionOf, IsEvidenceOf, got_turns, other_role}
use Rattle.ws_suite.specs.Doom.{HasDoomCounted}
use Rattle.ws_suite.specs.Found.{ShowsFound}
use Rattle.ws_suite.specs.Matching.{ends_with_close}
use Rattle.ws_suite.specs.Marks.{CountsUndefinedCode, StandBehind}
use Rattle.ws_suite.specs.Protocol.{IsMarkedEvidenceOf, IsProtocolVerdictOn, owed_pongs}
use Rattle.ws_suite.specs.Verdicts.{IsVerdictOn}

-- what came: messages, pings and pongs; a part of a message isn't told
abbrev pub told_in : Event → List Reply
told_in event.Part = []
told_in (event.Message message) = reply.Message message ∷ []
told_in (event.Ping payload) = reply.Ping payload ∷ []
told_in (event.Pong payload) = reply.Pong payload ∷ []
told_in (event.Close close) = []
told_in (event.Failed reason) = []

-- by the bytes of the first turns, so many, a close came, and bytes follow it
abbrev pub GoesOnBy : Role → (Event → List Reply) → List (List ℕ) → ℕ → Type 0
GoesOnBy role found turns count = (direction : Direction) × IsDirectionOf role found (take count turns) direction
    × (ends_with_close direction.ending ≡ true) × (direction.has_rest ≡ true)

-- where bytes follow the close that came, by the first turns, so many: in the turn of the first of them; or nowhere
abbrev pub IsBeyondBy : Role → (Event → List Reply) → List (List ℕ) → ℕ → Option ℕ → Type 0
IsBeyondBy role found turns most None = (count : ℕ) → count ≤ most → ¬ (GoesOnBy role found turns count)
IsBeyondBy role found turns most (Some turn) =
    GoesOnBy role found turns (turn + 1) × ((count : ℕ) → count ≤ turn → ¬ (GoesOnBy role found turns count))

-- The verdict on a transcript, and why it is told. What was owed is what the verdict counts as due: the replies in the
-- order of the events that were sent, each with the turn of its cause, and the close or the fault, as it counts. What
-- came are the events that were got, in their order, and whether bytes follow the close among them. Where the first
-- fault of what came is, and which bytes show it, is found in the bytes, as are the first ones behind the close.
pub record IsExplanationOf (tested : Role) (transcript : Transcript) (x : Explanation) : Type 0 where
  pub evidence : Evidence
  pub is_evidence : IsEvidenceOf tested transcript evidence
  pub counted : Evidence
  pub is_counted : HasDoomCounted tested transcript evidence counted
  pub is_verdict : IsVerdictOn tested counted x.verdict
  pub due : x.due ≡ counted.due
  pub got : IsDirectionOf (other_role tested) told_in (got_turns transcript.turns) x.got
  pub beyond : IsBeyondBy (other_role tested) told_in (got_turns transcript.turns) (length transcript.turns) x.beyond
  pub found : ShowsFound (other_role tested) (concat (got_turns transcript.turns)) x.found
  pub turns : x.turns ≡ counted.turns
  pub ended : x.ended ≡ counted.ended

-- ---- by the protocol

-- bytes are behind the last event, and the first of them is in this turn
pub record GoesOnIn (role : Role) (turns : List (List ℕ)) (turn : ℕ) : Type 0 where
  pub events : List Event
  pub are_events : HasEvents role most_limits (concat turns) events
  pub behind : List ℕ
  pub stand_behind : StandBehind role (concat turns) events behind
  pub some : behind ≢ []
  pub place : HoldsByte turns turn (length (concat turns) - length behind + 1)

-- where bytes follow the close that came, if one counts as come: in the turn of the first of them; or nowhere
abbrev pub IsBeyondClose : Role → List (List ℕ) → Option (InTurn Ending) → Option ℕ → Type 0
IsBeyondClose role turns ending None = (ends_with_close ending ≡ false) ⊎ ((turn : ℕ) → ¬ (GoesOnIn role turns turn))
IsBeyondClose role turns ending (Some turn) = (ends_with_close ending ≡ true) × GoesOnIn role turns turn

-- The verdict by the protocol on a transcript, and why it is told. What was owed are the pongs for the pings in an
-- earlier turn than what ends the connection, and the close or the fault that was sent, as it counts. What came are the
-- events that were got, where a close whose code the standard leaves undefined counts as one. What is found in their
-- bytes is as with an echo: there such a close is a fault.
pub record IsProtocolExplanationOf (tested : Role) (transcript : Transcript) (x : Explanation) : Type 0 where
  pub counted : Evidence
  pub marks : Marks
  pub is_evidence : IsMarkedEvidenceOf tested transcript counted marks
  pub is_verdict : IsProtocolVerdictOn tested counted marks x.verdict
  pub owed : x.due.replies ≡ owed_pongs counted
  pub due_ending : x.due.ending ≡ counted.due.ending
  pub due_rest : x.due.has_rest ≡ counted.due.has_rest
  pub told : Direction
  pub is_told : IsDirectionOf (other_role tested) told_in (got_turns transcript.turns) told
  pub replies : x.got.replies ≡ told.replies
  pub ending : CountsUndefinedCode (other_role tested) (concat (got_turns transcript.turns)) told.ending x.got.ending
  pub has_rest : x.got.has_rest ≡ told.has_rest
  pub beyond : IsBeyondClose (other_role tested) (got_turns transcript.turns) x.got.ending x.beyond
  pub found : ShowsFound (other_role tested) (concat (got_turns transcript.turns)) x.found
  pub turns : x.turns ≡ counted.turns
  pub ended : x.ended ≡ counted.ended

-- the explanation of the verdict by what is expected of the tested end
abbrev pub IsExplanationBy : Expectation → Role → Transcript → Explanation → Type 0
IsExplanationBy Echo tested transcript x = IsExplanationOf tested transcript x
IsExplanationBy Protocol tested transcript x = IsProtocolExplanationOf tested transcript x
