-- The frame whose payload is the first violation of a stream: of a text, RFC 6455 sections 5.6 and 8.1, or of a close
-- frame, sections 5.5.1 and 7.4.
use Rattle.std.specs.Prelude.{◌≡◌, ℕ, true, false, List, length, Option, Some, None}
use Rattle.std.specs.List.{flat_map}
use Rattle.ws_wire.specs.declared.role.Role.{Role}
use Rattle.ws_wire.specs.Frame.{stream_bytes}
use Rattle.ws_session.specs.declared.reason.Reason.{Reason}
use Rattle.ws_session.specs.Faults.{IsFirstFault}
use Rattle.ws_session.specs.Sends.{most_limits}
use Rattle.ws_scripts.specs.declared.transcript.Transcript.{Transcript}
use Rattle.ws_scripts.specs.declared.transcript.Turn.{Turn}
use Rattle.ws_suite.specs.Evidence.{other_role}
use Rattle.ws_suite.specs.Found.{is_of_payload}
use Rattle.ws_faults.specs.declared.marking.MarkedFrames.{MarkedFrames}

-- the first fault of bytes that come to an end with this role is one of a payload, whose frame begins at this place
pub record IsPayloadFault (role : Role) (bytes : List ℕ) (place : ℕ) : Type 0 where
  pub told_at : ℕ
  pub reason : Reason
  pub is_first : IsFirstFault role most_limits bytes told_at reason
  pub of_payload : is_of_payload reason ≡ true
  pub begins : place ≡ length (stream_bytes is_first.fault.before)

-- there is no fault, or the first one is of a header
abbrev pub HasNoPayloadFault : Role → List ℕ → Type 0
HasNoPayloadFault role bytes = (place : ℕ) (reason : Reason) → IsFirstFault role most_limits bytes place reason
    → is_of_payload reason ≡ false

-- the place of the frame that is marked, if one is
abbrev pub IsMarkOf : Role → List ℕ → Option ℕ → Type 0
IsMarkOf role bytes None = HasNoPayloadFault role bytes
IsMarkOf role bytes (Some place) = IsPayloadFault role bytes place

-- so it is of both directions of a transcript: the tested end, with this role, takes what the tester sent, and the
-- tester what it got
pub record AreMarkedFrames (tested : Role) (transcript : Transcript) (marked : MarkedFrames) : Type 0 where
  pub sent : IsMarkOf tested (flat_map (λ (turn : Turn). turn.sent) transcript.turns) marked.sent
  pub got : IsMarkOf (other_role tested) (flat_map (λ (turn : Turn). turn.got) transcript.turns) marked.got
