-- Inside the crate: what the check of one frame answers, for contracts of private functions. A reader may skip this
-- file.
use Rattle.std.specs.Prelude.{ℕ, ◌+◌, ◌≤◌, List, length, take, Option}
use Rattle.ws_wire.specs.declared.role.Role.{Role}
use Rattle.ws_wire.specs.Header.{HeaderFields}
use Rattle.ws_wire.specs.Frame.{Frame}
use Rattle.ws_text.specs.declared.closing.CloseFault.{CloseFault}
use Rattle.ws_text.specs.declared.closing.CloseFault.TheVariants.{OneByte, BadCode, ReasonNotText}
use Rattle.ws_session.specs.declared.message.Message.{Message}
use Rattle.ws_session.specs.declared.reason.Reason.{Reason}
use Rattle.ws_session.specs.declared.reason.Reason.TheVariants.{CloseOneByte, CloseCode, CloseReason}
use Rattle.ws_session.specs.Limits.{LimitsValue, most_beside}
use Rattle.ws_session.specs.Faults.{open_payload, AppliesAtHeader, AppliesInPayload, IsFirstPlaced, IsLowest, number_of}

-- ---- the header

abbrev pub NoneAtHeader : Role → LimitsValue → Option Message → HeaderFields → Type 0
NoneAtHeader role limits opened header = (reason : Reason) → AppliesAtHeader role limits opened header reason → ⊥

abbrev pub IsFirstAtHeader : Role → LimitsValue → Option Message → HeaderFields → Reason → Type 0
IsFirstAtHeader role limits opened header reason =
    IsLowest Reason number_of (AppliesAtHeader role limits opened header) reason

-- ---- the payload, as far as it has come

-- the reason applies at this place of the payload
abbrev pub IsInPayload : Option Message → HeaderFields → List ℕ → ℕ → Reason → Type 0
IsInPayload opened header payload count reason = (count ≤ length payload)
    × AppliesInPayload opened header (take count payload) reason

abbrev pub NoneInPayload : Option Message → HeaderFields → List ℕ → Type 0
NoneInPayload opened header payload = (count : ℕ) (reason : Reason) → count ≤ length payload
    → AppliesInPayload opened header (take count payload) reason → ⊥

abbrev pub IsFirstInPayload : Option Message → HeaderFields → List ℕ → ℕ → Reason → Type 0
IsFirstInPayload opened header payload count reason = IsFirstPlaced (IsInPayload opened header payload) count reason

-- the reason that a close payload gives
abbrev pub reason_of_close : CloseFault → Reason
reason_of_close OneByte = CloseOneByte
reason_of_close BadCode = CloseCode
reason_of_close ReasonNotText = CloseReason

abbrev pub frame_with : HeaderFields → List ℕ → Frame
frame_with header payload = record { fin = header.fin; rsv = header.rsv; opcode = header.opcode; payload = payload }

-- ---- the frame

-- what is kept of a message and a part of a frame: at most the limit, a header, and a control frame's payload
pub record IsRoomFor (limits : LimitsValue) (opened : Option Message) (bytes : List ℕ) : Type 0 where
  pub held : length (open_payload opened) ≤ limits.max_message
      → length (open_payload opened) + length bytes ≤ limits.max_message + most_beside
