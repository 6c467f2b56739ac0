-- What can still become a right frame, and what is doomed: whatever bytes complete it, it is at fault. RFC 6455
-- sections 5.1 to 5.5, 7.4 and 8.1. An endpoint that sees so may fail the connection before the place of the fault has
-- come.
use Rattle.std.specs.Prelude.{◌≡◌, ◌≢◌, ℕ, ◌≤◌, List, [], ◌++◌, length, take, Option}
use Rattle.std.specs.List.{AllByRecursion}
use Rattle.ws_wire.specs.declared.role.Role.{Role}
use Rattle.ws_wire.specs.Header.{HeaderFields, IsHeader, AreBytes, header_bytes}
use Rattle.ws_wire.specs.Masking.{masked_payload}
use Rattle.ws_wire.specs.Frame.{KeyedFrame}
use Rattle.ws_wire.specs.Stream.{SplitsInto}
use Rattle.ws_session.specs.declared.message.Message.{Message}
use Rattle.ws_session.specs.declared.reason.Reason.{Reason}
use Rattle.ws_session.specs.Limits.{LimitsValue}
use Rattle.ws_session.specs.Messages.{open_message_of}
use Rattle.ws_session.specs.Faults.{frames_of, Applies, IsNoClose, HasNoFault}

-- ---- one frame after an open message

-- a header in any form and a payload of as many bytes as it says: no reason applies to any front of it
pub record IsRightFrame (role : Role) (limits : LimitsValue) (opened : Option Message) (header : HeaderFields)
    (payload : List ℕ) : Type 0 where
  pub is_header : IsHeader header
  pub are_bytes : AreBytes payload
  pub whole : length payload ≡ header.len
  pub right : (count : ℕ) (reason : Reason) → count ≤ length payload
      → Applies role limits opened header (take count payload) reason → ⊥

-- some right frame begins with these bytes
pub record CanBeRight (role : Role) (limits : LimitsValue) (opened : Option Message) (bytes : List ℕ) : Type 0 where
  pub header : HeaderFields
  pub payload : List ℕ
  pub later : List ℕ
  pub parts : header_bytes header ++ masked_payload header.key payload ≡ bytes ++ later
  pub right : IsRightFrame role limits opened header payload

-- a frame has begun, and no right frame begins with its bytes. Nothing is asked of whether its fault has come
pub record IsDoomed (role : Role) (limits : LimitsValue) (opened : Option Message) (bytes : List ℕ) : Type 0 where
  pub begun : bytes ≢ []
  pub never : CanBeRight role limits opened bytes → ⊥

-- ---- a stream

-- The bytes are these frames and the rest, a part of one more frame: (1) none of the frames is a close; (2) no fault
-- has come; (3) the rest is doomed after the message that the frames leave open
pub record EndsDoomed (role : Role) (limits : LimitsValue) (bytes : List ℕ) (frames : List KeyedFrame) (rest : List ℕ)
    : Type 0 where
  pub split : SplitsInto bytes frames rest
  pub no_close : AllByRecursion IsNoClose frames
  pub clean : HasNoFault role limits bytes
  pub doomed : IsDoomed role limits (open_message_of (frames_of frames)) rest
