-- Inside the crate: the one frame after those that have come, for contracts of private functions. A reader may skip
-- this file: no public contract speaks of it.
use Rattle.std.specs.Prelude.{◌≡◌, ℕ, ◌+◌, ◌≤◌, false, if◌then◌else◌, List, [], ◌++◌, length, Option, Some, None}
use Rattle.std.specs.List.{AllByRecursion}
use Rattle.ws_wire.specs.declared.role.Role.{Role}
use Rattle.ws_wire.specs.Header.{HeaderFields, IsHeader, AreBytes, header_bytes}
use Rattle.ws_wire.specs.Masking.{masked_payload}
use Rattle.ws_wire.specs.Frame.{Frame, KeyedFrame, FitsTheLayout, sent_as, frame_bytes}
use Rattle.ws_wire.specs.Stream.{BeginsNone}
use Rattle.ws_session.specs.declared.message.Message.{Message}
use Rattle.ws_session.specs.declared.reason.Reason.{Reason}
use Rattle.ws_session.specs.declared.event.Event.{Event}
use Rattle.ws_session.specs.declared.event.Event.TheVariants as event
use Rattle.ws_session.specs.declared.status.Status.{Status}
use Rattle.ws_session.specs.declared.status.Status.TheVariants as status
use Rattle.ws_session.specs.Limits.{LimitsValue}
use Rattle.ws_session.specs.Messages.{is_control, kind_of}
use Rattle.ws_session.specs.Faults.{Applies, IsFirstPlaced}
use Rattle.ws_session.specs.Events.{event_of_control}
use Rattle.ws_session.specs.Exchange.{SessionValue, code_if_any, is_over}

abbrev pub AreSent : List KeyedFrame → Type 0
AreSent xs = AllByRecursion FitsTheLayout xs

abbrev pub BeginsNoFrame : List ℕ → Type 0
BeginsNoFrame bytes = BeginsNone FitsTheLayout frame_bytes bytes

abbrev pub header_of : KeyedFrame → HeaderFields
header_of x = (sent_as x).header

-- a part of one frame at the front, after frames that leave this message open: the reason applies at the place
pub record IsFaultOfNext (role : Role) (limits : LimitsValue) (opened : Option Message) (bytes : List ℕ) (place : ℕ)
    (reason : Reason) : Type 0 where
  pub header : HeaderFields
  pub is_header : IsHeader header
  pub payload : List ℕ
  pub are_bytes : AreBytes payload
  pub within : length payload ≤ header.len
  pub rest : List ℕ
  pub parts : bytes ≡ header_bytes header ++ (masked_payload header.key payload ++ rest)
  pub is_place : place ≡ length (header_bytes header) + length payload
  pub applies : Applies role limits opened header payload reason

abbrev pub HasNoFaultOfNext : Role → LimitsValue → Option Message → List ℕ → Type 0
HasNoFaultOfNext role limits opened bytes = (place : ℕ) (reason : Reason)
    → IsFaultOfNext role limits opened bytes place reason → ⊥

abbrev pub IsFirstFaultOfNext : Role → LimitsValue → Option Message → List ℕ → ℕ → Reason → Type 0
IsFirstFaultOfNext role limits opened bytes place reason =
    IsFirstPlaced (IsFaultOfNext role limits opened bytes) place reason

-- no fault is in these bytes and no frame is whole
pub record IsPartOfFrame (role : Role) (limits : LimitsValue) (opened : Option Message) (bytes : List ℕ) : Type 0 where
  pub clean : HasNoFaultOfNext role limits opened bytes
  pub none : BeginsNoFrame bytes

-- ---- what a whole frame does

-- the message so far, with one more frame
abbrev pub message_with : Option Message → Frame → Message
message_with None frame = record { kind = kind_of frame.opcode; payload = frame.payload }
message_with (Some message) frame = record { kind = message.kind; payload = message.payload ++ frame.payload }

abbrev pub opened_with : Option Message → Frame → Option Message
opened_with opened frame = if is_control frame then opened
    else (if frame.fin then None else Some (message_with opened frame))

-- the event of a frame after an open message
abbrev pub event_behind : Option Message → Frame → Event
event_behind opened frame =
    if is_control frame then event_of_control frame
    else (if frame.fin then event.Message (message_with opened frame) else event.Part)

-- the status of a session that isn't over, after an event
abbrev pub status_with : Status → Event → Status
status_with old (event.Failed reason) = status.Failed reason
status_with old (event.Close close) = status.Clean (code_if_any close)
status_with old _ = old

-- what a session that isn't over sends of the frames that it owes
abbrev pub due_at : Status → List Frame → List Frame
due_at status.Closing frames = []
due_at _ frames = frames

-- the session after an event: nothing is left of the frame, and this message is open, unless all is over
pub record IsAfter (old new : SessionValue) (e : Event) (opened : Option Message) : Type 0 where
  pub role : new.role ≡ old.role
  pub limits : new.limits ≡ old.limits
  pub sending : new.sending ≡ old.sending
  pub status : new.status ≡ status_with old.status e
  pub taking : is_over new.status ≡ false → (new.opened ≡ opened) × (new.partial_frame ≡ [])
