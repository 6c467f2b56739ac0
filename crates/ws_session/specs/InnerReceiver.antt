-- Inside the crate: the receiving side of an endpoint, for contracts of private functions. A reader may skip this file.
use Rattle.std.specs.Prelude.{◌≡◌, ◌≢◌, ℕ, ◌+◌, ◌≤◌, ◌<◌, ◌^◌, if◌then◌else◌, List, [], ◌++◌, length, Option}
use Rattle.std.specs.Prelude.{Some, None}
use Rattle.ws_wire.specs.declared.role.Role.{Role}
use Rattle.ws_wire.specs.Header.{header_bytes}
use Rattle.ws_session.specs.declared.limits.TheConstants.{MAX_MESSAGE}
use Rattle.ws_session.specs.declared.message.Kind.{Kind}
use Rattle.ws_session.specs.declared.message.Message.{Message}
use Rattle.ws_session.specs.declared.event.Event.{Event}
use Rattle.ws_session.specs.declared.event.Event.TheVariants as event
use Rattle.ws_session.specs.declared.event.Taken.{Taken}
use Rattle.ws_session.specs.declared.status.Status.{Status}
use Rattle.ws_session.specs.declared.replying.Replying.{Replying}
use Rattle.ws_session.specs.declared.receiver.under_way.UnderWay.{UnderWay}
use Rattle.ws_session.specs.declared.receiver.under_way.UnderWay.TheVariants as under_way
use Rattle.ws_session.specs.InnerContent.{Content}
use Rattle.ws_session.specs.InnerContent as content
use Rattle.ws_session.specs.Limits.{LimitsValue, most_beside}
use Rattle.ws_session.specs.Faults.{open_payload}
use Rattle.ws_session.specs.Exchange.{SendingValue, SessionValue}
use Rattle.ws_session.specs.InnerNextFrame.{IsPartOfFrame, due_at, status_with}
use Rattle.ws_session.specs.InnerInvariant.{reply_by}
use Rattle.ws_session.specs.InnerReceiving.{AssemblyValue, partial_of, came_of, IsUnderWay}
use Rattle.ws_session.specs.InnerReplying.{bytes_put}

-- what contracts see: the open message, the bytes of the frame under way as they came, all payload bytes that are kept,
-- how many of its payload are of the frame under way, the stream that reads them, and what is kept of that frame
pub record ReceiverValue : Type 0 where
  pub role : Role
  pub limits : LimitsValue
  pub opened : Option Message
  pub partial_frame : List ℕ
  pub assembled : List ℕ
  pub came : ℕ
  pub text : Option (List ℕ)
  pub frame : UnderWay

abbrev pub receiver_of : Role → LimitsValue → AssemblyValue → UnderWay → ReceiverValue
receiver_of role limits a frame = record {
  role = role;
  limits = limits;
  opened = a.opened;
  partial_frame = partial_of a frame;
  assembled = a.payload;
  came = came_of frame;
  text = a.text;
  frame = frame;
}

-- its assembly
abbrev pub assembly_of : ReceiverValue → AssemblyValue
assembly_of v = record { opened = v.opened; payload = v.assembled; text = v.text }

-- what is shown is a part of one frame and a message within the limits, and what is kept has at most the bytes of one
-- message
pub record IsSoundReceiver (v : ReceiverValue) : Type 0 where
  pub part : IsPartOfFrame v.role v.limits v.opened v.partial_frame
  pub limit : v.limits.max_message ≤ MAX_MESSAGE
  pub size : length (open_payload v.opened) ≤ v.limits.max_message
  pub held : length (open_payload v.opened) + length v.partial_frame ≤ v.limits.max_message + most_beside
  pub room : length v.assembled ≤ v.limits.max_message

-- no payload is kept but that of the open message and of the frame under way
abbrev pub IsExact : ReceiverValue → Type 0
IsExact v = length v.assembled ≡ length (open_payload v.opened) + v.came

pub record IsReceiving (role : Role) (limits : LimitsValue) (a : AssemblyValue) (frame : UnderWay) : Type 0 where
  pub under_way : IsUnderWay role limits a frame
  pub sound : IsSoundReceiver (receiver_of role limits a frame)

-- ---- the frame under way

-- no byte of it has come
abbrev pub NotBegun : UnderWay
NotBegun = under_way.Header []

-- how many bytes of it have come
abbrev pub length_so_far : UnderWay → ℕ
length_so_far (under_way.Header bytes) = length bytes
length_so_far (under_way.Data header came) = length (header_bytes header) + came
length_so_far (under_way.Control header payload) = length (header_bytes header) + length payload

abbrev pub HasRoom : UnderWay → Type 0
HasRoom frame = length_so_far frame < 2 ^ 64

-- ---- a session with this receiving side

abbrev pub session_with : ReceiverValue → Option SendingValue → Status → SessionValue
session_with v sending status = record {
  role = v.role;
  limits = v.limits;
  opened = v.opened;
  partial_frame = v.partial_frame;
  kept = length v.assembled;
  sending = sending;
  status = status;
}

-- its status after an event, if there is one
abbrev pub status_by : Status → Option Event → Status
status_by status None = status
status_by status (Some e) = status_with status e

-- so many bytes were taken, and this is told of them
abbrev pub taking : ℕ → Option Event → Taken
taking used told = record { used = used; event = told }

abbrev pub telling : ℕ → Event → Taken
telling used e = taking used (Some e)

-- ---- a whole frame

-- the message that is all that is kept
abbrev pub kept_message : ReceiverValue → Kind → Message
kept_message v kind = record { kind = kind; payload = v.assembled }

abbrev pub event_of_kept : ReceiverValue → Content → Event
event_of_kept v (content.Data fin kind text) = if fin then event.Message (kept_message v kind) else event.Part
event_of_kept v (content.Ping payload) = event.Ping payload
event_of_kept v (content.Pong payload) = event.Pong payload
event_of_kept v (content.Close close) = event.Close close

-- the message that is open after it: none after a close
abbrev pub opened_by : ReceiverValue → Content → Option Message
opened_by v (content.Data fin kind text) = if fin then None else Some (kept_message v kind)
opened_by v (content.Ping payload) = v.opened
opened_by v (content.Pong payload) = v.opened
opened_by v (content.Close close) = None

-- what came of an event: nothing is left of the frame, this message is open, and what is owed was put
pub record HasReceived (r : Replying) (old new : ReceiverValue) (before after : List ℕ) (e : Event)
    (opened : Option Message) : Type 0 where
  pub role : new.role ≡ old.role
  pub limits : new.limits ≡ old.limits
  pub opened_is : new.opened ≡ opened
  pub partial : new.partial_frame ≡ []
  pub put : after ≡ before ++ bytes_put r (reply_by r.answering e)

-- an answer is owed for the event
abbrev pub IsOwed : Replying → Event → Type 0
IsOwed r e = due_at r.status (reply_by r.answering e) ≢ []
