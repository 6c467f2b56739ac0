-- What a session tells of the bytes that it takes: RFC 6455 sections 5.4, 5.5 and 6.2.
use Rattle.std.specs.Prelude.{◌≡◌, ℕ, ◌+◌, ◌-◌, ◌*◌, nat_lt, ◌==◌, if◌then◌else◌, List, [], ◌∷◌, ◌++◌, length, Option}
use Rattle.std.specs.Prelude.{Some, None}
use Rattle.std.specs.List.{flat_map}
use Rattle.ws_wire.specs.declared.role.Role.{Role}
use Rattle.ws_wire.specs.Frame.{Frame, KeyedFrame, frame_bytes}
use Rattle.ws_wire.specs.Stream.{SplitsInto}
use Rattle.ws_text.specs.Close.{CloseValue}
use Rattle.ws_session.specs.declared.message.Message.{Message}
use Rattle.ws_session.specs.declared.reason.Reason.{Reason}
use Rattle.ws_session.specs.declared.event.Event.{Event}
use Rattle.ws_session.specs.declared.event.Event.TheVariants as event
use Rattle.ws_session.specs.Limits.{LimitsValue}
use Rattle.ws_session.specs.Messages.{is_control, is_close, data_frames, groups_of, message_of}
use Rattle.ws_session.specs.Faults.{frames_of, IsFirstFault, HasNoFault}

-- what stands in a close payload: a code, the higher byte first, and a reason
abbrev pub close_in : List ℕ → Option CloseValue
close_in [] = None
close_in (high ∷ []) = None
close_in (high ∷ low ∷ reason) = Some (record { code = 256 * high + low; reason = reason })

abbrev pub event_of_control : Frame → Event
event_of_control frame =
    if frame.opcode == 8 then event.Close (close_in frame.payload)
    else (if frame.opcode == 9 then event.Ping frame.payload else event.Pong frame.payload)

-- the one event of a whole frame after others: a data frame with FIN gives the message that it finishes
abbrev pub event_of : List Frame → Frame → Event
event_of before frame =
    if is_control frame then event_of_control frame
    else (if frame.fin then event.Message (message_of ((groups_of (data_frames before)).unfinished ++ frame ∷ []))
    else event.Part)

-- the events of frames one after the other, after others
abbrev pub events_after : List Frame → List Frame → List Event
events_after before [] = []
events_after before (frame ∷ frames) = event_of before frame ∷ events_after (before ++ frame ∷ []) frames

-- the frames up to the first close, and that one
abbrev pub through_close : List KeyedFrame → List KeyedFrame
through_close [] = []
through_close (x ∷ xs) = if is_close x.frame then x ∷ [] else x ∷ through_close xs

-- the frames that end before a place
abbrev pub ending_before : ℕ → List KeyedFrame → List KeyedFrame
ending_before place [] = []
ending_before place (x ∷ xs) =
    if nat_lt (length (frame_bytes x)) place then x ∷ ending_before (place - length (frame_bytes x)) xs else []

-- the events of the frames up to the first close; where there is a fault, of those that end before its place, and then
-- it
abbrev pub events_of : List KeyedFrame → Option (ℕ × Reason) → List Event
events_of xs None = events_after [] (frames_of (through_close xs))
events_of xs (Some fault) = events_after [] (frames_of (through_close (ending_before fault.0 xs)))
    ++ event.Failed fault.1 ∷ []

-- the first fault of the bytes, by place and reason, or that there is none
abbrev pub IsFaultOf : Role → LimitsValue → List ℕ → Option (ℕ × Reason) → Type 0
IsFaultOf role limits bytes None = HasNoFault role limits bytes
IsFaultOf role limits bytes (Some fault) = IsFirstFault role limits bytes fault.0 fault.1

-- a session of this role under these limits tells these events of the bytes
pub record HasEvents (role : Role) (limits : LimitsValue) (bytes : List ℕ) (events : List Event) : Type 0 where
  pub frames : List KeyedFrame
  pub rest : List ℕ
  pub split : SplitsInto bytes frames rest
  pub fault : Option (ℕ × Reason)
  pub is_fault : IsFaultOf role limits bytes fault
  pub are : events ≡ events_of frames fault

-- ---- messages among events

abbrev pub message_in : Event → List Message
message_in (event.Message message) = message ∷ []
message_in _ = []

-- the messages that events tell, in order
abbrev pub messages_in : List Event → List Message
messages_in events = flat_map message_in events
