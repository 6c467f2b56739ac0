-- What has come of frames that were sent one after the other, once the first bytes of them have: RFC 6455 sections 5.4
-- and 10.4.
use Rattle.std.specs.Prelude.{◌≡◌, ℕ, ◌≤◌, ◌+◌, ◌-◌, nat_lt, nat_le, Bool, not, ◌&&◌, ◌||◌, if◌then◌else◌, List, []}
use Rattle.std.specs.Prelude.{◌∷◌, ◌++◌, length, Option, Some, None}
use Rattle.ws_wire.specs.Header.{header_bytes}
use Rattle.ws_wire.specs.Frame.{Frame, KeyedFrame, sent_as, frame_bytes, stream_bytes}
use Rattle.ws_session.specs.declared.event.Event.{Event}
use Rattle.ws_session.specs.declared.event.Event.TheVariants as event
use Rattle.ws_session.specs.declared.reason.Reason.{Reason}
use Rattle.ws_session.specs.declared.reason.Reason.TheVariants.{TooBig, FrameBig}
use Rattle.ws_session.specs.Limits.{LimitsValue}
use Rattle.ws_session.specs.Messages.{is_control, open_message_of}
use Rattle.ws_session.specs.Faults.{frames_of, open_payload}
use Rattle.ws_session.specs.Events.{events_after}

-- the frame takes its message's payload above the limit of a message
abbrev pub is_message_too_big : LimitsValue → List Frame → Frame → Bool
is_message_too_big limits before frame =
    nat_lt limits.max_message (length (open_payload (open_message_of before)) + length frame.payload)

-- a data frame passes a limit if it takes its message above that of a message, or is above that of a frame
abbrev pub passes_limit : LimitsValue → List Frame → Frame → Bool
passes_limit limits before frame = not (is_control frame)
    && (is_message_too_big limits before frame || nat_lt limits.max_frame (length frame.payload))

-- what is told of a frame that passes a limit
abbrev pub size_reason : LimitsValue → List Frame → Frame → Reason
size_reason limits before frame = if is_message_too_big limits before frame then TooBig else FrameBig

-- the frames before the first that passes a limit, after others
abbrev pub fitting_after : LimitsValue → List Frame → List KeyedFrame → List KeyedFrame
fitting_after limits before [] = []
fitting_after limits before (x ∷ xs) = if passes_limit limits before x.frame then []
    else x ∷ fitting_after limits (before ++ x.frame ∷ []) xs

abbrev pub fitting : LimitsValue → List KeyedFrame → List KeyedFrame
fitting limits xs = fitting_after limits [] xs

-- a frame that passes a limit, and what is told of it
pub record PassingFrame : Type 0 where
  pub frame : KeyedFrame
  pub reason : Reason

-- the first frame that passes a limit
abbrev pub first_passing_after : LimitsValue → List Frame → List KeyedFrame → Option PassingFrame
first_passing_after limits before [] = None
first_passing_after limits before (x ∷ xs) = if passes_limit limits before x.frame
    then Some (record { frame = x; reason = size_reason limits before x.frame })
    else first_passing_after limits (before ++ x.frame ∷ []) xs

abbrev pub first_passing : LimitsValue → List KeyedFrame → Option PassingFrame
first_passing limits xs = first_passing_after limits [] xs

-- the frames that end within the first bytes
abbrev pub ending_within : ℕ → List KeyedFrame → List KeyedFrame
ending_within n [] = []
ending_within n (x ∷ xs) = if nat_le (length (frame_bytes x)) n then x ∷ ending_within (n - length (frame_bytes x)) xs
    else []

-- the frames that end within the first bytes, before the first that passes a limit
abbrev pub frames_within : LimitsValue → ℕ → List KeyedFrame → List KeyedFrame
frames_within limits n xs = ending_within n (fitting limits xs)

-- a front of the frames that takes at most so many bytes and in which none passes a limit: `frames_within` is the
-- longest (the law `longest_front_within`)
pub record IsWithin (limits : LimitsValue) (n : ℕ) (xs front : List KeyedFrame) : Type 0 where
  pub later : List KeyedFrame
  pub parts : xs ≡ front ++ later
  pub bytes : length (stream_bytes front) ≤ n
  pub fits : first_passing limits front ≡ None

-- a frame's reason, if its header ends within the first bytes, with so many bytes before it
abbrev pub reason_within : ℕ → ℕ → Option PassingFrame → Option Reason
reason_within n before None = None
reason_within n before (Some x) =
    if nat_le (before + length (header_bytes (sent_as x.frame).header)) n then Some x.reason else None

-- what the first bytes tell of a size that is not taken: they hold the header of a frame that passes a limit
abbrev pub size_fault : LimitsValue → ℕ → List KeyedFrame → Option Reason
size_fault limits n xs = reason_within n (length (stream_bytes (fitting limits xs))) (first_passing limits xs)

abbrev pub events_of_fault : Option Reason → List Event
events_of_fault None = []
events_of_fault (Some reason) = event.Failed reason ∷ []

-- what is told of the first bytes of frames of which a close, if any, is the last: the events of the frames in them,
-- and then that one has a size that is not taken
abbrev pub events_within : LimitsValue → ℕ → List KeyedFrame → List Event
events_within limits n xs =
    events_after [] (frames_of (frames_within limits n xs)) ++ events_of_fault (size_fault limits n xs)
