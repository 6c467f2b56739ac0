-- Frames as messages: RFC 6455 sections 5.4 and 5.5.
use Rattle.std.specs.Prelude.{ℕ, Bool, not, nat_le, ◌==◌, if◌then◌else◌, List, [], ◌∷◌, map, filter, Option, Some, None}
use Rattle.std.specs.List.{flat_map}
use Rattle.ws_wire.specs.Frame.{Frame}
use Rattle.ws_session.specs.declared.message.Kind.{Kind}
use Rattle.ws_session.specs.declared.message.Kind.TheVariants.{Text, Binary}
use Rattle.ws_session.specs.declared.message.Message.{Message}

-- opcodes from 8 on are those of control frames (section 5.5)
abbrev pub is_control : Frame → Bool
is_control frame = nat_le 8 frame.opcode

abbrev pub is_close : Frame → Bool
is_close frame = frame.opcode == 8

-- the frames without the control frames, which may stand between fragments
abbrev pub data_frames : List Frame → List Frame
data_frames frames = filter (λ frame. not (is_control frame)) frames

-- data frames cut after each FIN: the groups that a FIN finishes, and the frames of the unfinished one
pub record Groups : Type 0 where
  pub finished : List (List Frame)
  pub unfinished : List Frame

-- one more frame before the first group
abbrev pub before_first : Frame → List (List Frame) → List Frame → Groups
before_first frame [] unfinished = record { finished = []; unfinished = frame ∷ unfinished }
before_first frame (group ∷ groups) unfinished = record { finished = (frame ∷ group) ∷ groups; unfinished = unfinished }

-- one more frame before all groups: one with FIN is a group of its own
abbrev pub with_frame : Frame → Groups → Groups
with_frame frame groups =
    if frame.fin then record { finished = (frame ∷ []) ∷ groups.finished; unfinished = groups.unfinished }
    else before_first frame groups.finished groups.unfinished

abbrev pub groups_of : List Frame → Groups
groups_of [] = record { finished = []; unfinished = [] }
groups_of (frame ∷ frames) = with_frame frame (groups_of frames)

-- opcode 1 begins a text message, opcode 2 a binary one (section 5.6)
abbrev pub kind_of : ℕ → Kind
kind_of opcode = if opcode == 1 then Text else Binary

abbrev pub opcode_of : Kind → ℕ
opcode_of Text = 1
opcode_of Binary = 2

abbrev pub first_opcode : List Frame → ℕ
first_opcode [] = 0
first_opcode (frame ∷ frames) = frame.opcode

abbrev pub joined_payload : List Frame → List ℕ
joined_payload frames = flat_map (λ (frame : Frame). frame.payload) frames

-- the message that a group is: its kind from its first opcode, and the joined payloads
abbrev pub message_of : List Frame → Message
message_of group = record { kind = kind_of (first_opcode group); payload = joined_payload group }

-- the messages that some frames finish, in order
abbrev pub messages_of : List Frame → List Message
messages_of frames = map message_of (groups_of (data_frames frames)).finished

abbrev pub message_if_any : List Frame → Option Message
message_if_any [] = None
message_if_any (frame ∷ frames) = Some (message_of (frame ∷ frames))

-- the message that is open after some frames, as far as it has come
abbrev pub open_message_of : List Frame → Option Message
open_message_of frames = message_if_any (groups_of (data_frames frames)).unfinished
