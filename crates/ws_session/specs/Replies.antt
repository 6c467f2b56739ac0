-- What an endpoint owes for what it is told: RFC 6455 sections 5.5.1 to 5.5.3, 7.1.7 and 7.4.1.
use Rattle.std.specs.Prelude.{ℕ, Bool, true, false, ◌||◌, if◌then◌else◌, List, [], ◌∷◌, Option, Some, None}
use Rattle.std.specs.List.{flat_map}
use Rattle.ws_wire.specs.declared.role.Role.{Role}
use Rattle.ws_wire.specs.declared.role.Role.TheVariants.{Client, Server}
use Rattle.ws_wire.specs.Frame.{Frame, KeyedFrame}
use Rattle.ws_text.specs.Close.{CloseValue, close_payload}
use Rattle.ws_session.specs.declared.reason.Reason.{Reason}
use Rattle.ws_session.specs.declared.reason.Reason.TheVariants.{TooBig, FrameBig, NotText, TextCut, CloseReason}
use Rattle.ws_session.specs.declared.event.Event.{Event}
use Rattle.ws_session.specs.declared.event.Event.TheVariants as event
use Rattle.ws_session.specs.declared.message.Message.{Message}
use Rattle.ws_session.specs.Messages.{is_close, opcode_of}

-- the close code that tells a reason (section 7.4.1): 1009 too big, 1007 not text, else 1002 protocol error
abbrev pub close_code_of : Reason → ℕ
close_code_of TooBig = 1009
close_code_of FrameBig = 1009
close_code_of NotText = 1007
close_code_of TextCut = 1007
close_code_of CloseReason = 1007
close_code_of _ = 1002

abbrev pub control_frame : ℕ → List ℕ → Frame
control_frame opcode payload = record { fin = true; rsv = 0; opcode = opcode; payload = payload }

-- a close frame with the code alone
abbrev pub close_frame : ℕ → Frame
close_frame code = control_frame 8 (close_payload (Some (record { code = code; reason = [] })))

-- a close is answered by its code, or emptily
abbrev pub close_reply : Option CloseValue → Frame
close_reply None = control_frame 8 (close_payload None)
close_reply (Some close) = close_frame close.code

-- a ping is answered by a pong of its payload, a close by a close, and a fault by a close with its reason's code
-- our choice: every ping is answered (section 5.5.3 would allow the latest alone), and a pong never
abbrev pub reply_to : Event → List Frame
reply_to event.Part = []
reply_to (event.Message message) = []
reply_to (event.Ping payload) = control_frame 10 payload ∷ []
reply_to (event.Pong payload) = []
reply_to (event.Close close) = close_reply close ∷ []
reply_to (event.Failed reason) = close_frame (close_code_of reason) ∷ []

-- frames up to the first close, and that one
abbrev pub until_close : List Frame → List Frame
until_close [] = []
until_close (frame ∷ frames) = if is_close frame then frame ∷ [] else frame ∷ until_close frames

abbrev pub has_close : List Frame → Bool
has_close [] = false
has_close (frame ∷ frames) = is_close frame || has_close frames

-- the frames that the events call for, in their order, and none once a close was sent, before or among them
-- our choice: after its close an endpoint sends no frame of any kind (section 5.5.1 forbids data frames)
abbrev pub replies_by : (Event → List Frame) → List Frame → List Event → List Frame
replies_by reply sent events = if has_close sent then [] else until_close (flat_map reply events)

abbrev pub replies_of : List Frame → List Event → List Frame
replies_of sent events = replies_by reply_to sent events

-- ---- an echo

-- the message in one frame
abbrev pub message_frame : Message → Frame
message_frame message = record { fin = true; rsv = 0; opcode = opcode_of message.kind; payload = message.payload }

-- an echo also sends each message back in one frame
abbrev pub echo_reply_to : Event → List Frame
echo_reply_to (event.Message message) = message_frame message ∷ []
echo_reply_to e = reply_to e

abbrev pub echo_replies_of : List Frame → List Event → List Frame
echo_replies_of sent events = replies_by echo_reply_to sent events

-- ---- keys

-- the key of a frame that this role sends: a client masks each frame, a server none (section 5.1)
abbrev pub key_for : Role → List ℕ → Option (List ℕ)
key_for Client key = Some key
key_for Server key = None

abbrev pub under_key : Role → List ℕ → Frame → KeyedFrame
under_key role key frame = record { frame = frame; key = key_for role key }
