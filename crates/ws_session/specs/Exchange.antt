-- What a session shows of the frames that it sent and the bytes that it took: RFC 6455 sections 4.1, 5.4 and 7.1.
use Rattle.std.specs.Prelude.{◌≡◌, ℕ, Bool, true, false, if◌then◌else◌, List, [], ◌∷◌, length, Option, Some, None}
use Rattle.std.specs.declared.alloc.Global.{Global}
use Rattle.std.specs.declared.vec.Vec.{Vec}
use Rattle.std.specs.List.{flat_map}
use Rattle.ws_wire.specs.declared.role.Role.{Role}
use Rattle.ws_wire.specs.Header.{AreBytes}
use Rattle.ws_wire.specs.Frame.{Frame}
use Rattle.ws_text.specs.Text.{HasUnfinished}
use Rattle.ws_text.specs.Close.{CloseValue}
use Rattle.ws_session.specs.declared.message.Kind.{Kind}
use Rattle.ws_session.specs.declared.message.Kind.TheVariants.{Text, Binary}
use Rattle.ws_session.specs.declared.message.Message.{Message}
use Rattle.ws_session.specs.declared.event.Event.{Event}
use Rattle.ws_session.specs.declared.event.Event.TheVariants as event
use Rattle.ws_session.specs.declared.status.Status.{Status}
use Rattle.ws_session.specs.declared.status.Status.TheVariants.{Open, Closing, Clean, Failed, Lost}
use Rattle.ws_session.specs.Limits.{LimitsValue}
use Rattle.ws_session.specs.Messages.{open_message_of}
use Rattle.ws_session.specs.Faults.{frames_of}
use Rattle.ws_session.specs.Events.{HasEvents}
use Rattle.ws_session.specs.Replies.{has_close}

-- ---- status

abbrev pub last_event : List Event → Option Event
last_event [] = None
last_event (e ∷ []) = Some e
last_event (e ∷ f ∷ events) = last_event (f ∷ events)

abbrev pub code_if_any : Option CloseValue → Option ℕ
code_if_any None = None
code_if_any (Some close) = Some close.code

-- neither a close nor a fault has come: the stream's end decides, then whether this end's close was sent
abbrev pub status_before_close : List Frame → Bool → Status
status_before_close sent ended = if ended then Lost else (if has_close sent then Closing else Open)

abbrev pub status_after : List Frame → Bool → Option Event → Status
status_after sent ended (Some (event.Failed reason)) = Failed reason
status_after sent ended (Some (event.Close close)) = Clean (code_if_any close)
status_after sent ended _ = status_before_close sent ended

-- the status of an endpoint that sent these frames, whose stream has ended or not, and that was told these events
abbrev pub status_of : List Frame → Bool → List Event → Status
status_of sent ended events = status_after sent ended (last_event events)

-- the status lasts for good
abbrev pub is_over : Status → Bool
is_over Open = false
is_over Closing = false
is_over _ = true

-- ---- what a session shows

-- the open message that it sends: its kind, its size so far, and its last character so far where that is unfinished
pub record SendingValue : Type 0 where
  pub kind : Kind
  pub size : ℕ
  pub unfinished : List ℕ

-- a session as contracts see it: the open message that it takes and the bytes of the unfinished frame after it, how
-- many payload bytes it keeps in all, the open message that it sends, and its status
pub record SessionValue : Type 0 where
  pub role : Role
  pub limits : LimitsValue
  pub opened : Option Message
  pub partial_frame : List ℕ
  pub kept : ℕ
  pub sending : Option SendingValue
  pub status : Status

-- a text's unfinished last character; other bytes have none
abbrev pub IsUnfinishedOf : Kind → List ℕ → List ℕ → Type 0
IsUnfinishedOf Text payload unfinished = HasUnfinished payload unfinished
IsUnfinishedOf Binary payload unfinished = unfinished ≡ []

-- the open message on the sending side
abbrev pub IsSendingOf : Option Message → Option SendingValue → Type 0
IsSendingOf None None = Unit {0}
IsSendingOf None (Some _) = ⊥
IsSendingOf (Some message) None = ⊥
IsSendingOf (Some message) (Some x) = (x.kind ≡ message.kind) × (x.size ≡ length message.payload)
    × IsUnfinishedOf message.kind message.payload x.unfinished

-- what one end of a connection has exchanged: the frames that it sent, the bytes that it took, and whether the stream
-- of these has ended
pub record Exchange : Type 0 where
  pub sent : List Frame
  pub taken : List ℕ
  pub ended : Bool

-- The session agrees with having sent these frames and taken these bytes, at whose end the stream has ended or not:
-- (1) its status is that of the frames sent, of the events that the bytes have, and of whether the stream has ended;
-- (2) the open message that it shows on its sending side is the one that the frames sent leave open;
-- (3) until it is over, the message that it takes and the unfinished frame after it are those that the bytes leave.
-- It keeps none of these lists, so it may agree with several.
pub record HasExchanged (session : SessionValue) (sent : List Frame) (taken : List ℕ) (ended : Bool) : Type 0 where
  pub bytes : AreBytes taken
  pub events : List Event
  pub has_events : HasEvents session.role session.limits taken events
  pub status : session.status ≡ status_of sent ended events
  pub sending : IsSendingOf (open_message_of sent) session.sending
  pub taking : is_over session.status ≡ false → (session.opened ≡ open_message_of (frames_of has_events.frames))
      × (session.partial_frame ≡ has_events.rest)

-- there are frames sent and bytes taken with which the session agrees
abbrev pub HasSomeExchange : SessionValue → Type 0
HasSomeExchange session = (exchange : Exchange) × HasExchanged session exchange.sent exchange.taken exchange.ended

-- the bytes of some pieces, one after the other
abbrev pub joined_pieces : List (Vec ℕ Global) → List ℕ
joined_pieces pieces = flat_map (λ (piece : Vec ℕ Global). piece.items) pieces
