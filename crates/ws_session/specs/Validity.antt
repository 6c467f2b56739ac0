-- Sequences of frames that an endpoint may send: RFC 6455 sections 5.2 to 5.6, 7.4 and 8.1.
use Rattle.std.specs.Prelude.{◌≡◌, ℕ, ◌≤◌, ◌⊎◌, true, List, [], ◌∷◌, length, Option}
use Rattle.std.specs.List.{AllByRecursion}
use Rattle.ws_wire.specs.Frame.{Frame}
use Rattle.ws_text.specs.Text.{IsText, BeginsText}
use Rattle.ws_text.specs.Close.{CloseValue, IsClosePayload}
use Rattle.ws_session.specs.declared.message.Kind.{Kind}
use Rattle.ws_session.specs.declared.message.Kind.TheVariants.{Text, Binary}
use Rattle.ws_session.specs.Limits.{LimitsValue}
use Rattle.ws_session.specs.Messages.{is_control, is_close, data_frames, groups_of, kind_of, first_opcode}
use Rattle.ws_session.specs.Messages.{joined_payload}

-- no reserved bit is set and no opcode is reserved; a control frame has FIN and at most 125 bytes (sections 5.2, 5.5)
pub record IsValidAlone (frame : Frame) : Type 0 where
  pub rsv : frame.rsv ≡ 0
  pub opcode : (frame.opcode ≤ 2) ⊎ ((8 ≤ frame.opcode) × (frame.opcode ≤ 10))
  pub control : is_control frame ≡ true → (frame.fin ≡ true) × (length frame.payload ≤ 125)

-- nothing follows a close frame, and its payload is a close payload (section 5.5.1)
-- our choice: the RFC forbids data frames after it, and we forbid every frame
abbrev pub CloseIsLast : List Frame → Type 0
CloseIsLast [] = Unit {0}
CloseIsLast (frame ∷ frames) =
    (is_close frame ≡ true → (frames ≡ []) × ((close : Option CloseValue) × IsClosePayload frame.payload close))
    × CloseIsLast frames

abbrev pub IsContinuation : Frame → Type 0
IsContinuation frame = frame.opcode ≡ 0

-- a message begins with opcode 1 or 2 and goes on with opcode 0 (section 5.4)
abbrev pub IsGroup : List Frame → Type 0
IsGroup [] = Unit {0}
IsGroup (frame ∷ frames) = ((frame.opcode ≡ 1) ⊎ (frame.opcode ≡ 2)) × AllByRecursion IsContinuation frames

-- the condition, asked of text alone
abbrev pub OfText : Kind → Type 0 → Type 0
OfText Text P = P
OfText Binary P = Unit {0}

-- a message of a size that is taken, and if it is text what is asked of its joined payload
pub record IsValidGroup (IsRight : List ℕ → Type 0) (limits : LimitsValue) (group : List Frame) : Type 0 where
  pub frames : IsGroup group
  pub size : length (joined_payload group) ≤ limits.max_message
  pub text : OfText (kind_of (first_opcode group)) (IsRight (joined_payload group))

-- a data frame is of a size that is taken (section 10.4)
abbrev pub FitsTheFrameLimit : LimitsValue → Frame → Type 0
FitsTheFrameLimit limits frame = frame.opcode ≤ 2 → length frame.payload ≤ limits.max_frame

-- each frame is valid alone and of a size that is taken, a close ends them, each finished message is whole and the
-- unfinished one goes on as one
pub record AreValidFrames (limits : LimitsValue) (frames : List Frame) : Type 0 where
  pub each : AllByRecursion IsValidAlone frames
  pub sizes : AllByRecursion (FitsTheFrameLimit limits) frames
  pub close : CloseIsLast frames
  pub finished : AllByRecursion (IsValidGroup IsText limits) (groups_of (data_frames frames)).finished
  pub unfinished : IsValidGroup BeginsText limits (groups_of (data_frames frames)).unfinished

-- nothing follows a close frame
abbrev pub NothingAfterClose : List Frame → Type 0
NothingAfterClose [] = Unit {0}
NothingAfterClose (frame ∷ frames) = (is_close frame ≡ true → frames ≡ []) × NothingAfterClose frames
