-- Inside the crate: the frame under way as it is kept, and what the check of more bytes of it answers, for contracts of
-- private functions. A reader may skip this file.
use Rattle.std.specs.Prelude.{◌≡◌, ℕ, ◌+◌, ◌-◌, ◌≤◌, ◌<◌, true, false, List, [], ◌++◌, length, take, drop, Option}
use Rattle.std.specs.Prelude.{Some, None}
use Rattle.ws_wire.specs.declared.role.Role.{Role}
use Rattle.ws_wire.specs.Header.{HeaderFields, IsHeader, AreBytes, header_bytes}
use Rattle.ws_wire.specs.Masking.{masked_payload}
use Rattle.ws_wire.specs.Frame.{Frame, KeyedFrame, FitsTheLayout, frame_bytes}
use Rattle.ws_wire.specs.Reading.{Begins, BeginsNoHeader}
use Rattle.ws_wire.specs.declared.reading.HeaderRead.{HeaderRead}
use Rattle.ws_wire.specs.declared.reading.HeaderRead.TheVariants.{Need, Got, BadLength}
use Rattle.ws_text.specs.Stream.{HasReadText}
use Rattle.ws_session.specs.declared.message.Kind.{Kind}
use Rattle.ws_session.specs.declared.message.Message.{Message}
use Rattle.ws_session.specs.declared.reason.Reason.{Reason}
use Rattle.ws_session.specs.declared.receiver.under_way.UnderWay.{UnderWay}
use Rattle.ws_session.specs.declared.receiver.under_way.UnderWay.TheVariants as under_way
use Rattle.ws_session.specs.InnerContent.{Content}
use Rattle.ws_session.specs.InnerContent as content
use Rattle.ws_session.specs.InnerFrameCheck.{FrameCheck}
use Rattle.ws_session.specs.InnerFrameCheck as check
use Rattle.ws_session.specs.declared.receiver.piece_check.PieceCheck.{PieceCheck}
use Rattle.ws_session.specs.declared.receiver.piece_check.PieceCheck.TheVariants as piece_check
use Rattle.ws_session.specs.Limits.{LimitsValue}
use Rattle.ws_session.specs.Messages.{is_control}
use Rattle.ws_session.specs.Faults.{IsControl, IsOfText, open_payload}
use Rattle.ws_session.specs.Events.{close_in}
use Rattle.ws_session.specs.InnerMasked.{masked_from}
use Rattle.ws_session.specs.InnerAssembly.{IsTextOf, HasReadOpen}
use Rattle.ws_session.specs.InnerChecking.{NoneAtHeader, NoneInPayload, IsFirstInPayload, frame_with, IsRoomFor}
use Rattle.ws_session.specs.InnerNextFrame.{IsPartOfFrame, HasNoFaultOfNext, IsFirstFaultOfNext, message_with}

-- ---- the open message, and the payload of the frame under way after it

-- the open message; its payload, and after it the payload bytes that are kept of the frame under way; and the stream
-- that has read them as far as they are text and were taken
pub record AssemblyValue : Type 0 where
  pub opened : Option Message
  pub payload : List ℕ
  pub text : Option (List ℕ)

-- the message of so many of the bytes, if one is open
abbrev pub message_of_first : Option Kind → ℕ → List ℕ → Option Message
message_of_first None before payload = None
message_of_first (Some kind) before payload = Some (record { kind = kind; payload = take before payload })

-- so many bytes are there, and none where no message is open
pub record HasFirst (kind : Option Kind) (before : ℕ) (payload : List ℕ) : Type 0 where
  pub within : before ≤ length payload
  pub none : kind ≡ None → before ≡ 0

-- the kind of the open message, or this one where none is open
abbrev pub kind_with : Option Message → Kind → Kind
kind_with None kind = kind
kind_with (Some message) kind = message.kind

-- the payload bytes that are kept of the frame under way
abbrev pub frame_payload : AssemblyValue → List ℕ
frame_payload a = drop (length (open_payload a.opened)) a.payload

-- they are all that is kept after the open message
abbrev pub IsJoined : AssemblyValue → Type 0
IsJoined a = open_payload a.opened ++ frame_payload a ≡ a.payload

-- the open message's bytes, and so many of the frame's
abbrev pub first_bytes : AssemblyValue → ℕ → List ℕ
first_bytes a came = take (length (open_payload a.opened) + came) a.payload

-- ---- the frame under way

-- so many bytes of the frame under way are kept
abbrev pub HasKept : AssemblyValue → ℕ → Type 0
HasKept a came = length (open_payload a.opened) + came ≤ length a.payload

-- a payload of which this much came before, with what is there of it now
abbrev pub arrived_payload : HeaderFields → List ℕ → List ℕ → List ℕ
arrived_payload header came rest = came ++ masked_from header.key (length came) (take (header.len - length came) rest)

-- so many bytes of its payload are kept
abbrev pub came_of : UnderWay → ℕ
came_of (under_way.Header bytes) = 0
came_of (under_way.Data header came) = came
came_of (under_way.Control header payload) = 0

-- its payload so far, where it is a control frame
abbrev pub control_payload_of : UnderWay → List ℕ
control_payload_of (under_way.Header bytes) = []
control_payload_of (under_way.Data header came) = []
control_payload_of (under_way.Control header payload) = payload

-- nothing is kept but the open message and these
abbrev pub IsExactly : AssemblyValue → UnderWay → Type 0
IsExactly a frame = length a.payload ≡ length (open_payload a.opened) + came_of frame

-- its bytes so far, as they came
abbrev pub partial_of : AssemblyValue → UnderWay → List ℕ
partial_of a (under_way.Header bytes) = bytes
partial_of a (under_way.Data header came) =
    header_bytes header ++ masked_payload header.key (take came (frame_payload a))
partial_of a (under_way.Control header payload) = header_bytes header ++ masked_payload header.key payload

-- what is kept of it: no header is whole yet; or the header breaks no rule and its payload isn't whole, which of a data
-- frame stands in the assembly. The stream has read what came of the message
abbrev pub IsKept : Role → LimitsValue → AssemblyValue → UnderWay → Type 0
IsKept role limits a (under_way.Header bytes) = BeginsNoHeader bytes × HasReadOpen a.opened a.text
IsKept role limits a (under_way.Data header came) = IsHeader header × NoneAtHeader role limits a.opened header
    × (header.opcode ≤ 2) × (came < header.len) × HasKept a came
    × (IsOfText a.opened header → HasReadText a.text (first_bytes a came))
IsKept role limits a (under_way.Control header payload) = IsHeader header × NoneAtHeader role limits a.opened header
    × IsControl header × (length payload < header.len) × HasReadOpen a.opened a.text

-- it is so kept, and what shows of it are bytes
pub record IsUnderWay (role : Role) (limits : LimitsValue) (a : AssemblyValue) (frame : UnderWay) : Type 0 where
  pub bytes : AreBytes (partial_of a frame)
  pub joined : IsJoined a
  pub kept : IsKept role limits a frame

-- ---- the end of a header

-- the piece completes this header by its first bytes
pub record CompletesHeader (kept piece : List ℕ) (header : HeaderFields) (used : ℕ) : Type 0 where
  pub begins : Begins header (length kept + used) (kept ++ piece)
  pub within : used ≤ length piece

-- the piece completes a header, as it was read, or none
abbrev pub IsHeaderEnd : List ℕ → List ℕ → HeaderRead → Type 0
IsHeaderEnd kept piece Need = BeginsNoHeader (kept ++ piece)
IsHeaderEnd kept piece (Got header used) = CompletesHeader kept piece header used
IsHeaderEnd kept piece (BadLength header used) = CompletesHeader kept piece header used

-- ---- payload of a data frame

-- of these bytes, so many of which were kept, one that is new is of the payload of a data frame, whose header breaks no
-- rule
pub record HasNewData (role : Role) (limits : LimitsValue) (opened : Option Message) (kept : ℕ) (bytes : List ℕ)
    : Type 0 where
  pub header : HeaderFields
  pub used : ℕ
  pub begins : Begins header used bytes
  pub none : NoneAtHeader role limits opened header
  pub is_data : header.opcode ≤ 2
  pub some : 0 < header.len
  pub past : used < length bytes
  pub new : kept < length bytes
  pub left : kept < used + header.len

-- ---- the payload, as far as it has come

abbrev pub with_text : AssemblyValue → Option (List ℕ) → AssemblyValue
with_text a text = record { opened = a.opened; payload = a.payload; text = text }

-- the message whose payload is all that is kept
abbrev pub message_kept : AssemblyValue → Kind → Message
message_kept a kind = record { kind = kind; payload = a.payload }

-- the content is this frame's
abbrev pub IsContentOf : AssemblyValue → Frame → Content → Type 0
IsContentOf a frame (content.Data fin kind text) = (is_control frame ≡ false) × (fin ≡ frame.fin)
    × (message_kept a kind ≡ message_with a.opened frame) × IsTextOf (message_kept a kind) text
IsContentOf a frame (content.Ping payload) = (frame.opcode ≡ 9) × (payload ≡ frame.payload)
IsContentOf a frame (content.Pong payload) = (frame.opcode ≡ 10) × (payload ≡ frame.payload)
IsContentOf a frame (content.Close close) = (frame.opcode ≡ 8) × (close ≡ close_in frame.payload)

-- so much of the payload has come of the frame that is under way next
abbrev pub IsNextOf : AssemblyValue → HeaderFields → List ℕ → UnderWay → Option (List ℕ) → Type 0
IsNextOf a header payload (under_way.Header bytes) text = ⊥
IsNextOf a header payload (under_way.Data same came) text = (same ≡ header) × (came ≡ length payload)
    × (payload ≡ frame_payload a) × (header.opcode ≤ 2) × HasKept a came
    × (IsOfText a.opened header → HasReadText text a.payload)
IsNextOf a header payload (under_way.Control same bytes) text = (same ≡ header) × (bytes ≡ payload)
    × IsControl header × (text ≡ a.text)

-- The check of a payload that has come so far, of which `came` bytes were kept before and the others follow the first
-- `start` bytes of the piece, after a header in which nothing is wrong
abbrev pub IsPayloadCheck : HeaderFields → ℕ → ℕ → AssemblyValue → List ℕ → FrameCheck → Type 0
IsPayloadCheck header came start a payload (check.Need next text) = (length payload < header.len)
    × NoneInPayload a.opened header payload × IsNextOf a header payload next text
IsPayloadCheck header came start a payload (check.Whole used content) = (length payload ≡ header.len)
    × (used + came ≡ start + length payload) × NoneInPayload a.opened header payload
    × IsContentOf a (frame_with header payload) content
IsPayloadCheck header came start a payload (check.Fault reason used) = (count : ℕ) × (used + came ≡ start + count)
    × IsFirstInPayload a.opened header payload count reason

-- nothing is wrong with the text, if it is one, and the stream has read it
abbrev pub IsTextRead : HeaderFields → AssemblyValue → Option (List ℕ) → Type 0
IsTextRead header a text = (IsOfText a.opened header → HasReadText text a.payload)
    × NoneInPayload a.opened header (frame_payload a)

-- this is wrong first, after so many of the bytes that are new
abbrev pub IsTextFault : HeaderFields → ℕ → AssemblyValue → Reason → ℕ → Type 0
IsTextFault header came a reason count = IsFirstInPayload a.opened header (frame_payload a) (came + count) reason

-- The same of a data frame, of which `came` bytes were kept before and the payload that is there ends with the `more`
-- bytes after the first `start` of the piece: where it isn't whole the stream goes on with it, else it stays
abbrev pub IsDataCheck : HeaderFields → ℕ → ℕ → ℕ → AssemblyValue → AssemblyValue → Option PieceCheck → Type 0
IsDataCheck header came start more a b None =
    IsPayloadCheck header came start b (frame_payload b) (check.Need (under_way.Data header (came + more)) b.text)
IsDataCheck header came start more a b (Some (piece_check.Whole used fin kind text)) = (b.text ≡ a.text)
    × IsPayloadCheck header came start b (frame_payload b) (check.Whole used (content.Data fin kind text))
IsDataCheck header came start more a b (Some (piece_check.Control place)) = ⊥
IsDataCheck header came start more a b (Some (piece_check.Fault reason used)) = (b.text ≡ a.text)
    × IsPayloadCheck header came start b (frame_payload b) (check.Fault reason used)

-- what a whole payload makes of a control frame
abbrev pub IsWholeControl : HeaderFields → ℕ → List ℕ → AssemblyValue → FrameCheck → Type 0
IsWholeControl header used payload a (check.Need next text) = ⊥
IsWholeControl header used payload a (check.Whole end content) = (end ≡ used)
    × NoneInPayload a.opened header payload × IsContentOf a (frame_with header payload) content
IsWholeControl header used payload a (check.Fault reason place) = (place ≡ used)
    × IsFirstInPayload a.opened header payload (length payload) reason

-- ---- the frame

-- its bytes take the message no further than the limit allows
abbrev pub FitsIn : LimitsValue → AssemblyValue → Content → Type 0
FitsIn limits a (content.Data fin kind text) = length a.payload ≤ limits.max_message
FitsIn limits a _ = Unit {0}

-- a whole frame of this content stands at the front, and nothing is wrong with it
pub record IsWholeFrame (role : Role) (limits : LimitsValue) (a : AssemblyValue) (bytes : List ℕ) (used : ℕ)
    (content : Content) : Type 0 where
  pub frame : KeyedFrame
  pub can : FitsTheLayout frame
  pub more : List ℕ
  pub front : bytes ≡ frame_bytes frame ++ more
  pub size : used ≡ length (frame_bytes frame)
  pub clean : HasNoFaultOfNext role limits a.opened bytes
  pub is_content : IsContentOf a frame.frame content
  pub reads : is_control frame.frame ≡ true → HasReadOpen a.opened a.text
  pub fits : FitsIn limits a content

-- The check of bytes of which so many were kept before. What isn't whole is under way next
abbrev pub IsFrameCheck : Role → LimitsValue → AssemblyValue → ℕ → List ℕ → FrameCheck → Type 0
IsFrameCheck role limits a kept bytes (check.Need next text) = IsPartOfFrame role limits a.opened bytes
    × IsRoomFor limits a.opened bytes × (partial_of a next ≡ bytes) × IsUnderWay role limits (with_text a text) next
IsFrameCheck role limits a kept bytes (check.Whole used content) =
    IsWholeFrame role limits a bytes (kept + used) content
IsFrameCheck role limits a kept bytes (check.Fault reason used) =
    IsFirstFaultOfNext role limits a.opened bytes (kept + used) reason

-- ---- the piece

-- after so many bytes of the piece its payload begins or goes on
abbrev pub IsBehindHeader : UnderWay → List ℕ → HeaderFields → ℕ → Type 0
IsBehindHeader (under_way.Header kept) piece header start = Begins header (length kept + start) (kept ++ piece)
IsBehindHeader (under_way.Data same came) piece header start = ⊥
IsBehindHeader (under_way.Control same payload) piece header start = (same ≡ header) × (start ≡ 0)

-- what the piece has after its first bytes is for the payload of a control frame whose header breaks no rule
pub record IsControlAt (role : Role) (limits : LimitsValue) (a : AssemblyValue) (frame : UnderWay) (piece : List ℕ)
    (header : HeaderFields) (start : ℕ) : Type 0 where
  pub within : start ≤ length piece
  pub behind : IsBehindHeader frame piece header start
  pub none : NoneAtHeader role limits a.opened header
  pub control : IsControl header
  pub came : length (control_payload_of frame) ≤ header.len

-- the header of that control frame was read
abbrev pub IsControlRead : Role → LimitsValue → AssemblyValue → UnderWay → List ℕ → ℕ → Option HeaderFields → Type 0
IsControlRead role limits a frame piece start None = ⊥
IsControlRead role limits a frame piece start (Some header) = IsControlAt role limits a frame piece header start

-- what shows of the frame under way is as it was
abbrev pub ShowsTheSame : AssemblyValue → UnderWay → AssemblyValue → UnderWay → Type 0
ShowsTheSame a frame b next = (next ≡ frame) × (partial_of b next ≡ partial_of a frame)

-- What a piece makes of the frame under way: it goes on with the whole piece and is under way next; or it is whole, or
-- its first fault is told, or the rest of the piece is for the payload of a control frame, and then nothing that shows
-- has changed
abbrev pub IsPieceCheck : Role → LimitsValue → AssemblyValue → UnderWay → AssemblyValue → UnderWay → List ℕ
    → Option HeaderFields → Option PieceCheck → Type 0
IsPieceCheck role limits a frame b next piece control None =
    IsFrameCheck role limits b (length (partial_of a frame)) (partial_of a frame ++ piece) (check.Need next b.text)
IsPieceCheck role limits a frame b next piece control (Some (piece_check.Whole used fin kind text)) =
    ShowsTheSame a frame b next × IsFrameCheck role limits b (length (partial_of a frame)) (partial_of a frame ++ piece)
    (check.Whole used (content.Data fin kind text))
IsPieceCheck role limits a frame b next piece control (Some (piece_check.Control start)) =
    (b ≡ a) × (next ≡ frame) × IsControlRead role limits a frame piece start control
IsPieceCheck role limits a frame b next piece control (Some (piece_check.Fault reason used)) =
    ShowsTheSame a frame b next × IsFrameCheck role limits b (length (partial_of a frame)) (partial_of a frame ++ piece)
    (check.Fault reason used)

-- where the frame isn't whole and nothing is wrong no more is kept than the open message and what is under way next
abbrev pub IsExactPiece : AssemblyValue → UnderWay → Option PieceCheck → Type 0
IsExactPiece b next None = IsExactly b next
IsExactPiece b next (Some (piece_check.Whole used fin kind text)) = Unit {0}
IsExactPiece b next (Some (piece_check.Control start)) = IsExactly b next
IsExactPiece b next (Some (piece_check.Fault reason used)) = Unit {0}
