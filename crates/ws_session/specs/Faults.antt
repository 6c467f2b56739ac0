-- Where a stream breaks the rules, and which rule it breaks there: RFC 6455 sections 5.1 to 5.5, 7.4 and 8.1.
use Rattle.std.specs.Prelude.{◌≡◌, ◌≢◌, ℕ, ◌+◌, ◌^◌, ◌≤◌, ◌<◌, ◌⊎◌, Bool, true, false, List, [], ◌++◌, length, take}
use Rattle.std.specs.Prelude.{map, Option, Some, None}
use Rattle.std.specs.List.{AllByRecursion}
use Rattle.ws_wire.specs.declared.role.Role.{Role}
use Rattle.ws_wire.specs.declared.role.Role.TheVariants.{Client, Server}
use Rattle.ws_wire.specs.declared.header.Form.TheVariants.{Two, Eight}
use Rattle.ws_wire.specs.Header.{HeaderFields, IsHeader, AreBytes, header_bytes, is_masked}
use Rattle.ws_wire.specs.Masking.{masked_payload}
use Rattle.ws_wire.specs.Frame.{Frame, KeyedFrame, FitsTheLayout, stream_bytes}
use Rattle.ws_text.specs.Text.{IsText, BeginsText}
use Rattle.ws_text.specs.Close.{CloseValue, HoldsCode, HasBadCode}
use Rattle.ws_session.specs.declared.message.Kind.TheVariants.{Text}
use Rattle.ws_session.specs.declared.message.Message.{Message}
use Rattle.ws_session.specs.declared.reason.Reason.{Reason}
use Rattle.ws_session.specs.declared.reason.Reason.TheVariants.{ReservedBits, Opcode, MaskWrong, NotShortest, BadLength}
use Rattle.ws_session.specs.declared.reason.Reason.TheVariants.{ControlCut, ControlLong, NothingToContinue, MessageOpen}
use Rattle.ws_session.specs.declared.reason.Reason.TheVariants.{TooBig, NotText, TextCut, CloseOneByte, CloseCode}
use Rattle.ws_session.specs.declared.reason.Reason.TheVariants.{CloseReason, FrameBig}
use Rattle.ws_session.specs.Limits.{LimitsValue}
use Rattle.ws_session.specs.Messages.{open_message_of, is_close}

-- the frames without their keys
abbrev pub frames_of : List KeyedFrame → List Frame
frames_of xs = map (λ (x : KeyedFrame). x.frame) xs

-- of several reasons at one place the one with the lowest number is told
abbrev pub number_of : Reason → ℕ
number_of ReservedBits = 1
number_of Opcode = 2
number_of MaskWrong = 3
number_of NotShortest = 4
number_of BadLength = 5
number_of ControlCut = 6
number_of ControlLong = 7
number_of NothingToContinue = 8
number_of MessageOpen = 9
number_of TooBig = 10
number_of NotText = 11
number_of TextCut = 12
number_of CloseOneByte = 13
number_of CloseCode = 14
number_of CloseReason = 15
number_of FrameBig = 16

-- it applies, and of all that apply its number is the lowest
pub record IsLowest (F : Type 0) (number : F → ℕ) (Applies : F → Type 0) (fault : F) : Type 0 where
  pub wrong : Applies fault
  pub first : (other : F) → Applies other → number fault ≤ number other

-- ---- one frame after an open message

-- a server's peer masks each frame and a client's none (section 5.1)
abbrev pub expects_key : Role → Bool
expects_key Server = true
expects_key Client = false

-- the keys of frames that a peer of this role's endpoint sent are as they must be
abbrev pub KeysFit : Role → List KeyedFrame → Type 0
KeysFit role xs = AllByRecursion (λ (x : KeyedFrame). is_masked x.key ≡ expects_key role) xs

-- the payload of the open message so far
abbrev pub open_payload : Option Message → List ℕ
open_payload None = []
open_payload (Some message) = message.payload

abbrev pub IsOpenText : Option Message → Type 0
IsOpenText None = ⊥
IsOpenText (Some message) = message.kind ≡ Text

-- the frame belongs to a text message: it begins one, or goes on with the open one
abbrev pub IsOfText : Option Message → HeaderFields → Type 0
IsOfText opened header = (header.opcode ≡ 1) ⊎ ((header.opcode ≡ 0) × IsOpenText opened)

abbrev pub IsControl : HeaderFields → Type 0
IsControl header = (8 ≤ header.opcode) × (header.opcode ≤ 10)

-- the reason is one of the header, told at its last byte
abbrev pub AppliesAtHeader : Role → LimitsValue → Option Message → HeaderFields → Reason → Type 0
AppliesAtHeader role limits opened header ReservedBits = header.rsv ≢ 0
AppliesAtHeader role limits opened header Opcode = ((3 ≤ header.opcode) × (header.opcode ≤ 7)) ⊎ (11 ≤ header.opcode)
AppliesAtHeader role limits opened header MaskWrong = is_masked header.key ≢ expects_key role
AppliesAtHeader role limits opened header NotShortest = ((header.form ≡ Two) × (header.len < 126))
    ⊎ ((header.form ≡ Eight) × (header.len < 65536))
AppliesAtHeader role limits opened header BadLength = 2 ^ 63 ≤ header.len
AppliesAtHeader role limits opened header ControlCut = IsControl header × (header.fin ≡ false)
AppliesAtHeader role limits opened header ControlLong = IsControl header × (125 < header.len)
AppliesAtHeader role limits opened header NothingToContinue = (header.opcode ≡ 0) × (opened ≡ None)
AppliesAtHeader role limits opened header MessageOpen = ((header.opcode ≡ 1) ⊎ (header.opcode ≡ 2)) × (opened ≢ None)
AppliesAtHeader role limits opened header TooBig = (header.opcode ≤ 2)
    × (limits.max_message < length (open_payload opened) + header.len)
AppliesAtHeader role limits opened header FrameBig = (header.opcode ≤ 2) × (limits.max_frame < header.len)
AppliesAtHeader role limits opened header _ = ⊥

-- the reason is one of the payload, told where these bytes of it have come: with a text the first byte after which
-- nothing completes it, else the last
abbrev pub AppliesInPayload : Option Message → HeaderFields → List ℕ → Reason → Type 0
AppliesInPayload opened header payload NotText = IsOfText opened header × (0 < length payload)
    × (BeginsText (open_payload opened ++ payload) → ⊥)
AppliesInPayload opened header payload TextCut = IsOfText opened header × (header.fin ≡ true)
    × (length payload ≡ header.len)
    × BeginsText (open_payload opened ++ payload) × (IsText (open_payload opened ++ payload) → ⊥)
AppliesInPayload opened header payload CloseOneByte = (header.opcode ≡ 8) × (length payload ≡ header.len)
    × (length payload ≡ 1)
AppliesInPayload opened header payload CloseCode = (header.opcode ≡ 8) × (length payload ≡ header.len)
    × HasBadCode payload
AppliesInPayload opened header payload CloseReason = (header.opcode ≡ 8) × (length payload ≡ header.len)
    × ((close : CloseValue) × HoldsCode payload close × (IsText close.reason → ⊥))
AppliesInPayload opened header payload _ = ⊥

-- the reason is told at the last of these bytes of the payload, or where there are none at the header's last byte
abbrev pub Applies : Role → LimitsValue → Option Message → HeaderFields → List ℕ → Reason → Type 0
Applies role limits opened header payload reason =
    ((payload ≡ []) × AppliesAtHeader role limits opened header reason) ⊎ AppliesInPayload opened header payload reason

-- ---- a fault of a stream

abbrev pub IsNoClose : KeyedFrame → Type 0
IsNoClose x = is_close x.frame ≡ false

-- `bytes[..place]` is whole frames, none a close, then the complete header of one more frame, in any form, and some of
-- its payload; the reason applies to that frame, given the message that the frames leave open. Of the frames before
-- nothing more is asked than that they are whole, in the shortest form and no close: a rule broken there is a fault at
-- a smaller place
pub record IsFaultAt (role : Role) (limits : LimitsValue) (bytes : List ℕ) (place : ℕ) (reason : Reason) : Type 0 where
  pub before : List KeyedFrame
  pub sent : AllByRecursion FitsTheLayout before
  pub no_close : AllByRecursion IsNoClose before
  pub header : HeaderFields
  pub is_header : IsHeader header
  pub payload : List ℕ
  pub are_bytes : AreBytes payload
  pub within : length payload ≤ header.len
  pub long : place ≤ length bytes
  pub parts : take place bytes ≡ stream_bytes before ++ (header_bytes header ++ masked_payload header.key payload)
  pub applies : Applies role limits (open_message_of (frames_of before)) header payload reason

-- a place and a reason come before others, or are those
abbrev pub IsNoLater : ℕ → Reason → ℕ → Reason → Type 0
IsNoLater place reason other_place other = (place < other_place)
    ⊎ ((place ≡ other_place) × (number_of reason ≤ number_of other))

-- the fault at the least place, and there the one with the lowest number
pub record IsFirstPlaced (IsFault : ℕ → Reason → Type 0) (place : ℕ) (reason : Reason) : Type 0 where
  pub fault : IsFault place reason
  pub first : (other_place : ℕ) (other : Reason) → IsFault other_place other → IsNoLater place reason other_place other

abbrev pub IsFirstFault : Role → LimitsValue → List ℕ → ℕ → Reason → Type 0
IsFirstFault role limits bytes place reason = IsFirstPlaced (IsFaultAt role limits bytes) place reason

abbrev pub HasNoFault : Role → LimitsValue → List ℕ → Type 0
HasNoFault role limits bytes = (place : ℕ) (reason : Reason) → IsFaultAt role limits bytes place reason → ⊥
