-- Inside the crate: a frame that lies whole at the front of a piece, for contracts of private functions. A reader may
-- skip this file.
use Rattle.std.specs.Prelude.{◌≡◌, ℕ, ◌+◌, ◌≤◌, ◌⊎◌, true, List, length, take, drop, slice_index, Option, Some}
use Rattle.ws_wire.specs.declared.role.Role.{Role}
use Rattle.ws_wire.specs.Header.{HeaderFields}
use Rattle.ws_wire.specs.Reading.{Begins}
use Rattle.ws_text.specs.Text.{IsText}
use Rattle.ws_session.specs.declared.message.Message.{Message}
use Rattle.ws_session.specs.declared.event.Event.{Event}
use Rattle.ws_session.specs.declared.event.Event.TheVariants as event
use Rattle.ws_session.specs.Limits.{LimitsValue}
use Rattle.ws_session.specs.Messages.{kind_of}
use Rattle.ws_session.specs.InnerChecking.{NoneAtHeader}
use Rattle.ws_session.specs.InnerMasked.{masked_from}

-- the first byte of a frame with FIN and without a reserved bit that is a text, a binary message, a ping or a pong
abbrev pub IsWholeFirst : ℕ → Type 0
IsWholeFirst byte = (byte ≡ 0x81) ⊎ (byte ≡ 0x82) ⊎ (byte ≡ 0x89) ⊎ (byte ≡ 0x8a)

-- such a byte stands at the front of the piece, and another one is there
abbrev pub MayStandWhole : List ℕ → Type 0
MayStandWhole piece = (2 ≤ length piece) × IsWholeFirst (slice_index piece 0)

-- the piece begins with this header, which breaks no rule, and with this payload behind it, as it came: so many bytes
-- in all
pub record StandsWhole (role : Role) (limits : LimitsValue) (opened : Option Message) (piece : List ℕ)
    (header : HeaderFields) (payload : List ℕ) (used : ℕ) : Type 0 where
  pub start : ℕ
  pub begins : Begins header start piece
  pub none : NoneAtHeader role limits opened header
  pub size : length payload ≡ header.len
  pub payload_is : payload ≡ take header.len (drop start piece)
  pub used_is : used ≡ start + header.len
  pub within : used ≤ length piece

-- the opcode of a text or of a binary message
abbrev pub IsMessage : HeaderFields → Type 0
IsMessage header = (1 ≤ header.opcode) × (header.opcode ≤ 2)

-- the frame is a message, which is told, and if it is a text it is one
pub record TellsWhole (header : HeaderFields) (payload : List ℕ) (told : Option Event) : Type 0 where
  pub opcode : IsMessage header
  pub fin : header.fin ≡ true
  pub is : told
      ≡ Some (event.Message (record { kind = kind_of header.opcode; payload = masked_from header.key 0 payload }))
  pub text : header.opcode ≡ 1 → IsText (masked_from header.key 0 payload)
