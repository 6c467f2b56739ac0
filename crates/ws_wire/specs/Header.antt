-- A frame's header on the wire, from its fields to its bytes: RFC 6455 section 5.2.
use Rattle.std.specs.Prelude.{◌≡◌, ℕ, ◌+◌, ◌*◌, ◌^◌, ◌<◌, ◌≤◌, Bool, true, false, cond, List, [], ◌∷◌, ◌++◌, length}
use Rattle.std.specs.Prelude.{nat_lt, if◌then◌else◌, Option, Some, None, codes}
use Rattle.std.specs.Int.{w16, w64, to_be_bytes}
use Rattle.ws_wire.specs.declared.header.Form.{Form}
use Rattle.ws_wire.specs.declared.header.Form.TheVariants.{Short, Two, Eight}
pub use Rattle.ws_base.specs.Bytes.{AreBytes}

-- what a header says. `rsv` is 4 * RSV1 + 2 * RSV2 + RSV3
pub record HeaderFields : Type 0 where
  pub fin : Bool
  pub rsv : ℕ
  pub opcode : ℕ
  pub key : Option (List ℕ)
  pub len : ℕ
  pub form : Form

-- the length can be written in this form: in seven bits below 126, in two bytes, or in eight
abbrev pub CanHold : Form → ℕ → Type 0
CanHold Short len = len < 126
CanHold Two len = len < 2 ^ 16
CanHold Eight len = len < 2 ^ 64

-- how many bytes a form adds after the first two
abbrev pub extra_bytes : Form → ℕ
extra_bytes Short = 0
extra_bytes Two = 2
extra_bytes Eight = 8

-- the form can hold the length, and no form that can is shorter
pub record IsShortestForm (form : Form) (len : ℕ) : Type 0 where
  pub holds : CanHold form len
  pub least : (other : Form) → CanHold other len → extra_bytes form ≤ extra_bytes other

-- no masking key, or one of four bytes
abbrev pub IsMaskingKey : Option (List ℕ) → Type 0
IsMaskingKey None = Unit {0}
IsMaskingKey (Some key) = (length key ≡ 4) × AreBytes key

-- three reserved bits, four bits of opcode, a length that the form can hold, and a key of four bytes if any
pub record IsHeader (header : HeaderFields) : Type 0 where
  pub rsv : header.rsv < 8
  pub opcode : header.opcode < 16
  pub len : CanHold header.form header.len
  pub key : IsMaskingKey header.key

-- FIN is the top bit of the first byte, MASK that of the second
abbrev pub top_bit : Bool → ℕ
top_bit bit = cond bit 128 0

abbrev pub is_masked : Option (List ℕ) → Bool
is_masked None = false
is_masked (Some _) = true

-- the seven bits beside MASK: the length itself, or which longer form follows
abbrev pub length_bits : Form → ℕ → ℕ
length_bits Short len = len
length_bits Two len = 126
length_bits Eight len = 127

-- the length bytes of the longer forms, the highest first
abbrev pub length_bytes : Form → ℕ → List ℕ
length_bytes Short len = []
length_bytes Two len = to_be_bytes w16 len
length_bytes Eight len = to_be_bytes w64 len

abbrev pub key_bytes : Option (List ℕ) → List ℕ
key_bytes None = []
key_bytes (Some key) = key

-- FIN, the reserved bits and the opcode
abbrev pub first_byte : HeaderFields → ℕ
first_byte header = top_bit header.fin + (16 * header.rsv + header.opcode)

-- MASK, and the length or its form
abbrev pub second_byte : HeaderFields → ℕ
second_byte header = top_bit (is_masked header.key) + length_bits header.form header.len

-- the bytes of a header: two, then the length bytes, then the masking key
abbrev pub header_bytes : HeaderFields → List ℕ
header_bytes header =
    first_byte header ∷ second_byte header ∷ (length_bytes header.form header.len ++ key_bytes header.key)

-- the bytes are this header's
pub record IsHeaderOf (header : HeaderFields) (bytes : List ℕ) : Type 0 where
  pub fields : IsHeader header
  pub layout : bytes ≡ header_bytes header

-- the form of the least number of bytes (`Header::shortest` says so of it)
abbrev pub shortest_form : ℕ → Form
shortest_form len = if nat_lt len 126 then Short else (if nat_lt len 65536 then Two else Eight)

-- a shorter form holds the length too
abbrev pub is_longer_than_needed : Form → ℕ → Bool
is_longer_than_needed form len = nat_lt (extra_bytes (shortest_form len)) (extra_bytes form)

-- ---- the word for a form

abbrev pub form_word : Form → List ℕ
form_word Short = codes "short"
form_word Two = codes "two"
form_word Eight = codes "eight"
