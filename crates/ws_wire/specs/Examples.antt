-- Worked examples, each a theorem: those of RFC 6455 section 5.7.
use Rattle.std.specs.Prelude.{◌≡◌, ℕ, true, false, List, [], ◌∷◌, None, Some, refl, Bool, Option, codes}
use Rattle.ws_wire.specs.declared.header.Form.TheVariants.{Short, Two, Eight}
use Rattle.ws_wire.specs.declared.opcode.Opcode.TheVariants.{Text, Ping, Pong, Reserved}
use Rattle.ws_wire.specs.Header.{header_bytes, shortest_form}
use Rattle.ws_wire.specs.Opcode.{opcode_number, opcode_from_number}
use Rattle.ws_wire.specs.Masking.{masked}
use Rattle.ws_wire.specs.Frame.{KeyedFrame, frame_bytes, stream_bytes}

abbrev standard_key : List ℕ
standard_key = 0x37 ∷ 0xfa ∷ 0x21 ∷ 0x3d ∷ []

-- 256 bytes of binary data begin with 82 7e 01 00
pub header_of_256 :
    header_bytes (record { fin = true; rsv = 0; opcode = 2; key = None; len = 256; form = shortest_form 256 })
    ≡ 0x82 ∷ 0x7e ∷ 0x01 ∷ 0x00 ∷ []
header_of_256 = refl

-- 64 KiB of binary data begin with 82 7f and the length in eight bytes
pub header_of_64k :
    header_bytes (record { fin = true; rsv = 0; opcode = 2; key = None; len = 65536; form = shortest_form 65536 })
    ≡ 0x82 ∷ 0x7f ∷ 0 ∷ 0 ∷ 0 ∷ 0 ∷ 0 ∷ 1 ∷ 0 ∷ 0 ∷ []
header_of_64k = refl

-- the shortest form changes after 125 and after 65535
pub short_to_125 : shortest_form 125 ≡ Short
short_to_125 = refl

pub two_from_126 : shortest_form 126 ≡ Two
two_from_126 = refl

pub two_to_65535 : shortest_form 65535 ≡ Two
two_to_65535 = refl

pub eight_from_65536 : shortest_form 65536 ≡ Eight
eight_from_65536 = refl

-- masking counts from the phase: five bytes 00 from phase 3
pub masked_from_3 : masked standard_key 3 (0 ∷ 0 ∷ 0 ∷ 0 ∷ 0 ∷ []) ≡ 0x3d ∷ 0x37 ∷ 0xfa ∷ 0x21 ∷ 0x3d ∷ []
masked_from_3 = refl

-- all reserved bits, a reserved opcode, and a longer form than needed
pub odd_header :
    header_bytes (record { fin = false; rsv = 7; opcode = 15; key = Some standard_key; len = 5; form = Two })
    ≡ 0x7f ∷ 0xfe ∷ 0x00 ∷ 0x05 ∷ 0x37 ∷ 0xfa ∷ 0x21 ∷ 0x3d ∷ []
odd_header = refl

-- 1 begins a text, 10 is a pong's number, and 3, 7 and 11 are reserved
pub text_from_1 : opcode_from_number 1 ≡ Text
text_from_1 = refl

pub pong_from_10 : opcode_from_number 10 ≡ Pong
pong_from_10 = refl

pub reserved_from_3 : opcode_from_number 3 ≡ Reserved 3
reserved_from_3 = refl

pub reserved_to_7 : opcode_from_number 7 ≡ Reserved 7
reserved_to_7 = refl

pub reserved_from_11 : opcode_from_number 11 ≡ Reserved 11
reserved_from_11 = refl

-- a ping's number is 9, and a reserved opcode has its own
pub number_of_ping : opcode_number Ping ≡ 9
number_of_ping = refl

pub number_of_reserved : opcode_number (Reserved 12) ≡ 12
number_of_reserved = refl

-- a frame with FIN, if so, and no reserved bit
abbrev sent : Bool → ℕ → List ℕ → Option (List ℕ) → KeyedFrame
sent fin opcode payload key =
    record { frame = record { fin = fin; rsv = 0; opcode = opcode; payload = payload }; key = key }

-- a single-frame unmasked text message: "Hello"
pub unmasked_hello : frame_bytes (sent true 1 (codes "Hello") None)
    ≡ 0x81 ∷ 0x05 ∷ 0x48 ∷ 0x65 ∷ 0x6c ∷ 0x6c ∷ 0x6f ∷ []
unmasked_hello = refl

-- a single-frame masked text message: "Hello"
pub masked_hello : frame_bytes (sent true 1 (codes "Hello") (Some standard_key))
    ≡ 0x81 ∷ 0x85 ∷ 0x37 ∷ 0xfa ∷ 0x21 ∷ 0x3d ∷ 0x7f ∷ 0x9f ∷ 0x4d ∷ 0x51 ∷ 0x58 ∷ []
masked_hello = refl

-- a fragmented unmasked text message: "Hel" and "lo"
pub fragmented_hello : stream_bytes (sent false 1 (codes "Hel") None ∷ sent true 0 (codes "lo") None ∷ [])
    ≡ 0x01 ∷ 0x03 ∷ 0x48 ∷ 0x65 ∷ 0x6c ∷ 0x80 ∷ 0x02 ∷ 0x6c ∷ 0x6f ∷ []
fragmented_hello = refl

-- an unmasked ping and its masked pong
pub ping_and_pong :
    stream_bytes (sent true 9 (codes "Hello") None ∷ sent true 10 (codes "Hello") (Some standard_key) ∷ [])
    ≡ 0x89 ∷ 0x05 ∷ 0x48 ∷ 0x65 ∷ 0x6c ∷ 0x6c ∷ 0x6f
    ∷ 0x8a ∷ 0x85 ∷ 0x37 ∷ 0xfa ∷ 0x21 ∷ 0x3d ∷ 0x7f ∷ 0x9f ∷ 0x4d ∷ 0x51 ∷ 0x58 ∷ []
ping_and_pong = refl
