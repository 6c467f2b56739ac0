-- Worked examples, each a theorem.
use Rattle.std.specs.Prelude.{◌≡◌, ⊤, true, false, [], ◌∷◌, ◌++◌, None, codes, refl}
use Rattle.std.specs.Char.{encode_utf8}
use Rattle.std.specs.Fmt.{digits}
use Rattle.std.specs.Str.{chars, is_utf8}
use Rattle.ws_wire.specs.declared.role.Role.TheVariants.{Client, Server}
use Rattle.ws_wire.specs.declared.header.Form.TheVariants.{Short, Two}
use Rattle.ws_frame.specs.declared.showing.StreamEnd.TheVariants.{CutAt, BadLengthAt}
use Rattle.ws_frame.specs.declared.source.Mark.TheVariants.{Sent}
use Rattle.ws_frame.specs.declared.source.DataStyle.TheVariants.{Hex, Text, All}
use Rattle.ws_formats.specs.QuotedText.{quoted_word}
use Rattle.ws_frame.specs.Lines.{alone, marked_at, plain, line_of, last_line, payload_word}

-- the line of "Hello", sent by a server
pub line_of_hello : line_of (plain Server) 0 (record {
  header = record { fin = true; rsv = 0; opcode = 1; key = None; len = 5; form = Short };
  payload = codes "Hello";
})
    ≡ codes "0 text fin=1 rsv=0 key=- len=5 short 48656c6c6f\n"
unfolding digits
line_of_hello = refl

-- a frame without a key that a client should have masked, with RSV1, a reserved opcode and a longer form than needed
pub line_of_odd_frame : line_of (plain Client) 11 (record {
  header = record { fin = false; rsv = 4; opcode = 3; key = None; len = 0; form = Two };
  payload = [];
})
    ≡ codes "11 op3 fin=0 rsv=4 key=- len=0 two - !mask !form\n"
unfolding digits
line_of_odd_frame = refl

-- a text that is no UTF-8, and a close of half a code, each at the place of the fault; one byte on there is no mark
pub line_of_a_bad_text : line_of (marked_at (plain Server) 4) 4 (record {
  header = record { fin = true; rsv = 0; opcode = 1; key = None; len = 1; form = Two };
  payload = 255 ∷ [];
})
    ≡ codes "4 text fin=1 rsv=0 key=- len=1 two ff !form !text\n"
unfolding digits
line_of_a_bad_text = refl

pub line_of_a_bad_close : line_of (marked_at (plain Server) 0) 0 (record {
  header = record { fin = true; rsv = 0; opcode = 8; key = None; len = 1; form = Short };
  payload = 3 ∷ [];
})
    ≡ codes "0 close fin=1 rsv=0 key=- len=1 short 03 !close\n"
unfolding digits
line_of_a_bad_close = refl

pub line_beside_the_fault : line_of (marked_at (plain Server) 4) 5 (record {
  header = record { fin = true; rsv = 0; opcode = 0; key = None; len = 1; form = Short };
  payload = 255 ∷ [];
})
    ≡ codes "5 cont fin=1 rsv=0 key=- len=1 short ff\n"
unfolding digits
line_beside_the_fault = refl

-- what is computed at bytes that are written out
unfoldable on_bytes : ⊤
unfolding digits chars is_utf8 encode_utf8 quoted_word
on_bytes = tt

-- a payload as text, in quotation marks: `grüße` and a line end; a fragment that ends inside its ü is digits
pub text_of_hello : line_of (alone Server Text) 0 (record {
  header = record { fin = true; rsv = 0; opcode = 1; key = None; len = 5; form = Short };
  payload = codes "Hello";
})
    ≡ codes "0 text fin=1 rsv=0 key=- len=5 short \"Hello\"\n"
unfolding on_bytes
text_of_hello = refl

pub text_of_a_greeting : payload_word Text 1 (103 ∷ 114 ∷ 195 ∷ 188 ∷ 195 ∷ 159 ∷ 101 ∷ 10 ∷ [])
    ≡ codes "\"gr" ++ (195 ∷ 188 ∷ 195 ∷ 159 ∷ codes "e\\n\"")
unfolding on_bytes
text_of_a_greeting = refl

pub digits_of_a_cut_character : payload_word Text 1 (103 ∷ 114 ∷ 195 ∷ []) ≡ codes "6772c3"
unfolding on_bytes
digits_of_a_cut_character = refl

-- a close of code 1000 with a reason, one without, and one of a single byte, which has no code and is a control
-- character
pub close_with_a_reason : payload_word Text 8 (3 ∷ 232 ∷ codes "bye") ≡ codes "1000:\"bye\""
unfolding on_bytes
close_with_a_reason = refl

pub close_without_a_reason : payload_word Text 8 (3 ∷ 232 ∷ []) ≡ codes "1000:\"\""
unfolding on_bytes
close_without_a_reason = refl

pub close_of_one_byte : payload_word Text 8 (3 ∷ []) ≡ codes "\"\\u0003\""
unfolding on_bytes
close_of_one_byte = refl

-- all of a payload, where the first sixteen bytes aren't all
pub all_of_seventeen : payload_word All 2
    (0 ∷ 1 ∷ 2 ∷ 3 ∷ 4 ∷ 5 ∷ 6 ∷ 7 ∷ 8 ∷ 9 ∷ 10 ∷ 11 ∷ 12 ∷ 13 ∷ 14 ∷ 15 ∷ 16 ∷ [])
    ≡ codes "000102030405060708090a0b0c0d0e0f10"
unfolding digits
all_of_seventeen = refl

-- the last line of a stream that is cut inside the frame at 7, and of one, shown beside another, that begins with a bad
-- length
pub last_line_of_cut : last_line (plain Server) (CutAt 7) ≡ codes "cut at 7\n"
unfolding digits
last_line_of_cut = refl

pub last_line_of_bad_length :
    last_line (record { from = Client; mark = Sent; style = Hex; fault = None }) (BadLengthAt 0)
    ≡ codes "> bad length at 0\n"
unfolding digits
last_line_of_bad_length = refl
