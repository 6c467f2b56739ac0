-- Texts of the input, as they are written in JSON and to a terminal.
use Rattle.std.specs.Prelude.{ℕ, ◌==◌, Bool, ◌||◌, nat_lt, List, [], ◌∷◌, ◌++◌, codes, if◌then◌else◌}
use Rattle.std.specs.Char.{encode_utf8, is_control}
use Rattle.std.specs.Int.{is_in_range}
use Rattle.std.specs.List.{flat_map}
use Rattle.std.specs.Str.{chars}
use Rattle.ws_formats.specs.QuotedText.{is_invisible}
use Rattle.ws_formats.specs.Words.{hex}

-- a printable ASCII character: from the space to the tilde
abbrev pub is_printed : ℕ → Bool
is_printed byte = is_in_range 32 126 byte

-- ---- JSON (RFC 8259 section 7)

-- a character of a string: as it is, but for those that can't stand there and the other control characters
abbrev pub character_in_string : ℕ → List ℕ
character_in_string c =
    if c == 34 then codes "\\\""
    else (if c == 92 then codes "\\\\"
    else (if nat_lt c 32 || is_in_range 127 159 c then codes "\\u00" ++ hex (c ∷ [])
    else encode_utf8 c))

-- a text as a string, without the quotation marks around it
abbrev pub text_in_string : List ℕ → List ℕ
text_in_string text = flat_map character_in_string (chars text)

-- a byte of a string; what isn't printable is written by its number, so that no two are written alike
abbrev pub byte_in_string : ℕ → List ℕ
byte_in_string byte =
    if byte == 34 then codes "\\\""
    else (if byte == 92 then codes "\\\\"
    else (if is_printed byte then byte ∷ []
    else codes "\\u00" ++ hex (byte ∷ [])))

-- bytes as a string
abbrev pub in_string : List ℕ → List ℕ
in_string bytes = flat_map byte_in_string bytes

-- ---- a terminal

-- a control character, or one that has no shape of its own: it could change what others are seen as
abbrev pub is_hidden : ℕ → Bool
is_hidden c = is_control c || is_invisible c

abbrev pub character_on_terminal : ℕ → List ℕ
character_on_terminal c = if is_hidden c then codes "?" else encode_utf8 c

abbrev pub text_on_terminal : List ℕ → List ℕ
text_on_terminal text = flat_map character_on_terminal (chars text)

-- a byte that isn't printable could control it
abbrev pub byte_on_terminal : ℕ → List ℕ
byte_on_terminal byte = if is_printed byte then byte ∷ [] else codes "?"

abbrev pub on_terminal : List ℕ → List ℕ
on_terminal bytes = flat_map byte_on_terminal bytes
