-- Text between quotation marks, so that a reader sees each character: what can't be seen, and what changes how others
-- are seen, is escaped as JSON does it (RFC 8259 section 7).
use Rattle.std.specs.Prelude.{ℕ, ◌/◌, ◌%◌, ◌==◌, ◌||◌, ◌&&◌, not, Bool, nat_le, nat_lt, if◌then◌else◌}
use Rattle.std.specs.Prelude.{List, [], ◌∷◌, ◌++◌, length, take, codes}
use Rattle.std.specs.List.{flat_map}
use Rattle.std.specs.Int.{is_in_range}
use Rattle.std.specs.Char.{encode_utf8, is_control}
use Rattle.std.specs.Str.{chars, is_utf8}
use Rattle.std.specs.Char.Escape.{encode_utf16}
use Rattle.ws_formats.specs.Words.{hex}

-- a character that has no shape of its own, or that turns the order in which others are shown: a soft hyphen, marks of
-- direction, spaces without width, ends of lines, what joins words, what annotates, two that are none, and tags
abbrev pub is_invisible : ℕ → Bool
is_invisible c = is_in_range 0xad 0xad c || (is_in_range 0x61c 0x61c c || (is_in_range 0x180e 0x180e c
    || (is_in_range 0x200b 0x200f c || (is_in_range 0x2028 0x202e c || (is_in_range 0x2060 0x206f c
    || (is_in_range 0xfeff 0xfeff c || (is_in_range 0xfff9 0xfffb c || (is_in_range 0xfffe 0xffff c
    || is_in_range 0xe0000 0xe007f c))))))))

-- a quotation mark, a backslash, a control character (below U+0020, or U+007F to U+009F), or an invisible one
abbrev pub is_escaped : ℕ → Bool
is_escaped c = c == 34 || (c == 92 || (is_control c || is_invisible c))

-- a backslash, `u`, and four lower-case digits
abbrev pub unit_escape : ℕ → List ℕ
unit_escape unit = codes "\\u" ++ hex (unit / 256 ∷ unit % 256 ∷ [])

-- two bytes where JSON has a short form that reads well; else the one or two units of the character in UTF-16
abbrev pub escape_of : ℕ → List ℕ
escape_of c =
    if c == 34 then codes "\\\""
    else (if c == 92 then codes "\\\\"
    else (if c == 10 then codes "\\n"
    else (if c == 13 then codes "\\r"
    else (if c == 9 then codes "\\t"
    else flat_map unit_escape (encode_utf16 c)))))

-- a character as it is shown
abbrev pub shown_character : ℕ → List ℕ
shown_character c = if is_escaped c then escape_of c else encode_utf8 c

-- of a text so many characters are shown at most
abbrev pub most_shown : ℕ
most_shown = 64

-- the second mark, and two dots where more characters follow
abbrev pub quoted_end : Bool → List ℕ
quoted_end more = codes "\"" ++ (if more then codes ".." else [])

-- the first characters of a text between quotation marks
unfoldable pub quoted_word : List ℕ → List ℕ
quoted_word characters = codes "\""
    ++ (flat_map shown_character (take most_shown characters) ++ quoted_end (nat_lt most_shown (length characters)))

-- a payload so, where it is UTF-8, and else nothing
abbrev pub quoted_if_text : List ℕ → List ℕ
quoted_if_text payload = if is_utf8 payload then quoted_word (chars payload) else []

-- ---- ASCII

-- a byte that is a character and is shown as it is: 0x20 to 0x7e but the mark and the backslash
abbrev pub is_shown_plainly : ℕ → Bool
is_shown_plainly byte = nat_le 32 byte && (nat_le byte 126 && (not (byte == 34) && not (byte == 92)))
