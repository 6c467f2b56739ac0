-- Texts of the input on a page: what begins or ends something in HTML, what can't be seen, and what changes how others
-- are seen, is replaced.
use Rattle.std.specs.Prelude.{◌≢◌, ℕ, ◌==◌, ◌||◌, nat_lt, List, [], ◌∷◌, codes, flat_map, if◌then◌else◌}
use Rattle.std.specs.Char.{encode_utf8, is_control}
use Rattle.std.specs.Str.{chars, is_utf8}
use Rattle.ws_formats.specs.QuotedText.{is_invisible}

-- U+FFFD
abbrev pub replacement : List ℕ
replacement = codes "&#xFFFD;"

-- a character that is no mark of HTML: a control character (below U+0020, or U+007F to U+009F) and an invisible one, as
-- a mark of direction, is the replacement character
abbrev pub plain_on_page : ℕ → List ℕ
plain_on_page c = if is_control c || is_invisible c then replacement else encode_utf8 c

-- a character on a page; a line feed stays
abbrev pub character_on_page : ℕ → List ℕ
character_on_page c =
    if c == 38 then codes "&amp;"
    else (if c == 60 then codes "&lt;"
    else (if c == 62 then codes "&gt;"
    else (if c == 34 then codes "&quot;"
    else (if c == 39 then codes "&#39;"
    else (if c == 10 then c ∷ []
    else plain_on_page c)))))

-- a byte of a text that isn't UTF-8: one that isn't ASCII is the replacement character
abbrev pub byte_on_page : ℕ → List ℕ
byte_on_page byte = if nat_lt byte 128 then character_on_page byte else replacement

-- a text of the input on a page: character by character if it is UTF-8, else byte by byte
unfoldable pub on_page : List ℕ → List ℕ
on_page bytes = if is_utf8 bytes then flat_map character_on_page (chars bytes) else flat_map byte_on_page bytes

-- a byte that begins and ends nothing on a page: none of `<`, `>`, `"` and `'`
abbrev pub IsTextOnPage : ℕ → Type 0
IsTextOnPage byte = (byte ≢ 60) × (byte ≢ 62) × (byte ≢ 34) × (byte ≢ 39)
