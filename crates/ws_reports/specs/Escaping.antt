-- Texts as XML 1.0 writes them (sections 2.2, 2.4 and 2.10), by their bytes.
use Rattle.std.specs.Prelude.{◌≢◌, ℕ, ◌==◌, Bool, ◌||◌, List, [], ◌∷◌, codes, flat_map, if◌then◌else◌}
use Rattle.std.specs.Int.{is_in_range}

-- An ASCII character that stands for itself between tags: a line feed, or one from the space on. A carriage return and
-- a tab are characters of XML too, and are written by their numbers.
abbrev pub is_plain : ℕ → Bool
is_plain byte = (byte == 10) || is_in_range 32 127 byte

-- a byte between tags; our choice: what isn't ASCII, or no character of XML, is the replacement character
abbrev pub content_byte : ℕ → List ℕ
content_byte byte =
    if byte == 38 then codes "&amp;"
    else (if byte == 60 then codes "&lt;"
    else (if byte == 62 then codes "&gt;"
    else (if byte == 34 then codes "&quot;"
    else (if byte == 9 then codes "&#9;"
    else (if byte == 13 then codes "&#13;"
    else (if is_plain byte then byte ∷ []
    else codes "&#xFFFD;"))))))

-- a byte of an attribute: a reader makes a space of a line feed that isn't written by its number (section 3.3.3)
abbrev pub quoted_byte : ℕ → List ℕ
quoted_byte byte = if byte == 10 then codes "&#10;" else content_byte byte

-- a text between tags
abbrev pub escaped : List ℕ → List ℕ
escaped bytes = flat_map content_byte bytes

-- a text of an attribute
abbrev pub quoted : List ℕ → List ℕ
quoted bytes = flat_map quoted_byte bytes

-- a byte that ends neither a text nor an attribute: no `<` and no `"`
abbrev pub IsInText : ℕ → Type 0
IsInText byte = (byte ≢ 60) × (byte ≢ 34)
