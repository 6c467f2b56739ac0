-- What is wrong with a text between quotes that stands for no bytes (RFC 8259 section 7).
use Rattle.std.specs.Prelude.{ℕ, ◌-◌, ◌==◌, nat_lt, Bool, true, false, not, ◌||◌, ◌&&◌, if◌then◌else◌}
use Rattle.std.specs.Prelude.{List, [], ◌∷◌, drop, Option, Some, None}
use Rattle.std.specs.List.{list_any}
use Rattle.std.specs.Char.{is_ascii_control, is_ascii_hexdigit}
use Rattle.std.specs.Str.{is_utf8}
use Rattle.wst_commands.specs.declared.step_texts.TextDamage.{TextDamage}
use Rattle.wst_commands.specs.declared.step_texts.TextDamage.TheVariants.{Escape, Half, Unprintable}

-- a control character of U+0080 to U+009F: in UTF-8 these are 0xc2, and then 0x80 to 0x9f
abbrev pub high_control_from : Bool → List ℕ → Bool
high_control_from led [] = false
high_control_from led (byte ∷ rest) = (led && nat_lt byte 160) || high_control_from (byte == 194) rest

abbrev pub has_high_control : List ℕ → Bool
has_high_control text = high_control_from false text

-- a control character: below U+0020, or U+007F to U+009F
abbrev pub has_control : List ℕ → Bool
has_control text = list_any is_ascii_control text || has_high_control text

-- what no text has between its quotes: bytes that aren't UTF-8, or a control character
abbrev pub is_unprintable : List ℕ → Bool
is_unprintable text = if is_utf8 text then has_control text else true

-- what may follow a backslash: a quote, a backslash, `/`, `b`, `f`, `n`, `r`, `t` or `u`
abbrev pub is_escape_letter : ℕ → Bool
is_escape_letter byte = byte == 34 || (byte == 92 || (byte == 47 || (byte == 98 || (byte == 102 || (byte == 110
    || (byte == 114 || (byte == 116 || byte == 117)))))))

-- four hexadecimal digits come first
abbrev pub begins_with_digits : List ℕ → Bool
begins_with_digits (a ∷ b ∷ c ∷ d ∷ rest) =
    is_ascii_hexdigit a && (is_ascii_hexdigit b && (is_ascii_hexdigit c && is_ascii_hexdigit d))
begins_with_digits _ = false

-- this byte and what follows it are an escape behind its backslash: a `u` has four digits
abbrev pub is_escape : ℕ → List ℕ → Bool
is_escape letter rest = is_escape_letter letter && (not (letter == 117) || begins_with_digits rest)

-- something else follows a backslash that no backslash escapes
abbrev pub has_wrong_escape : List ℕ → Bool
has_wrong_escape [] = false
has_wrong_escape (byte ∷ []) = false
has_wrong_escape (byte ∷ next ∷ rest) =
    if byte == 92 then not (is_escape next rest) || has_wrong_escape rest else has_wrong_escape (next ∷ rest)

-- ---- halves of pairs

-- the first half of a pair has digits of d800 to dbff
abbrev pub is_high_digit : ℕ → Bool
is_high_digit byte = byte == 56 || (byte == 57 || (byte == 65 || (byte == 66 || (byte == 97 || byte == 98))))

-- the second half has digits of dc00 to dfff
abbrev pub is_low_digit : ℕ → Bool
is_low_digit byte = byte == 67 || (byte == 68 || (byte == 69 || (byte == 70
    || (byte == 99 || (byte == 100 || (byte == 101 || byte == 102))))))

-- behind its backslash, an escape is the first half of a pair
abbrev pub is_high_half : ℕ → List ℕ → Bool
is_high_half letter (a ∷ b ∷ rest) = letter == 117 && ((a == 68 || a == 100) && is_high_digit b)
is_high_half letter _ = false

-- it is the second half
abbrev pub is_low_half : ℕ → List ℕ → Bool
is_low_half letter (a ∷ b ∷ rest) = letter == 117 && ((a == 68 || a == 100) && is_low_digit b)
is_low_half letter _ = false

-- the second half of a pair comes next
abbrev pub begins_with_low : List ℕ → Bool
begins_with_low (byte ∷ letter ∷ rest) = byte == 92 && is_low_half letter rest
begins_with_low _ = false

-- behind its backslash, an escape is a half without the other half: a first one that none follows behind its four
-- digits, or a second one, unless it comes at this place
abbrev pub is_half_alone : Bool → ℕ → List ℕ → Bool
is_half_alone due letter rest = (is_high_half letter rest && not (begins_with_low (drop 4 rest)))
    || (is_low_half letter rest && not due)

-- a second half is due five bytes behind the `u` of the first: then its four digits are read
abbrev pub bytes_to_low : ℕ → List ℕ → ℕ
bytes_to_low letter rest = if is_high_half letter rest then 5 else 0

-- half of a pair stands without the other half, where a second half is due so many bytes on, or none at 0
abbrev pub half_stands_alone : ℕ → List ℕ → Bool
half_stands_alone left [] = false
half_stands_alone left (byte ∷ []) = false
half_stands_alone left (byte ∷ next ∷ rest) =
    if byte == 92 then is_half_alone (left == 1) next rest || half_stands_alone (bytes_to_low next rest) rest
    else half_stands_alone (left - 1) (next ∷ rest)

abbrev pub has_half : List ℕ → Bool
has_half text = half_stands_alone 0 text

-- what is wrong with a text: the first of these, or nothing
abbrev pub text_damage : List ℕ → Option TextDamage
text_damage text =
    if is_unprintable text then Some Unprintable
    else (if has_wrong_escape text then Some Escape else (if has_half text then Some Half else None))
