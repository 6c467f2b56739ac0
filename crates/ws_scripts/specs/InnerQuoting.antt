-- Inside the crate: a text between quotes as it is read, character after character. A reader may skip this file.
use Rattle.std.specs.Prelude.{◌≡◌, ℕ, ◌+◌, ◌*◌, ◌==◌, nat_le, nat_lt, Bool, not, ◌&&◌, if◌then◌else◌, List, [], ◌∷◌}
use Rattle.std.specs.Prelude.{Option, Some, None, chars, encode_utf8_all}
use Rattle.std.specs.Borrow.{Bor}
use Rattle.std.specs.Char.{digit_value}
use Rattle.std.specs.Char.Utf16.{is_high_surrogate, is_low_surrogate, surrogate_pair_char}
use Rattle.ws_scripts.specs.QuotedTexts.{StandForAll, escaped_by, is_alone, is_unescaped}

-- a byte that stands as itself: a character of ASCII that may
abbrev pub is_plain_byte : ℕ → Bool
is_plain_byte byte = ((nat_le 32 byte && nat_le byte 126) && not (byte == 34)) && not (byte == 92)

-- a character or a number, and the characters behind it, if there is one
abbrev pub TakenOff : Type 0
TakenOff = Option (ℕ × List ℕ)

-- what is taken off the front of a text
abbrev pub IsTakenOff : TakenOff → Option (ℕ × Bor (List ℕ)) → Type 0
IsTakenOff want None = want ≡ None
IsTakenOff want (Some found) = want ≡ Some (found.0, chars found.1.now)

-- the first character
abbrev pub first_character : List ℕ → TakenOff
first_character [] = None
first_character (c ∷ rest) = Some (c, rest)

-- a digit behind the digits of this number
abbrev pub one_digit : ℕ → List ℕ → TakenOff
one_digit number [] = None
one_digit number (c ∷ rest) = if nat_lt (digit_value c) 16 then Some (number * 16 + digit_value c, rest) else None

abbrev pub one_more_digit : TakenOff → TakenOff
one_more_digit None = None
one_more_digit (Some front) = one_digit front.0 front.1

-- the number of four digits
abbrev pub unit_digits : List ℕ → TakenOff
unit_digits text = one_more_digit (one_more_digit (one_more_digit (one_digit 0 text)))

-- the character of a pair of which this is the first half
abbrev pub paired_with : ℕ → TakenOff → TakenOff
paired_with high None = None
paired_with high (Some front) =
    if is_high_surrogate high && is_low_surrogate front.0
    then Some (surrogate_pair_char high front.0, front.1) else None

-- behind a backslash and `u`
abbrev pub unit_behind : List ℕ → TakenOff
unit_behind [] = None
unit_behind (c ∷ []) = None
unit_behind (c ∷ d ∷ rest) = if c == 92 && d == 117 then unit_digits rest else None

-- the character of a number, or of it and the number that follows
abbrev pub from_unit : TakenOff → TakenOff
from_unit None = None
from_unit (Some front) = if is_alone front.0 then Some front else paired_with front.0 (unit_behind front.1)

abbrev pub with_rest : Option ℕ → List ℕ → TakenOff
with_rest None rest = None
with_rest (Some c) rest = Some (c, rest)

-- the character of an escape, behind its backslash
abbrev pub escaped_front : List ℕ → TakenOff
escaped_front [] = None
escaped_front (c ∷ rest) = if c == 117 then from_unit (unit_digits rest) else with_rest (escaped_by c) rest

-- the character for which the front of a text stands
abbrev pub front_character : List ℕ → TakenOff
front_character [] = None
front_character (c ∷ rest) =
    if c == 92 then escaped_front rest else (if is_unescaped c then Some (c, rest) else None)

-- the characters of a text stand for those of a payload
abbrev pub Unescapes : List ℕ → List ℕ → Type 0
Unescapes payload text =
    (characters : List ℕ) × StandForAll characters text × (payload ≡ encode_utf8_all characters)
