-- Texts between quotes: characters as they are, and the escapes of JSON (RFC 8259 section 7).
use Rattle.std.specs.Prelude.{◌≡◌, ◌⊎◌, ℕ, ◌+◌, ◌*◌, ◌<◌, ◌==◌, nat_le, Bool, not, ◌&&◌, ◌||◌, if◌then◌else◌}
use Rattle.std.specs.Prelude.{IsTrue, List, [], ◌∷◌, ◌++◌, Option, Some, None, IsUtf8, chars, encode_utf8_all}
use Rattle.std.specs.Char.{digit_value}
use Rattle.std.specs.Char.Utf16.{is_high_surrogate, is_low_surrogate, surrogate_pair_char}
use Rattle.std.specs.List.{AllZip, concat}

-- A character that may stand as itself: U+0020 to U+007E and U+00A0 and above, but no quote and no backslash. Our
-- choice: section 7 would take U+007F to U+009F too, which control a terminal.
abbrev pub is_unescaped : ℕ → Bool
is_unescaped c = ((nat_le 32 c && nat_le c 126) || nat_le 160 c) && (not (c == 34) && not (c == 92))

-- the character for which a backslash and this letter stand: a quote, a backslash, a slash, backspace, form feed, line
-- feed, carriage return, tab
abbrev pub escaped_by : ℕ → Option ℕ
escaped_by letter =
    if letter == 34 then Some 34
    else (if letter == 92 then Some 92
    else (if letter == 47 then Some 47
    else (if letter == 98 then Some 8
    else (if letter == 102 then Some 12
    else (if letter == 110 then Some 10
    else (if letter == 114 then Some 13
    else (if letter == 116 then Some 9
    else None)))))))

-- a backslash and the letter for the character
abbrev pub IsLetterEscape : ℕ → List ℕ → Type 0
IsLetterEscape c word = (letter : ℕ) × (escaped_by letter ≡ Some c) × (word ≡ 92 ∷ letter ∷ [])

-- a backslash, `u`, and four hexadecimal digits in either case, for this number
pub record IsUnitEscape (unit : ℕ) (word : List ℕ) : Type 0 where
  pub first : ℕ
  pub second : ℕ
  pub third : ℕ
  pub fourth : ℕ
  pub is_first : digit_value first < 16
  pub is_second : digit_value second < 16
  pub is_third : digit_value third < 16
  pub is_fourth : digit_value fourth < 16
  pub value : unit ≡ digit_value first * 4096 + digit_value second * 256 + digit_value third * 16 + digit_value fourth
  pub spelled : word ≡ 92 ∷ 117 ∷ first ∷ second ∷ third ∷ fourth ∷ []

-- the number is no half of a pair, and so a character
abbrev pub is_alone : ℕ → Bool
is_alone unit = not (is_high_surrogate unit) && not (is_low_surrogate unit)

-- two such escapes for a character above U+FFFF, as UTF-16 has it
pub record IsPairEscape (c : ℕ) (word : List ℕ) : Type 0 where
  pub high : ℕ
  pub low : ℕ
  pub front : List ℕ
  pub back : List ℕ
  pub is_front : IsUnitEscape high front
  pub is_back : IsUnitEscape low back
  pub is_high : IsTrue (is_high_surrogate high)
  pub is_low : IsTrue (is_low_surrogate low)
  pub character : c ≡ surrogate_pair_char high low
  pub spelled : word ≡ front ++ back

-- the word stands for the character: it is the character, or one of its escapes
abbrev pub StandsFor : ℕ → List ℕ → Type 0
StandsFor c word = (IsTrue (is_unescaped c) × (word ≡ c ∷ []))
    ⊎ (IsLetterEscape c word ⊎ ((IsTrue (is_alone c) × IsUnitEscape c word) ⊎ IsPairEscape c word))

-- The characters of a text stand, word after word, for these.
pub record StandForAll (characters text : List ℕ) : Type 0 where
  pub words : List (List ℕ)
  pub each : AllZip StandsFor characters words
  pub all : text ≡ concat words

-- What stands between quotes is UTF-8, and its characters stand for those of the payload, which is UTF-8 too. No quote
-- is among them without a backslash.
pub record IsQuotedText (payload inner : List ℕ) : Type 0 where
  pub utf8 : IsUtf8 inner
  pub characters : List ℕ
  pub stand : StandForAll characters (chars inner)
  pub encoded : payload ≡ encode_utf8_all characters
