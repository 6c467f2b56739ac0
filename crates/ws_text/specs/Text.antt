-- Text: UTF-8 as RFC 3629 section 3 spells it, which RFC 6455 section 8.1 asks of every text.
use Rattle.std.specs.Prelude.{◌≡◌, ℕ, ◌+◌, ◌/◌, ◌%◌, ◌<◌, ◌⊎◌, nat_lt, if◌then◌else◌, List, [], ◌∷◌, ◌++◌, All}
use Rattle.std.specs.List.{flat_map}

-- a scalar value is a number up to 0x10ffff that is no surrogate
abbrev pub IsScalarValue : ℕ → Type 0
IsScalarValue c = (c < 0xd800) ⊎ ((0xdfff < c) × (c < 0x110000))

-- the lowest six bits of a number, in a byte that is not the first of its character
abbrev pub low_six : ℕ → ℕ
low_six n = 128 + n % 64

-- the bytes of a character
unfoldable pub char_bytes : ℕ → List ℕ
char_bytes c =
    if nat_lt c 128 then c ∷ []
    else (if nat_lt c 2048 then (192 + c / 64) ∷ low_six c ∷ []
    else (if nat_lt c 65536 then (224 + c / 4096) ∷ low_six (c / 64) ∷ low_six c ∷ []
    else (240 + c / 262144) ∷ low_six (c / 4096) ∷ low_six (c / 64) ∷ low_six c ∷ []))

-- a text is the joined bytes of some list of scalar values
pub record IsText (bytes : List ℕ) : Type 0 where
  pub characters : List ℕ
  pub scalar : All IsScalarValue characters
  pub spelled : bytes ≡ flat_map char_bytes characters

-- bytes begin a text where some further bytes make a text of them
pub record BeginsText (bytes : List ℕ) : Type 0 where
  pub more : List ℕ
  pub is_text : IsText (bytes ++ more)

-- ---- the unfinished last character

-- the bytes begin this character, and at least one byte of it is missing
pub record IsCutShort (c : ℕ) (bytes : List ℕ) : Type 0 where
  pub scalar : IsScalarValue c
  pub next : ℕ
  pub more : List ℕ
  pub missing : bytes ++ next ∷ more ≡ char_bytes c

-- nothing, or the first bytes of a character that is not all there
abbrev pub IsUnfinished : List ℕ → Type 0
IsUnfinished tail = (tail ≡ []) ⊎ ((c : ℕ) × IsCutShort c tail)

-- the bytes are a text and then this unfinished character
pub record HasUnfinished (bytes tail : List ℕ) : Type 0 where
  pub front : List ℕ
  pub is_text : IsText front
  pub parts : bytes ≡ front ++ tail
  pub unfinished : IsUnfinished tail
