-- Inside the crate: one more byte after an unfinished character, for contracts of private functions.
use Rattle.std.specs.Prelude.{◌≡◌, ℕ, ◌⊎◌, Bool, true, false, List, [], ◌∷◌, ◌++◌, Option, Some, None}
use Rattle.ws_text.specs.Text.{IsScalarValue, char_bytes, IsUnfinished}
use Rattle.ws_text.specs.declared.unfinished.Unfinished.{Unfinished}
use Rattle.ws_text.specs.declared.unfinished.Unfinished.TheVariants.{Nothing, One, Two, Three}

-- the bytes that are kept
abbrev pub kept_bytes : Unfinished → List ℕ
kept_bytes Nothing = []
kept_bytes (One a) = a ∷ []
kept_bytes (Two a b) = a ∷ b ∷ []
kept_bytes (Three a b d) = a ∷ b ∷ d ∷ []

-- and back
abbrev pub from_kept_bytes : List ℕ → Unfinished
from_kept_bytes [] = Nothing
from_kept_bytes (a ∷ []) = One a
from_kept_bytes (a ∷ b ∷ []) = Two a b
from_kept_bytes (a ∷ b ∷ d ∷ bytes) = Three a b d

-- ---- a stream

-- what a stream is seen as, of what it keeps and whether it has failed
abbrev pub stream_of : Unfinished → Bool → Option (List ℕ)
stream_of kept true = None
stream_of kept false = Some (kept_bytes kept)

-- what it keeps is unfinished, and nothing once it has failed
abbrev pub IsStream : Unfinished → Bool → Type 0
IsStream kept true = kept ≡ Nothing
IsStream kept false = IsUnfinished (kept_bytes kept)

-- and back
abbrev pub kept_in : Option (List ℕ) → Unfinished
kept_in None = Nothing
kept_in (Some tail) = from_kept_bytes tail

-- ---- characters

-- the bytes are this character
pub record IsCharacter (c : ℕ) (bytes : List ℕ) : Type 0 where
  pub scalar : IsScalarValue c
  pub spelled : bytes ≡ char_bytes c

-- some character begins the bytes, or is begun by them
pub record BeginsCharacter (bytes : List ℕ) : Type 0 where
  pub c : ℕ
  pub scalar : IsScalarValue c
  pub more : List ℕ
  pub rest : List ℕ
  pub parts : bytes ++ more ≡ char_bytes c ++ rest

-- the byte ends the character, or is one more of its bytes
abbrev pub GoesOn : List ℕ → ℕ → List ℕ → Type 0
GoesOn old byte new = ((new ≡ []) × ((c : ℕ) × IsCharacter c (old ++ byte ∷ [])))
    ⊎ ((new ≡ old ++ byte ∷ []) × IsUnfinished new)
