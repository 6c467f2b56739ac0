-- Nothing left has no characters.
use Rattle.std.proofs.Common.{◌≡◌, ℕ, List, [], ◌∷◌, length, arith}
use Rattle.std.proofs.lemmas.Str.{chars-nil}
use Rattle.std.specs.Str.{chars}

pub no_characters : (bytes : List ℕ) → length bytes ≡ 0 → chars bytes ≡ []
no_characters [] none = chars-nil
no_characters (byte ∷ bytes) none = absurd (omega (arith, none))
