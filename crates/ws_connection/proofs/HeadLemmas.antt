-- What is read for a head.
use Rattle.std.proofs.Common.{◌≡◌, ◌∙◌, arith, ℕ, List, [], ◌∷◌, ◌++◌, append-nil, length}

-- a read that gave nothing leaves what was there
pub nothing_read : (old new piece : List ℕ) (count : ℕ) → new ≡ old ++ piece → count ≡ length piece → count ≡ 0 → new ≡ old
nothing_read old new [] count joined is none = joined ∙ append-nil old
nothing_read old new (byte ∷ piece) count joined is none = absurd (omega (arith, is, none))
