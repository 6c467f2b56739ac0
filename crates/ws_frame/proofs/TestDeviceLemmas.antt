-- One byte that a reader for tests gives.
use Rattle.std.proofs.Common.{arith, ◌≡◌, ℕ, ◌-◌, ◌<◌, List, [], ◌∷◌, ◌++◌, length, take, drop, slice_set, slice_index_or, sym, ap}
use Rattle.std.proofs.lemmas.List.{take_all}

-- what was left is the byte at the front of the buffer, and what is left now
pub one_given : (left buf : List ℕ) → 0 < length left → 0 < length buf
    → left ≡ take 1 (slice_set buf 0 (slice_index_or left 0 0)) ++ take (length left - 1) (drop 1 left)
one_given [] buf some room = absurd (omega (arith, some))
one_given (x ∷ rest) [] some room = absurd (omega (arith, room))
one_given (x ∷ rest) (y ∷ more) some room =
    let all : take (length (x ∷ rest) - 1) rest ≡ rest = take_all (length (x ∷ rest) - 1) rest (omega arith) in
    ap (λ (t : List ℕ). x ∷ t) (sym all)
