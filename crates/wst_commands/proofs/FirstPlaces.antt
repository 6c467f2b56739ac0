-- The first place at which a byte passes a test, as a search by blocks tells it, is the one that a walk tells.
use Rattle.std.proofs.Common.{◌≡◌, ◌<◌, ◌≤◌, ℕ, Bool, true, false, List, Option, Some, None, length, refl, arith}
use Rattle.std.proofs.Common.{get_or}
use Rattle.std.proofs.lemmas.Bool.Decides.{nat_tests}
use Rattle.std.proofs.lemmas.List.Sums.{position_or_len_is}
use Rattle.std.specs.List.{position, position_or_len}
use Rattle.memchr.specs.Find.{IsFirstByte}

not_true : (b : Bool) → ¬ (b ≡ true) → b ≡ false
not_true true never = absurd (never refl)
not_true false never = refl

pub first_place : (p : ℕ → Bool) (bytes : List ℕ) (found : Option ℕ) → IsFirstByte p bytes found
    → found ≡ position p bytes
first_place p bytes None nowhere =
    let end : position_or_len p bytes ≡ length bytes =
    position_or_len_is p bytes (length bytes) 0 (omega arith)
    (λ k below. not_true (p (get_or bytes k 0)) (nowhere k (omega arith) below))
    (λ below. absurd (omega (arith, below))) in
    grind (arith, nat_tests)
first_place p bytes (Some at) (before, passes) =
    let inside = before.high in
    let is : position_or_len p bytes ≡ at =
    position_or_len_is p bytes at 0 (omega (arith, inside))
    (λ k below. not_true (p (get_or bytes k 0)) (before.before k (omega arith) below)) (λ _. passes) in
    grind (arith, nat_tests)
