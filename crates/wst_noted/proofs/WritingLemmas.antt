-- A longer front of the bytes is written.
use Rattle.std.proofs.Common.{◌≡◌, ◌∙◌, ℕ, ◌+◌, ◌-◌, ◌≤◌, List, ◌++◌, length, take, drop, sym, ap, subst, arith}
use Rattle.std.proofs.lemmas.List.{length-drop, take_rest}
use Rattle.std.proofs.Math.Seq.{take-add}
use Rattle.std.proofs.KnownBytes.{Appends-trans}
use Rattle.std.specs.Io.KnownBytes.{Appends}
use Rattle.std.specs.Prelude.{Option}

-- a write of n bytes of the rest
pub wrote_further : (at n : ℕ) (xs : List ℕ) (a b c : Option (List ℕ)) → Appends a b (take at xs)
    → Appends b c (take n (take (length xs - at) (drop at xs))) → Appends a c (take (at + n) xs)
wrote_further at n xs a b c first next =
    let grown : take at xs ++ take n (take (length xs - at) (drop at xs)) ≡ take (at + n) xs =
    ap (λ (l : List ℕ). take at xs ++ take n l) (take_rest xs at) ∙ sym (take-add at n xs) in
    subst (Appends a c) grown (Appends-trans a b c _ _ first next)

pub within : (at n : ℕ) (xs : List ℕ) → at ≤ length xs → n ≤ length (take (length xs - at) (drop at xs))
    → at + n ≤ length xs
within at n xs le less =
    let rest : length (take (length xs - at) (drop at xs)) ≡ length xs - at =
    ap length (take_rest xs at) ∙ length-drop at xs in
    let few : n ≤ length xs - at = subst (λ m. n ≤ m) rest less in
    omega (arith, le, few)
