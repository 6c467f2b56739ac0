-- What a write of the rest adds to a front that was written, and a read to what was read.
use Rattle.std.proofs.Common.{◌≡◌, ℕ, ◌+◌, ◌-◌, ◌≤◌, List, ◌++◌, length, take, drop, sym, ap, ◌∙◌, subst, arith}
use Rattle.std.proofs.lemmas.List.{take_rest, length-drop}
use Rattle.std.proofs.Math.Seq.{take-add}
use Rattle.std.proofs.KnownBytes.{Appends-trans}
use Rattle.std.specs.Io.KnownBytes.{Appends}
use Rattle.std.specs.Prelude.{Option}

pub front_grows : (at n : ℕ) (xs : List ℕ) → take at xs ++ take n (take (length xs - at) (drop at xs)) ≡ take (at + n) xs
front_grows at n xs = ap (λ l. take at xs ++ take n l) (take_rest xs at) ∙ sym (take-add at n xs)

-- a write of n bytes of the rest
pub wrote_more : (at n : ℕ) (xs : List ℕ) (a b c : Option (List ℕ)) → Appends a b (take at xs)
    → Appends b c (take n (take (length xs - at) (drop at xs))) → Appends a c (take (at + n) xs)
wrote_more at n xs a b c p q = subst (Appends a c) (front_grows at n xs) (Appends-trans a b c _ _ p q)

pub rest_length : (at n : ℕ) (xs : List ℕ) → at ≤ length xs → n ≤ length (take (length xs - at) (drop at xs)) → at + n ≤ length xs
rest_length at n xs h k =
    let e : length (take (length xs - at) (drop at xs)) ≡ length xs - at = ap length (take_rest xs at) ∙ length-drop at xs in
    let k2 : n ≤ length xs - at = subst (λ m. n ≤ m) e k in
    omega (arith, h, k2)
