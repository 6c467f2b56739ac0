-- Decimal digits, two and four at once.
use Rattle.std.proofs.Common.{◌≡◌, ℕ, zero, suc, ◌+◌, ◌-◌, ◌*◌, ◌/◌, ◌%◌, ◌^◌, ◌<◌, ◌≤◌, Bool, true, ◌&&◌, T, eqb, List, [], ◌∷◌, ◌++◌, get_or, ap, ◌∙◌, append_assoc, inl, inr, arith, eq-zero-or-pos, eqb→eq}
use Rattle.std.specs.Fmt.{decimal}
use Rattle.std.proofs.lemmas.Fmt.{decimal_digit, decimal_step}
use lib.Ieee.Fits.{and_l, and_r}
use Rattle.ws_frame.specs.InnerPrinting.{pair_digits, four_digits}
use Rattle.ws_frame.specs.declared.decimals.TheConstants.{PAIRS}

-- ---- the table, entry by entry

abbrev are_pairs : ℕ → Bool
are_pairs zero = true
are_pairs (suc p) = (eqb (get_or PAIRS (p * 2) 0) (48 + p / 10) && eqb (get_or PAIRS (p * 2 + 1) 0) (48 + p % 10)) && are_pairs p

below : (n p : ℕ) → T (are_pairs n) → p < n → (get_or PAIRS (p * 2) 0 ≡ 48 + p / 10) × (get_or PAIRS (p * 2 + 1) 0 ≡ 48 + p % 10)
below zero p t h = absurd (omega arith)
below (suc n) p t h =
    elim (eq-zero-or-pos (n - p)) [
      | inl z ↦ let e : p ≡ n = omega arith in let a = and_l _ (are_pairs n) t in rw e (eqb→eq _ _ (and_l _ _ a), eqb→eq _ _ (and_r _ _ a))
      | inr g ↦ below n p (and_r _ (are_pairs n) t) (omega arith)
    ]

pub decimals_at : (p : ℕ) → p < 100 → get_or PAIRS (p * 2) 0 ∷ get_or PAIRS (p * 2 + 1) 0 ∷ [] ≡ pair_digits p
decimals_at p h =
    let at = below 100 p tt h in
    ap (λ k. k ∷ get_or PAIRS (p * 2 + 1) 0 ∷ []) at.0 ∙ ap (λ k. (48 + p / 10) ∷ k ∷ []) at.1

-- ---- the digits of a number

pub two_decimal : (n : ℕ) → 10 ≤ n → n < 100 → decimal n ≡ pair_digits n
two_decimal n ge lt = decimal_step n ge (omega (arith, lt)) ∙ ap (λ (t : List ℕ). t ++ (48 + n % 10) ∷ []) (decimal_digit (n / 10) (omega (arith, lt)))

pub last_two : (n : ℕ) → 100 ≤ n → n < 2 ^ 64 → decimal n ≡ decimal (n / 100) ++ pair_digits (n % 100)
last_two n ge lt =
    let tens = n / 10 in
    let less : decimal tens ≡ decimal (tens / 10) ++ (48 + tens % 10) ∷ [] = decimal_step tens (omega (arith, ge)) (omega (arith, lt)) in
    decimal_step n (omega (arith, ge)) lt ∙ ap (λ (t : List ℕ). t ++ (48 + n % 10) ∷ []) less
    ∙ append_assoc (decimal (tens / 10)) ((48 + tens % 10) ∷ []) ((48 + n % 10) ∷ [])
    ∙ ap (λ k. decimal k ++ (48 + tens % 10) ∷ (48 + n % 10) ∷ []) (omega arith)
    ∙ ap (λ k. decimal (n / 100) ++ (48 + k) ∷ (48 + n % 10) ∷ []) (omega arith)
    ∙ ap (λ k. decimal (n / 100) ++ (48 + n % 100 / 10) ∷ (48 + k) ∷ []) (omega arith)

pub last_four : (n : ℕ) → 10000 ≤ n → n < 2 ^ 64 → decimal n ≡ decimal (n / 10000) ++ four_digits (n % 10000)
last_four n ge lt =
    let more = n / 100 in
    last_two n (omega (arith, ge)) lt
    ∙ ap (λ (t : List ℕ). t ++ pair_digits (n % 100)) (last_two more (omega (arith, ge)) (omega (arith, lt)))
    ∙ append_assoc (decimal (more / 100)) (pair_digits (more % 100)) (pair_digits (n % 100))
    ∙ ap (λ k. decimal k ++ (pair_digits (more % 100) ++ pair_digits (n % 100))) (omega arith)
    ∙ ap (λ k. decimal (n / 10000) ++ (pair_digits k ++ pair_digits (n % 100))) (omega arith)
    ∙ ap (λ k. decimal (n / 10000) ++ (pair_digits (n % 10000 / 100) ++ pair_digits k)) (omega arith)
