-- Numbers and the decimal digits that spell them.
use Rattle.std.proofs.Common.{◌≡◌, ◌≢◌, ◌∙◌, ℕ, zero, suc, ◌<◌, ◌^◌, Bool, false, List, [], ◌∷◌, length, ap, sym, refl, subst, arith, slice_index, drop, cond, Ok, inl, inr, ◌==◌}
use Rattle.std.proofs.lemmas.Bool.Decides.{nat_tests}
use Rattle.std.proofs.lemmas.Fmt.{IsAscii-decimal, decimal-digits_value, decimal_digit, decimal_injective, decimal_is_IsNumeral, first_decimal}
use Rattle.std.proofs.lemmas.Str.{IsUtf8-from_ascii}
use Rattle.std.proofs.lemmas.Str.Parse.{IsNumeralModel, not_in_digits}
use Rattle.std.specs.Fmt.{decimal}
use Rattle.std.specs.Result.{OkIff}
use Rattle.std.specs.Str.{IsUtf8}
use Rattle.std.specs.Str.Parse.{AllDigits, IsNumeral, digits_value, without_leading_plus}
use Rattle.ws_formats.specs.Words.{IsNumberWord}
use Rattle.ws_formats.specs.Reading.{BeginsOddly}

own : IsNumeralModel (AllDigits 10) (digits_value 10)
own = record { to = λ ds h. h; from = λ ds h. h; same = λ ds h. refl }

-- the digits of a number of 32 bits
pub number_digits : (most number : ℕ) (word : List ℕ) → most < 2 ^ 64 → IsNumberWord most number word → IsNumeral 10 word
number_digits most number word small h = subst (λ (l : List ℕ). IsNumeral 10 l) (sym h.1) (decimal_is_IsNumeral number (omega (arith, h.0))).0

-- what is no digit does not stand first
pub number_front : (most number c : ℕ) (word : List ℕ) → most < 2 ^ 64 → IsNumberWord most number word → 57 < c → slice_index word 0 ≢ c
number_front most number c word small h above =
    let d = number_digits most number word small h in
    not_in_digits own word c d.1 (λ r. omega (arith, r)) 0 d.0

pub number_front_low : (most number c : ℕ) (word : List ℕ) → most < 2 ^ 64 → IsNumberWord most number word → c < 48 → slice_index word 0 ≢ c
number_front_low most number c word small h below =
    let d = number_digits most number word small h in
    not_in_digits own word c d.1 (λ r. omega (arith, r)) 0 d.0

pub number_not_odd : (most number : ℕ) (word : List ℕ) → most < 2 ^ 64 → IsNumberWord most number word → BeginsOddly word → ⊥
number_not_odd most number word small h (inl plus) = number_front_low most number 43 word small h (omega arith) plus
number_not_odd most zero word small h (inr leads) =
    let one : length word ≡ 1 = ap (λ (l : List ℕ). length l) (h.1 ∙ decimal_digit 0 (omega arith)) in
    omega (arith, leads.1)
number_not_odd most (suc number) word small h (inr leads) =
    let first : 48 < slice_index word 0 = subst (λ (l : List ℕ). 48 < slice_index l 0) (sym h.1) (first_decimal (suc number) (omega arith) (omega (arith, h.0))) in
    omega (arith, leads.0)

pub number_is_text : (most number : ℕ) (word : List ℕ) → most < 2 ^ 64 → IsNumberWord most number word → IsUtf8 word
number_is_text most number word small h = subst (λ (l : List ℕ). IsUtf8 l) (sym h.1) (IsUtf8-from_ascii (decimal number) (IsAscii-decimal number (omega (arith, h.0))))

-- a word spells one number
pub number_one : (most other m n : ℕ) (word : List ℕ) → most < 2 ^ 64 → other < 2 ^ 64 → IsNumberWord most m word → IsNumberWord other n word → m ≡ n
number_one most other m n word small less a b = decimal_injective m n (omega (arith, a.0)) (omega (arith, b.0)) (sym a.1 ∙ b.1)

-- without a plus nothing is left out
no_plus : (word : List ℕ) → slice_index word 0 ≢ 43 → without_leading_plus word ≡ word
no_plus word h =
    let test : (slice_index word 0 == 43) ≡ false = grind (arith, nat_tests) in
    ap (λ (b : Bool). drop (cond b 1 0) word) test

-- what is read of digits without a plus and a leading zero is what they spell
pub number_read : (E : Type 0) (word digits : List ℕ) (number : ℕ) → digits ≡ word → (BeginsOddly word → ⊥)
    → OkIff {E = E} (Ok number) (IsNumeral 10 (without_leading_plus digits) × (digits_value 10 (without_leading_plus digits) < 2 ^ 32)) (digits_value 10 (without_leading_plus digits))
    → IsNumberWord 4294967295 number word
number_read E word digits number same even h =
    let bare : without_leading_plus digits ≡ word = ap without_leading_plus same ∙ no_plus word (λ e. even (inl e)) in
    let g : OkIff {E = E} (Ok number) (IsNumeral 10 word × (digits_value 10 word < 2 ^ 32)) (digits_value 10 word) =
    subst (λ (l : List ℕ). OkIff {E = E} (Ok number) (IsNumeral 10 l × (digits_value 10 l < 2 ^ 32)) (digits_value 10 l)) bare h in
    let below : digits_value 10 word < 2 ^ 32 = g.0.1 in
    let there : 0 < length word = g.0.0.0 in
    let one : slice_index word 0 ≡ 48 → length word ≡ 1 = λ e. single word there (λ long. even (inr (e, long))) in
    let back : decimal (digits_value 10 word) ≡ word = decimal-digits_value own word g.0.0.1 there one (omega arith) in
    (omega (arith, g.1), sym back ∙ ap decimal (sym g.1))
  where
    single : (l : List ℕ) → 0 < length l → (1 < length l → ⊥) → length l ≡ 1
    single [] there long = absurd (omega arith)
    single (x ∷ []) there long = refl
    single (x ∷ y ∷ l) there long = absurd (long (omega arith))
