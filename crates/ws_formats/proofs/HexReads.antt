-- Digits, and the bytes that pairs of them spell.
use Rattle.std.proofs.Common.{◌≡◌, ◌≢◌, ◌∙◌, ℕ, zero, suc, ◌+◌, ◌*◌, ◌-◌, ◌/◌, ◌%◌, ◌<◌, ◌≤◌, ◌⊎◌, inl, inr, false, List, [], ◌∷◌, length}
use Rattle.std.proofs.Common.{◌&&◌, ◌||◌, true, nat_le, get_or, take, drop, sym, ap, subst, refl, arith, codes}
use Rattle.std.proofs.lemmas.Bool.{cases_lt}
use Rattle.std.proofs.lemmas.Bool.Decides.{nat_tests}
use Rattle.std.proofs.lemmas.Simd.{get_or-chunk, length-chunk}
use Rattle.std.specs.Fmt.{digit_glyph}
use Rattle.ws_base.specs.Bytes.{AreBytes}
use Rattle.ws_formats.specs.Words.{IsHexWord, hex}
use Rattle.ws_formats.specs.Reading.{AreDigits, ArePairs, IsDigit, IsPair}
use Rattle.ws_formats.proofs.HexWords.{are_bytes_tail, hex_cons, hex_there, high_of, low_of, pairs_from, pairs_length, pairs_of_hex, twice}

-- ---- one digit

pub digit_low : (d : ℕ) → 48 ≤ d → d ≤ 57 → IsDigit d
digit_low d from to = (d - 48, omega arith, grind (arith, nat_tests))

pub digit_letter : (d : ℕ) → 97 ≤ d → d ≤ 102 → IsDigit d
digit_letter d from to = (d - 87, omega arith, grind (arith, nat_tests))

pub digit_range : (d : ℕ) → IsDigit d → ((48 ≤ d) × (d ≤ 57)) ⊎ ((97 ≤ d) × (d ≤ 102))
digit_range d h = elim (cases_lt h.0 10) [
  | inl small ↦ inl (grind (arith, nat_tests, h.2), grind (arith, nat_tests, h.2))
  | inr large ↦ inr (grind (arith, nat_tests, h.1, h.2), grind (arith, nat_tests, h.1, h.2))
]

-- what tells them
pub digit_test : (d : ℕ) → ((nat_le 48 d && nat_le d 57) || (nat_le 97 d && nat_le d 102)) ≡ true → IsDigit d
digit_test d h = elim (cases_lt d 97) [
  | inl low ↦ digit_low d (grind (arith, nat_tests, h, low)) (grind (arith, nat_tests, h, low))
  | inr high ↦ digit_letter d high (grind (arith, nat_tests, h, high))
]

pub tested_digit : (d : ℕ) → IsDigit d → ((nat_le 48 d && nat_le d 57) || (nat_le 97 d && nat_le d 102)) ≡ true
tested_digit d h = elim (digit_range d h) [
  | inl low ↦ grind (arith, nat_tests, low.0, low.1)
  | inr high ↦ grind (arith, nat_tests, high.0, high.1)
]

-- ---- a block of digits

pub block_of_digits : (word : List ℕ) (at n : ℕ) → at + n ≤ length word → AreDigits word → AreDigits (take n (drop at word))
block_of_digits word at n within all k less =
    let long : length (take n (drop at word)) ≡ n = length-chunk at n word within in
    subst IsDigit (sym (get_or-chunk at n word k 0 (omega arith))) (all (at + k) (omega arith))

pub digits_further : (word : List ℕ) (at n : ℕ) → at + n ≤ length word
    → ((k : ℕ) → k < at → IsDigit (get_or word k 0)) → AreDigits (take n (drop at word))
    → (k : ℕ) → k < at + n → IsDigit (get_or word k 0)
digits_further word at n within before block k less =
    elim (cases_lt k at) [
      | inl early ↦ before k early
      | inr late ↦
          let place : at + (k - at) ≡ k = omega arith in
          let long : length (take n (drop at word)) ≡ n = length-chunk at n word within in
          subst (λ (j : ℕ). IsDigit (get_or word j 0)) place
          (subst IsDigit (get_or-chunk at n word (k - at) 0 (omega arith)) (block (k - at) (omega arith)))
    ]

-- ---- pairs

twice_is : (n : ℕ) → twice n ≡ 2 * n
twice_is zero = refl
twice_is (suc n) = let rest = twice_is n in omega arith

pub pairs_even : (bytes word : List ℕ) → ArePairs bytes word → length word ≡ 2 * length bytes
pairs_even bytes word h = pairs_length bytes word h ∙ twice_is (length bytes)

-- what spells bytes is digits
hex_digits : (bytes : List ℕ) → AreBytes bytes → AreDigits (hex bytes)
hex_digits [] all = λ i less. absurd (omega arith)
hex_digits (byte ∷ bytes) all =
    subst AreDigits (sym (hex_cons byte bytes (all 0)))
    (places (hex_digits bytes (are_bytes_tail byte bytes all)))
  where
    places : AreDigits (hex bytes) → AreDigits (high_of byte ∷ low_of byte ∷ hex bytes)
    places rest zero less = (byte / 16, omega (arith, all 0), refl)
    places rest (suc zero) less = (byte % 16, omega arith, refl)
    places rest (suc (suc i)) less = rest i (omega arith)

pub pairs_are_digits : (bytes word : List ℕ) → ArePairs bytes word → AreDigits word
pairs_are_digits bytes word h = subst AreDigits (sym h.1) (hex_digits bytes h.0)

-- a word of bytes that is no dash is pairs of digits, and one pair at least
pub spelled_by_pairs : (bytes word : List ℕ) → IsHexWord bytes word → word ≢ codes "-"
    → (0 < length word) × (length word % 2 ≡ 0) × AreDigits word
spelled_by_pairs bytes word h dash =
    let pairs = pairs_of_hex bytes word h dash in
    let even = pairs_even bytes word pairs in
    (hex_there bytes word h, omega arith, pairs_are_digits bytes word pairs)

-- the byte of two digits
pub pair_of : (byte high low x y : ℕ) → x < 16 → y < 16 → digit_glyph false x ≡ high → digit_glyph false y ≡ low
    → byte ≡ x * 16 + y → IsPair byte high low
pair_of byte high low x y small less first second sum =
    let front : byte / 16 ≡ x = omega arith in
    let last : byte % 16 ≡ y = omega arith in
    (omega arith, sym first ∙ ap (digit_glyph false) (sym front), sym second ∙ ap (digit_glyph false) (sym last))

-- pairs at all places spell the bytes
pub pairs_at : (bytes word : List ℕ) → length word ≡ 2 * length bytes
    → ((k : ℕ) → k < length bytes → IsPair (get_or bytes k 0) (get_or word (2 * k) 0) (get_or word (2 * k + 1) 0))
    → ArePairs bytes word
pairs_at bytes word long at =
    pairs_from bytes word (long ∙ sym (twice_is (length bytes))) (λ k less.
    let p = at k less in
    let next : 2 * k + 1 ≡ suc (twice k) = omega (arith, twice_is k) in (
      p.0,
      subst (λ (n : ℕ). get_or word n 0 ≡ high_of (get_or bytes k 0)) (sym (twice_is k)) p.1,
      subst (λ (n : ℕ). get_or word n 0 ≡ low_of (get_or bytes k 0)) next p.2,
    ))
