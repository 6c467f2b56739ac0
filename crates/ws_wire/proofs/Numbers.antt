-- Length fields, from bytes to a number and back.
use Rattle.std.proofs.Common.{◌≡◌, ℕ, suc, ◌+◌, ◌*◌, ◌^◌, ◌<◌, ◌≤◌, List, [], ◌∷◌, ◌++◌, length, get_or, take, drop, refl, sym, ap, ◌∙◌, arith, zero, inl, inr}
use Rattle.std.specs.Int.{w64, from_be_bytes}
use Rattle.std.proofs.lemmas.Bool.{cases_lt}
use Rattle.std.proofs.lemmas.Nat.{be_bytes_2, be_bytes_8, from_be_bytes-to_be_bytes_2, from_be_bytes-to_be_bytes_8}
use Rattle.std.proofs.lemmas.List.{take-append-drop, get_or-drop, get_or-take, get_or_past, length-take}
use Rattle.byteorder.specs.Endian.{big_bytes, big_number}
use Rattle.ws_wire.specs.Header.{AreBytes}

pub AreBytes-drop : (n : ℕ) (bytes : List ℕ) → AreBytes bytes → AreBytes (drop n bytes)
AreBytes-drop n bytes h i = rw get_or-drop (h (n + i))

pub front_bytes : (n : ℕ) (bytes : List ℕ) → AreBytes bytes → AreBytes (take n bytes)
front_bytes n bytes h i =
    elim (cases_lt i n) [
      | inl lt ↦ rw (get_or-take n bytes i 0 lt) (h i)
      | inr le ↦ rw (get_or_past (take n bytes) i 0 (omega (arith, length-take n bytes))) (omega arith)
    ]

first_two : (a b : ℕ) (bytes : List ℕ) → AreBytes (a ∷ b ∷ bytes) → (i : ℕ) → get_or (a ∷ b ∷ []) i 0 < 256
first_two a b bytes h zero = h 0
first_two a b bytes h (suc zero) = h 1
first_two a b bytes h (suc (suc i)) = omega arith

-- two bytes spell their number
pub two_bytes : (bytes : List ℕ) → AreBytes bytes → 2 ≤ length bytes → bytes ≡ big_bytes 2 (big_number 2 bytes) ++ drop 2 bytes
two_bytes [] h l = absurd (omega arith)
two_bytes (a ∷ []) h l = absurd (omega arith)
two_bytes (a ∷ b ∷ bytes) h l =
    let n = a * 256 + b in
    let back : big_bytes 2 n ≡ a ∷ b ∷ [] = be_bytes_2 (a ∷ b ∷ []) n refl (λ i. first_two a b bytes h i) refl in
    let same : big_number 2 (a ∷ b ∷ bytes) ≡ n = omega arith in
    sym (ap (λ (k : ℕ). big_bytes 2 k ++ bytes) same ∙ ap (λ (t : List ℕ). t ++ bytes) back)

pub two_again : (n : ℕ) (rest : List ℕ) → n < 2 ^ 16 → big_number 2 (big_bytes 2 n ++ rest) ≡ n
two_again n rest h = omega (arith, from_be_bytes-to_be_bytes_2 n h)

pub eight_again : (n : ℕ) (rest : List ℕ) → n < 2 ^ 64 → big_number 8 (big_bytes 8 n ++ rest) ≡ n
eight_again n rest h = omega (arith, from_be_bytes-to_be_bytes_8 n h)

-- eight bytes spell their number
pub eight_bytes : (bytes : List ℕ) → AreBytes bytes → 8 ≤ length bytes → bytes ≡ big_bytes 8 (big_number 8 bytes) ++ drop 8 bytes
eight_bytes bytes h l =
    let len : length (take 8 bytes) ≡ 8 = omega (arith, length-take 8 bytes) in
    let n = from_be_bytes w64 (take 8 bytes) in
    let back : big_bytes 8 n ≡ take 8 bytes = be_bytes_8 (take 8 bytes) n len (λ i. front_bytes 8 bytes h i) refl in
    let same : big_number 8 bytes ≡ n = omega (arith, get_or-take 8 bytes 0 0, get_or-take 8 bytes 1 0, get_or-take 8 bytes 2 0, get_or-take 8 bytes 3 0, get_or-take 8 bytes 4 0, get_or-take 8 bytes 5 0, get_or-take 8 bytes 6 0, get_or-take 8 bytes 7 0) in
    sym (ap (λ (k : ℕ). big_bytes 8 k ++ drop 8 bytes) same ∙ ap (λ (t : List ℕ). t ++ drop 8 bytes) back ∙ take-append-drop 8 bytes)
