-- A payload that is unmasked part by part.
use Rattle.std.proofs.Common.{◌≡◌, ℕ, ◌+◌, ◌-◌, ◌%◌, ◌≤◌, ◌<◌, List, [], ◌∷◌, ◌++◌, length, take, Option, Some, None, refl, sym, ap, ◌∙◌, arith}
use Rattle.std.specs.Prelude.{bit_xor, slice_index}
use Rattle.std.proofs.Math.Seq.{take-append-add}
use Rattle.ws_wire.specs.Header.{HeaderFields}
use Rattle.ws_wire.specs.Masking.{masked, masked_payload}
use Rattle.ws_wire.proofs.Masks.{masked-append, masked_payload_twice, length-masked, length-masked_payload}
use Rattle.ws_session.specs.InnerMasked.{masked_from}
use Rattle.ws_session.specs.InnerReceiving.{arrived_payload}

-- the phase counts modulo 4
masked_same : (key : List ℕ) (m n : ℕ) (p : List ℕ) → m % 4 ≡ n % 4 → masked key m p ≡ masked key n p
masked_same key m n [] e = refl
masked_same key m n (b ∷ p) e =
    let next : (m + 1) % 4 ≡ (n + 1) % 4 = omega (arith, e) in
    ap (λ k. bit_xor b (slice_index key k) ∷ masked key (m + 1) p) e ∙ ap (λ (t : List ℕ). bit_xor b (slice_index key (n % 4)) ∷ t) (masked_same key (m + 1) (n + 1) p next)

pub masked_from_phase : (k : Option (List ℕ)) (n : ℕ) (p : List ℕ) → masked_from k (n % 4) p ≡ masked_from k n p
masked_from_phase None n p = refl
masked_from_phase (Some key) n p = let same : (n % 4) % 4 ≡ n % 4 = omega arith in masked_same key (n % 4) n p same

pub length-masked_from : (k : Option (List ℕ)) (n : ℕ) (p : List ℕ) → length (masked_from k n p) ≡ length p
length-masked_from None n p = refl
length-masked_from (Some key) n p = length-masked key n p

-- lists of no and of two elements
pub list_of_none : (l : List ℕ) → length l ≡ 0 → l ≡ []
list_of_none [] e = refl
list_of_none (a ∷ l) e = absurd (omega (arith, e))

pub list_of_two : (l : List ℕ) → 2 ≤ length l → length l < 3 → l ≡ slice_index l 0 ∷ slice_index l 1 ∷ []
list_of_two [] least below = absurd (omega arith)
list_of_two (a ∷ []) least below = absurd (omega arith)
list_of_two (a ∷ b ∷ []) least below = refl
list_of_two (a ∷ b ∷ c ∷ l) least below = absurd (omega arith)

-- two bytes, one by one
pub masked_from_pair : (k : Option (List ℕ)) (n a b : ℕ) → masked_from k n (a ∷ b ∷ []) ≡ masked_from k n (a ∷ []) ++ masked_from k (n + 1) (b ∷ [])
masked_from_pair None n a b = refl
masked_from_pair (Some key) n a b = masked-append key n (a ∷ []) (b ∷ [])

-- what follows a payload is masked from its end on
pub masked_after : (k : Option (List ℕ)) (p q : List ℕ) → masked_payload k (p ++ q) ≡ masked_payload k p ++ masked_from k (length p) q
masked_after None p q = refl
masked_after (Some key) p q =
    let none : 0 + length p ≡ length p = omega arith in
    masked-append key 0 p q ∙ ap (λ n. masked key 0 p ++ masked key n q) none

-- the payload as it came, of which a part was kept unmasked
pub arrived_is : (h : HeaderFields) (kept rest : List ℕ) → length kept ≤ h.len → masked_payload h.key (take h.len (masked_payload h.key kept ++ rest)) ≡ arrived_payload h kept rest
arrived_is h kept rest le =
    let size : length (masked_payload h.key kept) ≡ length kept = length-masked_payload h.key kept in
    let count : length (masked_payload h.key kept) + (h.len - length kept) ≡ h.len = omega (arith, size) in
    ap (λ n. masked_payload h.key (take n (masked_payload h.key kept ++ rest))) (sym count)
    ∙ ap (λ (l : List ℕ). masked_payload h.key l) (take-append-add (masked_payload h.key kept) rest (h.len - length kept))
    ∙ masked_after h.key (masked_payload h.key kept) (take (h.len - length kept) rest)
    ∙ ap (λ (l : List ℕ). l ++ masked_from h.key (length (masked_payload h.key kept)) (take (h.len - length kept) rest)) (masked_payload_twice h.key kept)
    ∙ ap (λ n. kept ++ masked_from h.key n (take (h.len - length kept) rest)) size
