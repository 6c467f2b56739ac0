-- Masking, one byte after the other.
use Rattle.std.proofs.Common.{◌≡◌, ℕ, zero, suc, Option, Some, None, inl, inr, ◌+◌, ◌-◌, ◌*◌, ◌%◌, ◌<◌, ◌≤◌, List, [], ◌∷◌, ◌++◌, length, get_or, set, take, drop, refl, sym, ap, ◌∙◌, append_assoc, arith, add-zero}
use Rattle.std.specs.Prelude.{bit_xor, slice_index}
use Rattle.std.proofs.lemmas.Bool.{cases_lt}
use Rattle.std.proofs.lemmas.List.{take_more_set, drop-set-lt, drop_more, take_all, append-nil, drop_all, length-drop, length-take-le, take-append-drop, drop-drop, get_or_append_left, get_or-append_right}
use Rattle.std.proofs.lemmas.Simd.{length-zip2, get_or-zip2, put_chunk_whole}
use Rattle.std.proofs.lemmas.Slice.{take-put_mid, drop-put_mid}
use borrow.Rule.Slice.PartMut.{put_mid}
use lib.Lanes.{zip2, put_chunk}
use Rattle.std.specs.Int.Bits.{xor_assoc, xor_self, xor_zero_r}
use Rattle.std.proofs.lemmas.Nat.{xor_of_8}
use Rattle.std.proofs.lemmas.Grind.{same_number_lists}
use Rattle.ws_wire.specs.Header.{AreBytes, IsMaskingKey}
use Rattle.ws_wire.specs.Masking.{masked, masked_payload, IsMasked, AreKeyLanes}

pub length-masked : (key : List ℕ) (phase : ℕ) (p : List ℕ) → length (masked key phase p) ≡ length p
length-masked key phase [] = refl
length-masked key phase (b ∷ p) = ap suc (length-masked key (phase + 1) p)

-- what is masked in two parts
pub masked-append : (key : List ℕ) (phase : ℕ) (p q : List ℕ) → masked key phase (p ++ q) ≡ masked key phase p ++ masked key (phase + length p) q
masked-append key phase [] q = ap (λ n. masked key n q) (sym (add-zero phase))
masked-append key phase (b ∷ p) q =
    let same : (phase + 1) + length p ≡ phase + suc (length p) = omega arith in
    ap (λ (t : List ℕ). bit_xor b (slice_index key (phase % 4)) ∷ t) (masked-append key (phase + 1) p q ∙ ap (λ n. masked key (phase + 1) p ++ masked key n q) same)

-- the loop's step: the bytes up to i are masked, those from i on are not
pub masked_more : (key : List ℕ) (phase i : ℕ) (p : List ℕ) → i < length p
    → take (i + 1) (set p i (bit_xor (get_or p i 0) (get_or key ((phase + i) % 4) 0))) ++ masked key (phase + (i + 1)) (drop (i + 1) (set p i (bit_xor (get_or p i 0) (get_or key ((phase + i) % 4) 0))))
    ≡ take i p ++ masked key (phase + i) (drop i p)
masked_more key phase i p lt =
    let lt' : i < i + 1 = omega arith in
    let v = bit_xor (get_or p i 0) (get_or key ((phase + i) % 4) 0) in
    let step : phase + (i + 1) ≡ (phase + i) + 1 = omega arith in
    rw (take_more_set p i v lt, drop-set-lt (i + 1) p i v lt', drop_more p i 0 lt, step, append_assoc) refl

-- ---- the rule by index and the list

-- the next byte's place is one more, in the payload as in the list
next_phase : (phase i : ℕ) → (phase + 1) + i ≡ phase + suc i
next_phase phase i = omega arith

masked_at : (key : List ℕ) (phase : ℕ) (p : List ℕ) (i : ℕ) → i < length p → slice_index (masked key phase p) i ≡ bit_xor (slice_index p i) (slice_index key ((phase + i) % 4))
masked_at key phase [] i lt = absurd (omega arith)
masked_at key phase (b ∷ p) zero lt = ap (λ n. bit_xor b (slice_index key (n % 4))) (sym (add-zero phase))
masked_at key phase (b ∷ p) (suc i) lt =
    masked_at key (phase + 1) p i (omega arith) ∙ ap (λ n. bit_xor (slice_index p i) (slice_index key (n % 4))) (next_phase phase i)

pub masked_is_rule : (key : List ℕ) (phase : ℕ) (p : List ℕ) → IsMasked key phase p (masked key phase p)
masked_is_rule key phase p = record { len = length-masked key phase p; bytes = masked_at key phase p }

pub rule_is_masked : (key : List ℕ) (phase : ℕ) (old new : List ℕ) → IsMasked key phase old new → new ≡ masked key phase old
rule_is_masked key phase old new is = same_number_lists new (masked key phase old) (is.len ∙ sym (length-masked key phase old)) (λ i lt. is.bytes i (omega (arith, is.len)) ∙ sym (masked_at key phase old i (omega (arith, is.len))))

-- ---- masking twice

-- a byte xored twice with one key byte is the byte
pub xor_twice : (k a : ℕ) → bit_xor (bit_xor a k) k ≡ a
xor_twice k a = xor_assoc a k k ∙ ap (λ n. bit_xor a n) (xor_self k) ∙ xor_zero_r a

-- masking undoes masking
pub masked_twice : (key : List ℕ) (phase : ℕ) (p : List ℕ) → masked key phase (masked key phase p) ≡ p
masked_twice key phase [] = refl
masked_twice key phase (b ∷ p) =
    let one : bit_xor (bit_xor b (slice_index key (phase % 4))) (slice_index key (phase % 4)) ≡ b = xor_twice (slice_index key (phase % 4)) b in
    let more = masked_twice key (phase + 1) p in
    cc

pub masked_payload_twice : (k : Option (List ℕ)) (p : List ℕ) → masked_payload k (masked_payload k p) ≡ p
masked_payload_twice None p = refl
masked_payload_twice (Some key) p = masked_twice key 0 p

pub length-masked_payload : (k : Option (List ℕ)) (p : List ℕ) → length (masked_payload k p) ≡ length p
length-masked_payload None p = refl
length-masked_payload (Some key) p = length-masked key 0 p

-- what is masked to one list is one payload
pub same_masked_payload : (k : Option (List ℕ)) (p q : List ℕ) → masked_payload k p ≡ masked_payload k q → p ≡ q
same_masked_payload k p q e = sym (masked_payload_twice k p) ∙ ap (λ (t : List ℕ). masked_payload k t) e ∙ masked_payload_twice k q

masked_bytes : (key : List ℕ) (phase : ℕ) (p : List ℕ) → AreBytes key → AreBytes p → AreBytes (masked key phase p)
masked_bytes key phase [] k h i = omega arith
masked_bytes key phase (b ∷ p) k h zero = xor_of_8 b (slice_index key (phase % 4)) (h 0) (k (phase % 4))
masked_bytes key phase (b ∷ p) k h (suc i) = masked_bytes key (phase + 1) p k (λ j. h (suc j)) i

pub masked_payload_bytes : (k : Option (List ℕ)) (p : List ℕ) → IsMaskingKey k → AreBytes p → AreBytes (masked_payload k p)
masked_payload_bytes None p k h = h
masked_payload_bytes (Some key) p k h = masked_bytes key 0 p k.1 h

-- a front of the payload is masked to the front
pub take-masked : (key : List ℕ) (phase n : ℕ) (p : List ℕ) → take n (masked key phase p) ≡ masked key phase (take n p)
take-masked key phase zero p = refl
take-masked key phase (suc n) [] = refl
take-masked key phase (suc n) (b ∷ p) = ap (λ (t : List ℕ). bit_xor b (slice_index key (phase % 4)) ∷ t) (take-masked key (phase + 1) n p)

pub take-masked_payload : (k : Option (List ℕ)) (n : ℕ) (p : List ℕ) → take n (masked_payload k p) ≡ masked_payload k (take n p)
take-masked_payload None n p = refl
take-masked_payload (Some key) n p = take-masked key 0 n p

-- at the loop's end all of the bytes are masked
pub masked_done : (key : List ℕ) (phase i : ℕ) (p all : List ℕ) → length p ≤ i → take i p ++ masked key (phase + i) (drop i p) ≡ all → p ≡ all
masked_done key phase i p all le e =
    let whole : take i p ++ masked key (phase + i) (drop i p) ≡ p = ap (λ (t : List ℕ). take i p ++ masked key (phase + i) t) (drop_all i p le) ∙ append-nil (take i p) ∙ take_all i p le in
    sym whole ∙ e

-- ---- by lanes

-- the places of a payload go round every four bytes
pub masked_round : (key : List ℕ) (phase n : ℕ) (p : List ℕ) → masked key (phase + 4 * n) p ≡ masked key phase p
masked_round key phase n [] = refl
masked_round key phase n (b ∷ p) =
    let place : (phase + 4 * n) % 4 ≡ phase % 4 = omega arith in
    let next : (phase + 4 * n) + 1 ≡ (phase + 1) + 4 * n = omega arith in
    ap (λ k. bit_xor b (slice_index key k) ∷ masked key ((phase + 4 * n) + 1) p) place
    ∙ ap (λ k. bit_xor b (slice_index key (phase % 4)) ∷ masked key k p) next
    ∙ ap (λ (t : List ℕ). bit_xor b (slice_index key (phase % 4)) ∷ t) (masked_round key (phase + 1) n p)

-- some lists of four, one after the other
repeated : ℕ → List ℕ → List ℕ
repeated zero t = []
repeated (suc n) t = t ++ repeated n t

at_repeated : (n : ℕ) (t : List ℕ) → length t ≡ 4 → (i : ℕ) → i < 4 * n → slice_index (repeated n t) i ≡ slice_index t (i % 4)
unfolding repeated
at_repeated zero t four i lt = absurd (omega arith)
at_repeated (suc n) t four i lt =
    elim (cases_lt i 4) [
      | inl first ↦
          let same : i % 4 ≡ i = omega arith in
          get_or_append_left t (repeated n t) 0 i (omega arith) ∙ ap (λ k. slice_index t k) (sym same)
      | inr later ↦
          let round : (i - 4) % 4 ≡ i % 4 = omega arith in
          get_or-append_right t (repeated n t) 4 i 0 four later ∙ at_repeated n t four (i - 4) (omega arith) ∙ ap (λ k. slice_index t k) round
    ]

four_lanes : (key : List ℕ) (phase a b c d : ℕ) → phase ≤ 3 → a ≡ slice_index key phase → b ≡ slice_index key ((phase + 1) % 4) → c ≡ slice_index key ((phase + 2) % 4) → d ≡ slice_index key ((phase + 3) % 4)
    → (i : ℕ) → i < 4 → slice_index (a ∷ b ∷ c ∷ d ∷ []) i ≡ slice_index key ((phase + i) % 4)
four_lanes key phase a b c d le ea eb ec ed zero lt = let same : phase ≡ (phase + 0) % 4 = omega arith in ea ∙ ap (λ k. slice_index key k) same
four_lanes key phase a b c d le ea eb ec ed (suc zero) lt = eb
four_lanes key phase a b c d le ea eb ec ed (suc (suc zero)) lt = ec
four_lanes key phase a b c d le ea eb ec ed (suc (suc (suc zero))) lt = ed
four_lanes key phase a b c d le ea eb ec ed (suc (suc (suc (suc i)))) lt = absurd (omega arith)

-- the four bytes of the key from the phase on
pub once : (key : List ℕ) (phase a b c d : ℕ) → phase ≤ 3 → a ≡ slice_index key phase → b ≡ slice_index key ((phase + 1) % 4) → c ≡ slice_index key ((phase + 2) % 4) → d ≡ slice_index key ((phase + 3) % 4)
    → AreKeyLanes key phase (a ∷ b ∷ c ∷ d ∷ [])
once key phase a b c d le ea eb ec ed i lt = four_lanes key phase a b c d le ea eb ec ed i lt

-- the first four bytes of a key that stands twice
pub four_again : (t : List ℕ) → length t ≡ 4 → (i : ℕ) → i < 4 → slice_index (slice_index (t ++ t) 0 ∷ slice_index (t ++ t) 1 ∷ slice_index (t ++ t) 2 ∷ slice_index (t ++ t) 3 ∷ []) i ≡ slice_index t i
four_again t four zero lt = get_or_append_left t t 0 0 (omega (arith, four))
four_again t four (suc zero) lt = get_or_append_left t t 0 1 (omega (arith, four))
four_again t four (suc (suc zero)) lt = get_or_append_left t t 0 2 (omega (arith, four))
four_again t four (suc (suc (suc zero))) lt = get_or_append_left t t 0 3 (omega (arith, four))
four_again t four (suc (suc (suc (suc i)))) lt = absurd (omega arith)

-- the four bytes of the key from the phase on, eight times over
pub eight_times : (key : List ℕ) (phase a b c d : ℕ) → ((i : ℕ) → i < 4 → slice_index (a ∷ b ∷ c ∷ d ∷ []) i ≡ slice_index key ((phase + i) % 4))
    → AreKeyLanes key phase (a ∷ b ∷ c ∷ d ∷ a ∷ b ∷ c ∷ d ∷ a ∷ b ∷ c ∷ d ∷ a ∷ b ∷ c ∷ d ∷ a ∷ b ∷ c ∷ d ∷ a ∷ b ∷ c ∷ d ∷ a ∷ b ∷ c ∷ d ∷ a ∷ b ∷ c ∷ d ∷ [])
unfolding repeated
eight_times key phase a b c d four i lt =
    let round : (phase + i % 4) % 4 ≡ (phase + i) % 4 = omega arith in
    at_repeated 8 (a ∷ b ∷ c ∷ d ∷ []) refl i lt ∙ four (i % 4) (omega arith) ∙ ap (λ k. slice_index key k) round

-- and four times over
pub four_times : (key : List ℕ) (phase a b c d : ℕ) → ((i : ℕ) → i < 4 → slice_index (a ∷ b ∷ c ∷ d ∷ []) i ≡ slice_index key ((phase + i) % 4))
    → AreKeyLanes key phase (a ∷ b ∷ c ∷ d ∷ a ∷ b ∷ c ∷ d ∷ a ∷ b ∷ c ∷ d ∷ a ∷ b ∷ c ∷ d ∷ [])
unfolding repeated
four_times key phase a b c d four i lt =
    let round : (phase + i % 4) % 4 ≡ (phase + i) % 4 = omega arith in
    at_repeated 4 (a ∷ b ∷ c ∷ d ∷ []) refl i lt ∙ four (i % 4) (omega arith) ∙ ap (λ k. slice_index key k) round

-- and twice over
pub two_times : (key : List ℕ) (phase a b c d : ℕ) → ((i : ℕ) → i < 4 → slice_index (a ∷ b ∷ c ∷ d ∷ []) i ≡ slice_index key ((phase + i) % 4))
    → AreKeyLanes key phase (a ∷ b ∷ c ∷ d ∷ a ∷ b ∷ c ∷ d ∷ [])
unfolding repeated
two_times key phase a b c d four i lt =
    let round : (phase + i % 4) % 4 ≡ (phase + i) % 4 = omega arith in
    at_repeated 2 (a ∷ b ∷ c ∷ d ∷ []) refl i lt ∙ four (i % 4) (omega arith) ∙ ap (λ k. slice_index key k) round

-- bytes that are xored with the lanes
pub xored_lanes : (key : List ℕ) (phase : ℕ) (lanes p : List ℕ) → length lanes ≡ length p → AreKeyLanes key phase lanes → zip2 bit_xor p lanes ≡ masked key phase p
xored_lanes key phase lanes p same are =
    let len : length (zip2 bit_xor p lanes) ≡ length p = length-zip2 bit_xor p lanes (sym same) in
    rule_is_masked key phase p (zip2 bit_xor p lanes) (record {
      len = len;
      bytes = λ i lt. get_or-zip2 bit_xor p lanes i 0 0 0 lt (omega arith) ∙ ap (λ k. bit_xor (slice_index p i) k) (are i (omega arith));
    })

-- a vector's worth of bytes, loaded, xored with the lanes and stored
pub stored_lanes : (size : ℕ) (key : List ℕ) (phase : ℕ) (lanes p : List ℕ) → length lanes ≡ size → length p ≡ size → AreKeyLanes key phase lanes → put_chunk 0 p (zip2 bit_xor (take size p) lanes) ≡ masked key phase p
stored_lanes size key phase lanes p of_lanes of_p are =
    let all : take size p ≡ p = take_all size p (omega (arith, of_p)) in
    let same : zip2 bit_xor (take size p) lanes ≡ masked key phase p = ap (λ (t : List ℕ). zip2 bit_xor t lanes) all ∙ xored_lanes key phase lanes p (omega (arith, of_p, of_lanes)) are in
    ap (λ (t : List ℕ). put_chunk 0 p t) same ∙ put_chunk_whole p (masked key phase p) (sym (length-masked key phase p))

-- the loop's step over a vector of some keys' bytes
pub lanes_more : (count : ℕ) (key : List ℕ) (phase at k : ℕ) (p new : List ℕ) → at + 4 * count ≤ length p → k ≡ 4 * count → new ≡ masked key phase (take k (drop at p))
    → take (at + 4 * count) (put_mid at k p new) ++ masked key phase (drop (at + 4 * count) (put_mid at k p new)) ≡ take at p ++ masked key phase (drop at p)
lanes_more count key phase at k p new room size is =
    let front : length (take k (drop at p)) ≡ 4 * count = length-take-le k (drop at p) (omega (arith, room, size, length-drop at p)) ∙ size in
    let lanes : length new ≡ 4 * count = ap (λ (t : List ℕ). length t) is ∙ length-masked key phase (take k (drop at p)) ∙ front in
    let parts : drop at p ≡ take k (drop at p) ++ drop (at + 4 * count) p =
    sym (take-append-drop k (drop at p)) ∙ ap (λ (t : List ℕ). take k (drop at p) ++ t) (drop-drop k at p ∙ ap (λ n. drop (at + n) p) size) in
    let rest : new ++ masked key phase (drop (at + 4 * count) p) ≡ masked key phase (drop at p) =
    ap (λ (t : List ℕ). t ++ masked key phase (drop (at + 4 * count) p)) is
    ∙ ap (λ (t : List ℕ). masked key phase (take k (drop at p)) ++ t) (sym (masked_round key phase count (drop (at + 4 * count) p)))
    ∙ ap (λ n. masked key phase (take k (drop at p)) ++ masked key (phase + n) (drop (at + 4 * count) p)) (sym front)
    ∙ sym (masked-append key phase (take k (drop at p)) (drop (at + 4 * count) p))
    ∙ ap (λ (t : List ℕ). masked key phase t) (sym parts) in
    ap (λ (t : List ℕ). t ++ masked key phase (drop (at + 4 * count) (put_mid at k p new))) (take-put_mid at k p new (at + 4 * count) (omega (arith, lanes, size, room)) (omega (arith, lanes, size, room)))
    ∙ ap (λ (t : List ℕ). (take at p ++ new) ++ masked key phase t) (drop-put_mid at k p new (at + 4 * count) (omega (arith, lanes, size, room)) (omega (arith, lanes, size, room)) (omega (arith, lanes, size, room)))
    ∙ append_assoc (take at p) new (masked key phase (drop (at + 4 * count) p))
    ∙ ap (λ (t : List ℕ). take at p ++ t) rest

-- the rest, masked behind the vectors
pub lanes_done : (key : List ℕ) (phase at k : ℕ) (p new all : List ℕ) → at ≤ length p → k ≡ length p - at → new ≡ masked key phase (take k (drop at p)) → take at p ++ masked key phase (drop at p) ≡ all
    → put_mid at k p new ≡ all
lanes_done key phase at k p new all within size is so =
    let whole : take k (drop at p) ≡ drop at p = take_all k (drop at p) (omega (arith, length-drop at p)) in
    let none : drop k (drop at p) ≡ [] = drop_all k (drop at p) (omega (arith, length-drop at p)) in
    ap (λ (t : List ℕ). take at p ++ (new ++ t)) none ∙ ap (λ (t : List ℕ). take at p ++ t) (append-nil new ∙ is ∙ ap (λ (t : List ℕ). masked key phase t) whole) ∙ so
