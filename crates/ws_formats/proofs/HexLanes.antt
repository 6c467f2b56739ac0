-- Digits in vectors: which lanes are digits, and the bytes that pairs of them spell.
use Rattle.std.proofs.Common.{◌≡◌, ◌↔◌, ◌∙◌, ℕ, zero, suc, ◌+◌, ◌*◌, ◌-◌, ◌/◌, ◌%◌, ◌^◌, ◌<◌, ◌≤◌, ◌⊎◌, inl, inr, false, true, not, Bool, cond, eqb, ltb, List, [], ◌∷◌, ◌++◌, length, map, replicate}
use Rattle.std.proofs.Common.{get_or, take, drop, sym, ap, ap₂, subst, refl, arith, append-nil, w8, Fits, eqb-true, eq-eqb, ltb-true, ltb-false, take-add}
use Rattle.std.proofs.lemmas.Bool.{eqb-false}
use Rattle.std.proofs.lemmas.Bool.Decides.{nat_tests}
use Rattle.std.proofs.lemmas.Grind.{flat_map-append}
use Rattle.std.proofs.lemmas.List.{drop-drop, drop_all, get_or-map, get_or_append_left, length-drop, length-map, take-append-drop, take_all}
use Rattle.std.proofs.lemmas.Simd.{get_or-chunk, get_or-replicate, get_or-zip2, length-chunk, length-replicate, length-zip2, mask_l-mod, put_chunk_whole}
use Rattle.std.proofs.lemmas.Slice.{take-put_mid}
use borrow.Rule.Slice.PartMut.{put_mid}
use lib.Lanes.{Each1, mask_l, pick_l, put_chunk, sel_l, top, zip2}
use Rattle.std.specs.Fmt.{digits, digit_glyph}
use Rattle.ws_base.specs.Bytes.{AreBytes}
use Rattle.ws_formats.specs.Reading.{AreDigits, ArePairs, IsDigit, IsPair}
use Rattle.ws_formats.proofs.HexReads.{digit_letter, digit_low, digit_range, pair_of, pairs_at, pairs_even}
use Rattle.ws_formats.proofs.HexWords.{are_bytes_cons, are_bytes_tail}

-- ---- the operations, lane by lane

abbrev lane_sum : ℕ → ℕ → ℕ
lane_sum a b = (a + b) % 2 ^ 8

abbrev lane_product : ℕ → ℕ → ℕ
lane_product a b = a * b % 2 ^ 8

abbrev lane_less : ℕ → ℕ → ℕ
lane_less a b = (a + (2 ^ 8 - b)) % 2 ^ 8

abbrev lane_below : ℕ → ℕ → ℕ
lane_below a b = cond (ltb a b) 255 0

abbrev lane_differs : ℕ → ℕ → ℕ
lane_differs a b = cond (not (eqb a b)) 255 0

-- the smaller of two
abbrev lane_least : ℕ → ℕ → ℕ
lane_least a b = cond (top 7 (lane_below a b)) a b

-- how much the first is above the second
abbrev lane_above : ℕ → ℕ → ℕ
lane_above a b = lane_less (cond (top 7 (lane_below a b)) b a) b

above_is : (a b : ℕ) → a < 256 → b < 256 → lane_above a b ≡ a - b
above_is a b small few = go (ltb a b) refl
  where
    go : (t : Bool) → ltb a b ≡ t → lane_less (cond (top 7 (cond t 255 0)) b a) b ≡ a - b
    go true e = omega (arith, ltb-true _ _ e)
    go false e = omega (arith, ltb-false _ _ e)

least_none : (a b : ℕ) → lane_least a b ≡ 0 → (a ≡ 0) ⊎ (b ≡ 0)
least_none a b = go (ltb a b)
  where
    go : (t : Bool) → ◌≡◌ {A = ℕ} (cond (top 7 (cond t 255 0)) a b) 0 → (a ≡ 0) ⊎ (b ≡ 0)
    go true e = inl e
    go false e = inr e

none_least : (a b : ℕ) → (a ≡ 0) ⊎ (b ≡ 0) → lane_least a b ≡ 0
none_least a b h = go (ltb a b) refl
  where
    go : (t : Bool) → ltb a b ≡ t → ◌≡◌ {A = ℕ} (cond (top 7 (cond t 255 0)) a b) 0
    go true e = elim h [ inl z ↦ z | inr z ↦ absurd (omega (arith, ltb-true _ _ e, z)) ]
    go false e = elim h [ inl z ↦ omega (arith, ltb-false _ _ e, z) | inr z ↦ z ]

-- ---- which lanes are digits

-- zero at a digit
abbrev wrong_lane : ℕ → ℕ
wrong_lane x = lane_least (lane_above (lane_less x 48) 9) (lane_above (lane_less x 97) 5)

wrong_none : (x : ℕ) → x < 256 → wrong_lane x ≡ 0 → IsDigit x
wrong_none x small e = elim (least_none (lane_above (lane_less x 48) 9) (lane_above (lane_less x 97) 5) e) [
  | inl z ↦
      let few : lane_less x 48 - 9 ≡ 0 = sym (above_is (lane_less x 48) 9 (omega arith) (omega arith)) ∙ z in
      digit_low x (omega (arith, few, small)) (omega (arith, few, small))
  | inr z ↦
      let few : lane_less x 97 - 5 ≡ 0 = sym (above_is (lane_less x 97) 5 (omega arith) (omega arith)) ∙ z in
      digit_letter x (omega (arith, few, small)) (omega (arith, few, small))
]

none_wrong : (x : ℕ) → x < 256 → IsDigit x → wrong_lane x ≡ 0
none_wrong x small h = elim (digit_range x h) [
  | inl r ↦
      let few : lane_less x 48 - 9 ≡ 0 = omega (arith, r.0, r.1) in
      none_least (lane_above (lane_less x 48) 9) (lane_above (lane_less x 97) 5) (inl (above_is (lane_less x 48) 9 (omega arith) (omega arith) ∙ few))
  | inr r ↦
      let few : lane_less x 97 - 5 ≡ 0 = omega (arith, r.0, r.1) in
      none_least (lane_above (lane_less x 48) 9) (lane_above (lane_less x 97) 5) (inr (above_is (lane_less x 97) 5 (omega arith) (omega arith) ∙ few))
]

lane_flag : (x : ℕ) → (◌≡◌ {A = ℕ} (cond (top 7 (lane_differs x 0)) 1 0) 0) ↔ (x ≡ 0)
lane_flag x = go (eqb x 0) refl
  where
    go : (t : Bool) → eqb x 0 ≡ t → (◌≡◌ {A = ℕ} (cond (top 7 (cond (not t) 255 0)) 1 0) 0) ↔ (x ≡ 0)
    go true e = (λ _. eqb-true _ _ e, λ _. refl)
    go false e = (λ q. absurd (omega arith), λ z. absurd (eqb-false _ _ e z))

abbrev above_lanes : ℕ → ℕ → ℕ → List ℕ → List ℕ
above_lanes from most n xs =
    zip2 lane_less (sel_l (map (top 7) (zip2 lane_below (zip2 lane_less xs (replicate n from)) (replicate n most))) (replicate n most) (zip2 lane_less xs (replicate n from))) (replicate n most)

abbrev wrong_flags : ℕ → List ℕ → List Bool
wrong_flags n xs =
    map (top 7) (zip2 lane_differs (sel_l (map (top 7) (zip2 lane_below (above_lanes 48 9 n xs) (above_lanes 97 5 n xs))) (above_lanes 48 9 n xs) (above_lanes 97 5 n xs)) (replicate n 0))

digits_cons : (x : ℕ) (xs : List ℕ) → IsDigit x → AreDigits xs → AreDigits (x ∷ xs)
digits_cons x xs one rest zero within = one
digits_cons x xs one rest (suc i) within = rest i (omega arith)

flags_length : (xs : List ℕ) → length (wrong_flags (length xs) xs) ≡ length xs
flags_length [] = refl
flags_length (x ∷ xs) = ap suc (flags_length xs)

flags_tell : (xs : List ℕ) → Each1 (Fits w8) xs → (mask_l (wrong_flags (length xs) xs) ≡ 0) ↔ AreDigits xs
flags_tell [] fits = (λ _ i within. absurd (omega arith), λ _. refl)
flags_tell (x ∷ xs) fits =
    let rest = flags_tell xs fits.1 in
    let here = lane_flag (wrong_lane x) in (
      λ e. digits_cons x xs (wrong_none x fits.0.fits (here.0 (omega arith))) (rest.0 (omega arith)),
      λ all. omega (arith, here.1 (none_wrong x fits.0.fits (all 0 (omega arith))), rest.1 (λ i within. all (suc i) (omega arith))),
    )

flags_of_all : (xs : List ℕ) → length xs ≤ 64 → Each1 (Fits w8) xs → (eqb (mask_l (wrong_flags (length xs) xs) % 2 ^ 64) 0 ≡ true) ↔ AreDigits xs
flags_of_all xs few fits =
    let same = mask_l-mod (wrong_flags (length xs) xs) 64 (omega (arith, flags_length xs)) in
    let tell = flags_tell xs fits in
    (λ t. tell.0 (sym same ∙ eqb-true _ _ t), λ all. eq-eqb _ _ (same ∙ tell.1 all))

pub flags_of : (n : ℕ) (xs : List ℕ) → n ≤ 64 → length xs ≡ n → Each1 (Fits w8) xs → (eqb (mask_l (wrong_flags n xs) % 2 ^ 64) 0 ≡ true) ↔ AreDigits xs
flags_of n xs few long fits =
    subst (λ (m : ℕ). (eqb (mask_l (wrong_flags m xs) % 2 ^ 64) 0 ≡ true) ↔ AreDigits xs) long (flags_of_all xs (omega arith) fits)

-- ---- the values of digits

abbrev value_lane : ℕ → ℕ
value_lane x = lane_least (lane_less x 48) (lane_less x 87)

low_glyph : (d : ℕ) → 48 ≤ d → d ≤ 57 → digit_glyph false (d - 48) ≡ d
low_glyph d from to = grind (arith, nat_tests)

letter_glyph : (d : ℕ) → 97 ≤ d → d ≤ 102 → digit_glyph false (d - 87) ≡ d
letter_glyph d from to = grind (arith, nat_tests)

abbrev IsValueOf : ℕ → ℕ → Type 0
IsValueOf d value = (value < 16) × (digit_glyph false value ≡ d)

value_is : (d : ℕ) → IsDigit d → IsValueOf d (value_lane d)
value_is d h = go (ltb (lane_less d 48) (lane_less d 87)) refl
  where
    go : (t : Bool) → ltb (lane_less d 48) (lane_less d 87) ≡ t → IsValueOf d (cond (top 7 (cond t 255 0)) (lane_less d 48) (lane_less d 87))
    go true e = elim (digit_range d h) [
      | inl r ↦
          let is : lane_less d 48 ≡ d - 48 = omega (arith, r.0, r.1) in
          (omega (arith, is, r.1), ap (digit_glyph false) is ∙ low_glyph d r.0 r.1)
      | inr r ↦ absurd (omega (arith, ltb-true _ _ e, r.0, r.1))
    ]
    go false e = elim (digit_range d h) [
      | inl r ↦ absurd (omega (arith, ltb-false _ _ e, r.0, r.1))
      | inr r ↦
          let is : lane_less d 87 ≡ d - 87 = omega (arith, r.0, r.1) in
          (omega (arith, is, r.1), ap (digit_glyph false) is ∙ letter_glyph d r.0 r.1)
    ]

abbrev lane_values_of : ℕ → List ℕ → List ℕ
lane_values_of n ds =
    sel_l (map (top 7) (zip2 lane_below (zip2 lane_less ds (replicate n 48)) (zip2 lane_less ds (replicate n 87)))) (zip2 lane_less ds (replicate n 48)) (zip2 lane_less ds (replicate n 87))

values_length : (ds : List ℕ) → length (lane_values_of (length ds) ds) ≡ length ds
values_length [] = refl
values_length (d ∷ ds) = ap suc (values_length ds)

pub values_long : (n : ℕ) (ds : List ℕ) → length ds ≡ n → length (lane_values_of n ds) ≡ n
values_long n ds long = subst (λ (m : ℕ). length (lane_values_of m ds) ≡ m) long (values_length ds)

values_all : (ds : List ℕ) → AreDigits ds → (k : ℕ) → k < length ds → IsValueOf (get_or ds k 0) (get_or (lane_values_of (length ds) ds) k 0)
values_all [] all k within = absurd (omega arith)
values_all (d ∷ ds) all zero within = value_is d (all 0 (omega arith))
values_all (d ∷ ds) all (suc k) within = values_all ds (λ i h. all (suc i) (omega arith)) k (omega arith)

pub values_at : (n : ℕ) (ds : List ℕ) → length ds ≡ n → AreDigits ds → (k : ℕ) → k < n → IsValueOf (get_or ds k 0) (get_or (lane_values_of n ds) k 0)
values_at n ds long all k within =
    subst (λ (m : ℕ). IsValueOf (get_or ds k 0) (get_or (lane_values_of m ds) k 0)) long (values_all ds all k (omega arith))

-- ---- the bytes of two vectors of digits

pub joined_pair : (n : ℕ) (xs ys : List ℕ) (k high low : ℕ) → length xs ≡ n → length ys ≡ n → k < n
    → get_or xs k 0 < 16 → get_or ys k 0 < 16 → digit_glyph false (get_or xs k 0) ≡ high → digit_glyph false (get_or ys k 0) ≡ low
    → IsPair (get_or (zip2 lane_sum (zip2 lane_product xs (replicate n 16)) ys) k 0) high low
joined_pair n xs ys k high low long same within x y first second =
    let sixteens = length-replicate {A = ℕ} n 16 in
    let shifted : length (zip2 lane_product xs (replicate n 16)) ≡ length xs = length-zip2 lane_product xs (replicate n 16) (long ∙ sym sixteens) in
    let upper : get_or (zip2 lane_product xs (replicate n 16)) k 0 ≡ lane_product (get_or xs k 0) 16 =
    get_or-zip2 lane_product xs (replicate n 16) k 0 0 0 (omega arith) (omega (arith, sixteens))
    ∙ ap (λ (t : ℕ). lane_product (get_or xs k 0) t) (get_or-replicate {A = ℕ} n k 16 0 within) in
    let both : get_or (zip2 lane_sum (zip2 lane_product xs (replicate n 16)) ys) k 0 ≡ lane_sum (lane_product (get_or xs k 0) 16) (get_or ys k 0) =
    get_or-zip2 lane_sum (zip2 lane_product xs (replicate n 16)) ys k 0 0 0 (omega (arith, shifted)) (omega arith)
    ∙ ap (λ (t : ℕ). lane_sum t (get_or ys k 0)) upper in
    pair_of _ high low (get_or xs k 0) (get_or ys k 0) x y first second (omega (arith, both))

pub joined_length : (n : ℕ) (xs ys : List ℕ) → length xs ≡ n → length ys ≡ n → length (zip2 lane_sum (zip2 lane_product xs (replicate n 16)) ys) ≡ n
joined_length n xs ys long same =
    let sixteens = length-replicate {A = ℕ} n 16 in
    let shifted : length (zip2 lane_product xs (replicate n 16)) ≡ length xs = length-zip2 lane_product xs (replicate n 16) (long ∙ sym sixteens) in
    length-zip2 lane_sum (zip2 lane_product xs (replicate n 16)) ys (shifted ∙ long ∙ sym same) ∙ shifted ∙ long

-- ---- every other digit of a vector

abbrev pub seconds_from : ℕ → ℕ → List ℕ
seconds_from a zero = []
seconds_from a (suc n) = a ∷ seconds_from (a + 2) n

seconds_length : (a n : ℕ) → length (seconds_from a n) ≡ n
seconds_length a zero = refl
seconds_length a (suc n) = ap suc (seconds_length (a + 2) n)

second_at : (a n k : ℕ) → k < n → get_or (seconds_from a n) k 0 ≡ a + 2 * k
second_at a zero k within = absurd (omega arith)
second_at a (suc n) zero within = omega arith
second_at a (suc n) (suc k) within =
    let rest : get_or (seconds_from (a + 2) n) k 0 ≡ (a + 2) + 2 * k = second_at (a + 2) n k (omega arith) in
    omega arith

picked : (word : List ℕ) (size a n k : ℕ) → size ≤ length word → a + 2 * k < size → k < n
    → get_or (pick_l 0 (take size word ++ take size word) (seconds_from a n)) k 0 ≡ get_or word (a + 2 * k) 0
picked word size a n k room within few =
    let all = take size word in
    let long : length all ≡ size = length-chunk 0 size word (omega arith) in
    let place : 0 + (a + 2 * k) ≡ a + 2 * k = omega arith in
    get_or-map (λ (j : ℕ). get_or (all ++ all) j 0) (seconds_from a n) k 0 0 (omega (arith, seconds_length a n))
    ∙ ap (λ (j : ℕ). get_or (all ++ all) j 0) (second_at a n k few)
    ∙ get_or_append_left all all 0 (a + 2 * k) (omega (arith, long))
    ∙ get_or-chunk 0 size word (a + 2 * k) 0 within
    ∙ ap (λ (j : ℕ). get_or word j 0) place

pub picked_digits : (word : List ℕ) (size a n : ℕ) → length word ≡ size → a + 2 * n ≤ size + 1 → AreDigits word
    → AreDigits (pick_l 0 (take size word ++ take size word) (seconds_from a n))
picked_digits word size a n long fits all k within =
    let few : k < n = omega (arith, length-map (seconds_from a n) (λ (j : ℕ). get_or (take size word ++ take size word) j 0), seconds_length a n) in
    subst IsDigit (sym (picked word size a n k (omega arith) (omega arith) few)) (all (a + 2 * k) (omega arith))

-- a vector of bytes that is stored where there is room for it
pub vector_pairs : (n size : ℕ) (word old new : List ℕ) → size ≡ 2 * n → length word ≡ size → length old ≡ n → length new ≡ n
    → ((k : ℕ) → k < n → IsPair (get_or new k 0) (get_or (pick_l 0 (take size word ++ take size word) (seconds_from 0 n)) k 0) (get_or (pick_l 0 (take size word ++ take size word) (seconds_from 1 n)) k 0))
    → ArePairs (put_chunk 0 old new) word
vector_pairs n size word old new twice long room count pairs =
    subst (λ (l : List ℕ). ArePairs l word) (sym (put_chunk_whole old new (room ∙ sym count)))
    (pairs_at new word (omega arith) (λ k within.
    let few : k < n = omega arith in
    let here : 0 + 2 * k ≡ 2 * k = omega arith in
    let next : 1 + 2 * k ≡ 2 * k + 1 = omega arith in
    let p = pairs k few in (
      p.0,
      ap (λ (j : ℕ). get_or word j 0) (sym here) ∙ sym (picked word size 0 n k (omega arith) (omega arith) few) ∙ p.1,
      ap (λ (j : ℕ). get_or word j 0) (sym next) ∙ sym (picked word size 1 n k (omega arith) (omega arith) few) ∙ p.2,
    )))

-- ---- one part after the other

pub pairs_none : ArePairs [] []
pairs_none = (λ i. omega arith, refl)

bytes_append : (xs ys : List ℕ) → AreBytes xs → AreBytes ys → AreBytes (xs ++ ys)
bytes_append [] ys a b = b
bytes_append (x ∷ xs) ys a b = are_bytes_cons x (xs ++ ys) (a 0) (bytes_append xs ys (are_bytes_tail x xs a) b)

pub pairs_append : (xs ys u v : List ℕ) → ArePairs xs u → ArePairs ys v → ArePairs (xs ++ ys) (u ++ v)
pairs_append xs ys u v h g = (
  bytes_append xs ys h.0 g.0,
  ap₂ (λ (a b : List ℕ). a ++ b) h.1 g.1 ∙ sym (flat_map-append (λ b. digits 16 false (b / 16) ++ digits 16 false (b % 16)) xs ys),
)

pub pairs_step : (size at k m : ℕ) (p new word : List ℕ) → at + size ≤ length p → 2 * (at + size) ≤ length word → k ≡ size → m ≡ 2 * size
    → ArePairs (take at p) (take (2 * at) word) → ArePairs new (take m (drop (2 * at) word))
    → ArePairs (take (at + size) (put_mid at k p new)) (take (2 * (at + size)) word)
pairs_step size at k m p new word room enough part digits_part front back =
    let there : length (take m (drop (2 * at) word)) ≡ m = length-chunk (2 * at) m word (omega arith) in
    let count : length new ≡ size = omega (arith, pairs_even new (take m (drop (2 * at) word)) back) in
    let bytes : take (at + size) (put_mid at k p new) ≡ take at p ++ new = take-put_mid at k p new (at + size) (omega arith) (omega arith) in
    let place : 2 * (at + size) ≡ 2 * at + m = omega arith in
    let both : take (2 * (at + size)) word ≡ take (2 * at) word ++ take m (drop (2 * at) word) = ap (λ n. take n word) place ∙ take-add (2 * at) m word in
    subst (λ (l : List ℕ). ArePairs l (take (2 * (at + size)) word)) (sym bytes)
    (subst (λ (l : List ℕ). ArePairs (take at p ++ new) l) (sym both)
    (pairs_append (take at p) new (take (2 * at) word) (take m (drop (2 * at) word)) front back))

-- what is alike behind a place is alike behind a later one
pub left_further : (at to : ℕ) (p word : List ℕ) → at ≤ to → drop at p ≡ drop at word → drop to p ≡ drop to word
left_further at to p word later same =
    let place : at + (to - at) ≡ to = omega arith in
    ap (λ n. drop n p) (sym place) ∙ sym (drop-drop (to - at) at p) ∙ ap (λ (l : List ℕ). drop (to - at) l) same
    ∙ drop-drop (to - at) at word ∙ ap (λ n. drop n word) place

-- the rest behind what is done
pub pairs_done : (at k m : ℕ) (p new word : List ℕ) → at ≤ length p → k ≡ length p - at → m ≡ length word - 2 * at
    → ArePairs (take at p) (take (2 * at) word) → ArePairs new (take m (drop (2 * at) word)) → ArePairs (put_mid at k p new) word
pairs_done at k m p new word within size digits_part front back =
    let none : drop k (drop at p) ≡ [] = drop_all k (drop at p) (omega (arith, length-drop at p)) in
    let behind : take m (drop (2 * at) word) ≡ drop (2 * at) word = take_all m (drop (2 * at) word) (omega (arith, length-drop (2 * at) word)) in
    let whole : put_mid at k p new ≡ take at p ++ new =
    ap (λ (t : List ℕ). take at p ++ (new ++ t)) none ∙ ap (λ (t : List ℕ). take at p ++ t) (append-nil new) in
    subst (λ (l : List ℕ). ArePairs l word) (sym whole)
    (subst (λ (l : List ℕ). ArePairs (take at p ++ new) l) (ap (λ (t : List ℕ). take (2 * at) word ++ t) behind ∙ take-append-drop (2 * at) word)
    (pairs_append (take at p) new (take (2 * at) word) (take m (drop (2 * at) word)) front back))

pub rest_room : (at k m : ℕ) (p word : List ℕ) → at ≤ length p → k ≡ length p - at → m ≡ length word - 2 * at → length word ≡ 2 * length p
    → length (take m (drop (2 * at) word)) ≡ 2 * length (take k (drop at p))
rest_room at k m p word within size digits_part long =
    omega (arith, length-chunk (2 * at) m word (omega arith), length-chunk at k p (omega arith))
