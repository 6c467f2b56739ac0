-- The digits of sixteen bytes, lane by lane, and those of more bytes, part by part.
use Rattle.std.proofs.Common.{◌≡◌, ℕ, zero, suc, ◌+◌, ◌*◌, ◌-◌, ◌/◌, ◌%◌, ◌^◌, ◌<◌, ◌≤◌, Bool, true, false, ◌&&◌, T, eqb, List, [], ◌∷◌, ◌++◌, length, get_or, take, drop, replicate}
use Rattle.std.proofs.Common.{bit_and, Fits, w8, refl, sym, ap, subst, ◌∙◌, inl, inr, arith, append-nil, eq-zero-or-pos, eqb→eq, take-add}
use Rattle.std.specs.Fmt.{digit_glyph}
use Rattle.std.proofs.lemmas.List.{drop_all, drop_more, length-drop, take-append-drop, take_all}
use Rattle.std.proofs.Math.Seq.{take-append_seam}
use Rattle.std.proofs.lemmas.Nat.{and_mask}
use Rattle.std.proofs.lemmas.Simd.{get_or-zip2, get_or-replicate, length-chunk}
use Rattle.std.proofs.lemmas.Slice.{take-put_mid}
use borrow.Rule.Slice.PartMut.{put_mid}
use lib.Ieee.Fits.{and_l, and_r}
use lib.Lanes.{zip2, Each1, pick_l}
use Rattle.ws_base.specs.Bytes.{AreBytes}
use Rattle.ws_formats.specs.Reading.{ArePairs}
use Rattle.ws_formats.specs.Words.{hex}
use Rattle.ws_formats.specs.declared.digits.TheConstants.{DIGITS}
use Rattle.ws_formats.proofs.HexLanes.{pairs_append}
use Rattle.ws_formats.proofs.HexReads.{pairs_even}
use Rattle.ws_formats.proofs.HexWords.{hex_cons}

-- ---- the table of digits, entry by entry

abbrev are_glyphs : ℕ → Bool
are_glyphs zero = true
are_glyphs (suc n) = eqb (get_or DIGITS n 0) (digit_glyph false n) && are_glyphs n

below : (n h : ℕ) → T (are_glyphs n) → h < n → get_or DIGITS h 0 ≡ digit_glyph false h
below zero h t lt = absurd (omega arith)
below (suc n) h t lt =
    elim (eq-zero-or-pos (n - h)) [
      | inl z ↦ let e : h ≡ n = omega arith in rw e (eqb→eq _ _ (and_l _ (are_glyphs n) t))
      | inr g ↦ below n h (and_r _ (are_glyphs n) t) (omega arith)
    ]

pub glyph_at : (h : ℕ) → h < 16 → get_or DIGITS h 0 ≡ digit_glyph false h
glyph_at h lt = below 16 h tt lt

-- ---- the halves of bytes

pub all_bytes : (v : List ℕ) → Each1 (Fits w8) v → (i : ℕ) → get_or v i 0 < 256
all_bytes [] h i = omega arith
all_bytes (x ∷ xs) h zero = h.0.fits
all_bytes (x ∷ xs) h (suc i) = all_bytes xs h.1 i

abbrev pub shifted_by : ℕ → ℕ → ℕ
shifted_by a b = a / 2 ^ b

pub high_at : (v : List ℕ) (i : ℕ) → length v ≡ 16 → i < 16 → get_or (zip2 shifted_by v (replicate 16 4)) i 0 ≡ get_or v i 0 / 16
high_at v i long lt = get_or-zip2 shifted_by v (replicate 16 4) i 0 0 0 (omega (arith, long)) lt ∙ ap (λ k. shifted_by (get_or v i 0) k) (get_or-replicate 16 i 4 0 lt)

pub low_at : (v : List ℕ) (i : ℕ) → length v ≡ 16 → i < 16 → get_or (zip2 bit_and v (replicate 16 15)) i 0 ≡ get_or v i 0 % 16
low_at v i long lt =
    get_or-zip2 bit_and v (replicate 16 15) i 0 0 0 (omega (arith, long)) lt
    ∙ ap (λ k. bit_and (get_or v i 0) k) (get_or-replicate 16 i 15 0 lt) ∙ and_mask (get_or v i 0) 4

-- ---- high and low digits by turns

-- so many places from this one on, each with the one that stands sixteen behind it
abbrev pub by_turns : ℕ → ℕ → List ℕ
by_turns a zero = []
by_turns a (suc n) = a ∷ (a + 16) ∷ by_turns (a + 1) n

pub woven : (a n : ℕ) (xs bytes : List ℕ) → a + n ≤ length bytes → ((i : ℕ) → get_or bytes i 0 < 256)
    → ((i : ℕ) → i < length bytes → get_or xs i 0 ≡ digit_glyph false (get_or bytes i 0 / 16))
    → ((i : ℕ) → i < length bytes → get_or xs (i + 16) 0 ≡ digit_glyph false (get_or bytes i 0 % 16))
    → pick_l 0 xs (by_turns a n) ≡ hex (take n (drop a bytes))
woven a zero xs bytes within small high low = refl
woven a (suc n) xs bytes within small high low =
    let b = get_or bytes a 0 in
    let lt : a < length bytes = omega (arith, within) in
    let rest = drop (a + 1) bytes in
    let here : drop a bytes ≡ b ∷ rest = drop_more bytes a 0 lt in
    let more : pick_l 0 xs (by_turns (a + 1) n) ≡ hex (take n rest) = woven (a + 1) n xs bytes (omega (arith, within)) small high low in
    ap (λ k. k ∷ get_or xs (a + 16) 0 ∷ pick_l 0 xs (by_turns (a + 1) n)) (high a lt)
    ∙ ap (λ k. digit_glyph false (b / 16) ∷ k ∷ pick_l 0 xs (by_turns (a + 1) n)) (low a lt)
    ∙ ap (λ (t : List ℕ). digit_glyph false (b / 16) ∷ digit_glyph false (b % 16) ∷ t) more
    ∙ sym (hex_cons b (take n rest) (small a))
    ∙ sym (ap (λ (t : List ℕ). hex (take (suc n) t)) here)

-- ---- the front of a block

-- the digits of the first bytes are the front of the digits of all
take-hex : (n : ℕ) (bytes : List ℕ) → AreBytes bytes → take (2 * n) (hex bytes) ≡ hex (take n bytes)
take-hex zero bytes small = refl
take-hex (suc n) [] small = let two : 2 * suc n ≡ suc (suc (2 * n)) = omega arith in ap (λ k. take k (hex [])) two
take-hex (suc n) (b ∷ bytes) small =
    let two : 2 * suc n ≡ suc (suc (2 * n)) = omega arith in
    let more : take (2 * n) (hex bytes) ≡ hex (take n bytes) = take-hex n bytes (λ i. small (suc i)) in
    ap (λ k. take k (hex (b ∷ bytes))) two
    ∙ ap (λ (t : List ℕ). take (suc (suc (2 * n))) t) (hex_cons b bytes (small 0))
    ∙ ap (λ (t : List ℕ). digit_glyph false (b / 16) ∷ digit_glyph false (b % 16) ∷ t) more
    ∙ sym (hex_cons b (take n bytes) (small 0))

-- the front of digits that are those of some bytes
pub hex_front : (n : ℕ) (word bytes : List ℕ) → ArePairs bytes word → take (2 * n) word ≡ hex (take n bytes)
hex_front n word bytes h = ap (λ (t : List ℕ). take (2 * n) t) h.1 ∙ take-hex n bytes h.0

-- what is put of the digits of a block that begins with the bytes
pub last_digits : (n : ℕ) (bytes new rest word put : List ℕ) → n ≡ length bytes → new ≡ bytes → ArePairs (new ++ rest) word → put ≡ take (2 * n) word
    → put ≡ hex bytes
last_digits n bytes new rest word put long same pairs is =
    let count : n ≡ length new = long ∙ ap (λ (t : List ℕ). length t) (sym same) in
    is ∙ hex_front n word (new ++ rest) pairs ∙ ap hex (ap (λ k. take k (new ++ rest)) count ∙ take-append_seam new rest ∙ same)

-- ---- one part after the other

-- the digits of sixteen bytes more
pub digits_step : (at k m : ℕ) (p new bytes : List ℕ) → at + 16 ≤ length bytes → length p ≡ 2 * length bytes → k ≡ 16 → m ≡ 32
    → ArePairs (take at bytes) (take (2 * at) p) → ArePairs (take k (drop at bytes)) new
    → ArePairs (take (at + 16) bytes) (take (2 * (at + 16)) (put_mid (2 * at) m p new))
digits_step at k m p new bytes within room few many front back =
    let there : length (take k (drop at bytes)) ≡ k = length-chunk at k bytes (omega arith) in
    let count : length new ≡ 32 = omega (arith, pairs_even (take k (drop at bytes)) new back) in
    let digits : take (2 * (at + 16)) (put_mid (2 * at) m p new) ≡ take (2 * at) p ++ new =
    take-put_mid (2 * at) m p new (2 * (at + 16)) (omega arith) (omega arith) in
    let place : at + 16 ≡ at + k = omega arith in
    let both : take (at + 16) bytes ≡ take at bytes ++ take k (drop at bytes) = ap (λ n. take n bytes) place ∙ take-add at k bytes in
    subst (λ (l : List ℕ). ArePairs (take (at + 16) bytes) l) (sym digits)
    (subst (λ (l : List ℕ). ArePairs l (take (2 * at) p ++ new)) (sym both)
    (pairs_append (take at bytes) (take k (drop at bytes)) (take (2 * at) p) new front back))

-- the digits of the rest behind what is done
pub digits_done : (at k m : ℕ) (p new bytes : List ℕ) → at ≤ length bytes → length p ≡ 2 * length bytes → k ≡ length bytes - at → m ≡ length p - 2 * at
    → ArePairs (take at bytes) (take (2 * at) p) → ArePairs (take k (drop at bytes)) new → ArePairs bytes (put_mid (2 * at) m p new)
digits_done at k m p new bytes within room few many front back =
    let none : drop m (drop (2 * at) p) ≡ [] = drop_all m (drop (2 * at) p) (omega (arith, length-drop (2 * at) p)) in
    let behind : take k (drop at bytes) ≡ drop at bytes = take_all k (drop at bytes) (omega (arith, length-drop at bytes)) in
    let whole : put_mid (2 * at) m p new ≡ take (2 * at) p ++ new =
    ap (λ (t : List ℕ). take (2 * at) p ++ (new ++ t)) none ∙ ap (λ (t : List ℕ). take (2 * at) p ++ t) (append-nil new) in
    subst (λ (l : List ℕ). ArePairs bytes l) (sym whole)
    (subst (λ (l : List ℕ). ArePairs l (take (2 * at) p ++ new)) (ap (λ (t : List ℕ). take at bytes ++ t) behind ∙ take-append-drop at bytes)
    (pairs_append (take at bytes) (take k (drop at bytes)) (take (2 * at) p) new front back))
