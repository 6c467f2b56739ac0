-- Bytes and the pairs of hexadecimal digits that spell them.
use Rattle.std.proofs.Common.{◌≡◌, ◌≢◌, ◌∙◌, ℕ, zero, suc, ◌+◌, ◌*◌, ◌-◌, ◌/◌, ◌%◌, ◌<◌, ◌≤◌, false, List, [], ◌∷◌, ◌++◌, length, ap, ap₂, sym, refl, arith, codes, if◌then◌else◌, nat_lt, slice_index}
use Rattle.std.proofs.Math.Nat.{div-eq_of_lt, mod-eq_of_lt, div-add-mod}
use Rattle.std.proofs.lemmas.Bool.Decides.{nat_tests}
use Rattle.std.specs.Fmt.{digits, digit_glyph}
use Rattle.ws_formats.specs.Words.{IsHexWord, IsKeyWord, hex}
use Rattle.ws_base.specs.Bytes.{AreBytes}
use Rattle.ws_formats.specs.Reading.{ArePairs, IsPair}

-- a number below sixteen is one digit
pub digit_one : (d : ℕ) → d < 16 → digits 16 false d ≡ digit_glyph false d ∷ []
unfolding digits
digit_one d small = rw (div-eq_of_lt {n = d} {m = 16} small, mod-eq_of_lt {n = d} {m = 16} small) refl

-- the two digits of a byte
abbrev pub high_of : ℕ → ℕ
high_of byte = digit_glyph false (byte / 16)

abbrev pub low_of : ℕ → ℕ
low_of byte = digit_glyph false (byte % 16)

pub hex_cons : (byte : ℕ) (bytes : List ℕ) → byte < 256 → hex (byte ∷ bytes) ≡ high_of byte ∷ low_of byte ∷ hex bytes
hex_cons byte bytes small =
    let high : byte / 16 < 16 = omega arith in
    let low : byte % 16 < 16 = omega arith in
    ap (λ (l : List ℕ). (l ++ digits 16 false (byte % 16)) ++ hex bytes) (digit_one (byte / 16) high)
    ∙ ap (λ (l : List ℕ). ((high_of byte ∷ []) ++ l) ++ hex bytes) (digit_one (byte % 16) low)

-- the value of a digit
abbrev pub value_of : ℕ → ℕ
value_of digit = if nat_lt digit 58 then digit - 48 else digit - 87

pub glyph_value : (d : ℕ) → d < 16 → value_of (digit_glyph false d) ≡ d
glyph_value d small = grind (arith, nat_tests)

-- a digit stands behind the comma and the dash
pub glyph_above : (d : ℕ) → 47 < digit_glyph false d
glyph_above d = grind (arith, nat_tests)

-- the digits tell the byte
pub same_byte : (x y : ℕ) → x < 256 → y < 256 → high_of x ≡ high_of y → low_of x ≡ low_of y → x ≡ y
same_byte x y small less high low =
    let first : x / 16 ≡ y / 16 = sym (glyph_value (x / 16) (omega arith)) ∙ ap value_of high ∙ glyph_value (y / 16) (omega arith) in
    let second : x % 16 ≡ y % 16 = sym (glyph_value (x % 16) (omega arith)) ∙ ap value_of low ∙ glyph_value (y % 16) (omega arith) in
    sym (div-add-mod x 16) ∙ ap₂ (λ (a b : ℕ). 16 * a + b) first second ∙ div-add-mod y 16

-- ---- lists of bytes

pub are_bytes_tail : (byte : ℕ) (bytes : List ℕ) → AreBytes (byte ∷ bytes) → AreBytes bytes
are_bytes_tail byte bytes all i = all (suc i)

pub are_bytes_cons : (byte : ℕ) (bytes : List ℕ) → byte < 256 → AreBytes bytes → AreBytes (byte ∷ bytes)
are_bytes_cons byte bytes small all zero = small
are_bytes_cons byte bytes small all (suc i) = all i

-- the text tells the bytes
pub same_bytes : (xs ys : List ℕ) → AreBytes xs → AreBytes ys → hex xs ≡ hex ys → xs ≡ ys
same_bytes [] [] a b e = refl
same_bytes [] (y ∷ ys) a b e = absurd (omega (arith, ap (λ (l : List ℕ). length l) (e ∙ hex_cons y ys (b 0))))
same_bytes (x ∷ xs) [] a b e = absurd (omega (arith, ap (λ (l : List ℕ). length l) (sym e ∙ hex_cons x xs (a 0))))
same_bytes (x ∷ xs) (y ∷ ys) a b e =
    let same : high_of x ∷ low_of x ∷ hex xs ≡ high_of y ∷ low_of y ∷ hex ys = sym (hex_cons x xs (a 0)) ∙ e ∙ hex_cons y ys (b 0) in
    let head : x ≡ y = same_byte x y (a 0) (b 0) (ap (λ (l : List ℕ). slice_index l 0) same) (ap (λ (l : List ℕ). slice_index l 1) same) in
    let rest : hex xs ≡ hex ys = cc in
    ap₂ (λ (z : ℕ) (zs : List ℕ). z ∷ zs) head (same_bytes xs ys (are_bytes_tail x xs a) (are_bytes_tail y ys b) rest)

-- ---- words

-- a word of pairs is no dash
pub pairs_no_dash : (bytes : List ℕ) → AreBytes bytes → hex bytes ≢ codes "-"
pairs_no_dash [] all e = absurd (omega (arith, ap (λ (l : List ℕ). length l) e))
pairs_no_dash (byte ∷ more) all e = absurd (omega (arith, ap (λ (l : List ℕ). length l) (sym (hex_cons byte more (all 0)) ∙ e)))

pub hex_of_pairs : (bytes word : List ℕ) → ArePairs bytes word → 0 < length word → IsHexWord bytes word
hex_of_pairs [] word h there = absurd (omega (arith, ap (λ (l : List ℕ). length l) h.1))
hex_of_pairs (byte ∷ more) word h there = h

pub pairs_of_hex : (bytes word : List ℕ) → IsHexWord bytes word → word ≢ codes "-" → ArePairs bytes word
pairs_of_hex [] word h dash = absurd (dash h.1)
pairs_of_hex (byte ∷ more) word h dash = h

pub hex_there : (bytes word : List ℕ) → IsHexWord bytes word → 0 < length word
hex_there [] word h = omega (arith, ap (λ (l : List ℕ). length l) h.1)
hex_there (byte ∷ more) word h = omega (arith, ap (λ (l : List ℕ). length l) (h.1 ∙ hex_cons byte more (h.0 0)))

-- a word spells one list of bytes
pub hex_one : (xs ys word : List ℕ) → IsHexWord xs word → IsHexWord ys word → xs ≡ ys
hex_one [] [] word a b = refl
hex_one [] (y ∷ ys) word a b = absurd (pairs_no_dash (y ∷ ys) b.0 (sym b.1 ∙ a.1))
hex_one (x ∷ xs) [] word a b = absurd (pairs_no_dash (x ∷ xs) a.0 (sym a.1 ∙ b.1))
hex_one (x ∷ xs) (y ∷ ys) word a b = same_bytes (x ∷ xs) (y ∷ ys) a.0 b.0 (sym a.1 ∙ b.1)

-- ---- places

-- the place of the pair of a byte
abbrev pub twice : ℕ → ℕ
twice zero = zero
twice (suc i) = suc (suc (twice i))

pub pairs_cons : (byte high low : ℕ) (bytes after : List ℕ) → IsPair byte high low → ArePairs bytes after → ArePairs (byte ∷ bytes) (high ∷ low ∷ after)
pairs_cons byte high low bytes after p h = (
  are_bytes_cons byte bytes p.0 h.0,
  ap₂ (λ (a b : ℕ). a ∷ b ∷ after) p.1 p.2 ∙ ap (λ (l : List ℕ). high_of byte ∷ low_of byte ∷ l) h.1 ∙ sym (hex_cons byte bytes p.0),
)

-- pairs at all places spell the bytes
pub pairs_from : (bytes word : List ℕ) → length word ≡ twice (length bytes)
    → ((i : ℕ) → i < length bytes → IsPair (slice_index bytes i) (slice_index word (twice i)) (slice_index word (suc (twice i)))) → ArePairs bytes word
pairs_from [] [] len at = (λ i. omega arith, refl)
pairs_from [] (x ∷ word) len at = absurd (omega arith)
pairs_from (byte ∷ bytes) [] len at = absurd (omega arith)
pairs_from (byte ∷ bytes) (x ∷ []) len at = absurd (omega arith)
pairs_from (byte ∷ bytes) (x ∷ y ∷ word) len at = pairs_cons byte x y bytes word (at 0 (omega arith)) (pairs_from bytes word (omega arith) (λ i less. at (suc i) (omega arith)))

pub pairs_length : (bytes word : List ℕ) → ArePairs bytes word → length word ≡ twice (length bytes)
pairs_length [] word h = ap (λ (l : List ℕ). length l) h.1
pairs_length (byte ∷ more) word h =
    let same : length word ≡ suc (suc (length (hex more))) = ap (λ (l : List ℕ). length l) (h.1 ∙ hex_cons byte more (h.0 0)) in
    let rest : length (hex more) ≡ twice (length more) = pairs_length more (hex more) (are_bytes_tail byte more h.0, refl) in
    omega arith

-- ---- keys

-- a key is spelled in pairs
pub key_length : (key word : List ℕ) → IsKeyWord key word → length word ≡ 8
key_length key word h = pairs_length key word (h.0.1, h.1) ∙ ap (λ (n : ℕ). twice n) h.0.0

-- ---- lengths

twice_more : (n : ℕ) → n ≤ twice n
twice_more zero = omega arith
twice_more (suc n) = let less = twice_more n in omega arith

pub no_shorter : (bytes word : List ℕ) → IsHexWord bytes word → length bytes ≤ length word
no_shorter [] word h = omega arith
no_shorter (byte ∷ more) word h =
    let less = twice_more (length (byte ∷ more)) in
    omega (arith, pairs_length (byte ∷ more) word h)
