-- Whether bytes are a text, or begin one, and whether a close code is allowed, can be told.
use Rattle.std.proofs.Common.{◌≡◌, ℕ, zero, suc, ◌<◌, ◌≤◌, ◌⊎◌, Bool, true, false, List, [], ◌∷◌, ◌++◌, length, take, drop, refl, sym, ap, ◌∙◌, arith, inl, inr, subst}
use Rattle.std.proofs.Math.Seq.{take-append_seam, drop-append_seam}
use Rattle.std.proofs.lemmas.Bool.{cases_lt, cases_eq}
use Rattle.std.proofs.lemmas.List.{length-append, append-nil, take-append-drop}
use Rattle.std.specs.Str.{is_utf8}
use Rattle.std.proofs.lemmas.Str.{IsUtf8-from_is_utf8, is_utf8-from_IsUtf8}
use Rattle.std.specs.Int.{IsInRange}
use Rattle.ws_text.specs.Text.{IsText, BeginsText, IsScalarValue, char_bytes, HasUnfinished}
use Rattle.ws_text.specs.Close.{CodeAllowed}
use Rattle.ws_text.proofs.Texts.{text_from_utf8, utf8_from_text, begins_of_unfinished, some_unfinished}

-- it holds or not
abbrev pub Told : Type 0 → Type 0
Told P = P ⊎ (P → ⊥)

pub both_told : (P Q : Type 0) → Told P → Told Q → Told (P × Q)
both_told P Q (inl p) (inl q) = inl (p, q)
both_told P Q (inl p) (inr never) = inr (λ h. never h.1)
both_told P Q (inr never) q = inr (λ h. never h.0)

pub either_told : (P Q : Type 0) → Told P → Told Q → Told (P ⊎ Q)
either_told P Q (inl p) q = inl (inl p)
either_told P Q (inr never) (inl q) = inl (inr q)
either_told P Q (inr never) (inr nor) = inr (λ h. elim h [ inl p ↦ never p | inr q ↦ nor q ])

pub less_told : (a b : ℕ) → Told (a < b)
less_told a b = elim (cases_lt a b) [ inl lt ↦ inl lt | inr le ↦ inr (λ lt. omega (arith, lt, le)) ]

pub most_told : (a b : ℕ) → Told (a ≤ b)
most_told a b = elim (cases_lt b a) [ inl lt ↦ inr (λ le. omega (arith, lt, le)) | inr le ↦ inl le ]

pub not_told : (P : Type 0) → Told P → Told (P → ⊥)
not_told P (inl p) = inr (λ never. never p)
not_told P (inr never) = inl never

pub told_by : (P Q : Type 0) → (P → Q) → (Q → P) → Told P → Told Q
told_by P Q to from (inl p) = inl (to p)
told_by P Q to from (inr never) = inr (λ q. never (from q))

-- the least of the numbers of which something holds, or none below a bound, where it can be told of each
pub least_told : (P : ℕ → Type 0) → ((i : ℕ) → Told (P i)) → (n : ℕ) → ((i : ℕ) × P i × ((j : ℕ) → P j → i ≤ j)) ⊎ ((i : ℕ) → i < n → P i → ⊥)
least_told P tell zero = inr (λ i lt p. omega (arith, lt))
least_told P tell (suc n) =
    elim (least_told P tell n) [
      | inl found ↦ inl found
      | inr none ↦ elim (tell n) [
        | inl p ↦ inl (n, p, λ j q. elim (cases_lt j n) [ inl lt ↦ absurd (none j lt q) | inr ge ↦ ge ])
        | inr never ↦ inr (λ i lt p. elim (cases_lt i n) [ inl l ↦ none i l p | inr ge ↦ let same : i ≡ n = omega arith in never (subst P same p) ])
      ]
    ]

-- ---- text

text_by : (b : Bool) (bytes : List ℕ) → is_utf8 bytes ≡ b → Told (IsText bytes)
text_by true bytes e = inl (text_from_utf8 bytes (IsUtf8-from_is_utf8 bytes e))
text_by false bytes e = inr (λ t. let both : true ≡ false = sym (is_utf8-from_IsUtf8 bytes (utf8_from_text bytes t)) ∙ e in absurd cc)

pub text_told : (bytes : List ℕ) → Told (IsText bytes)
text_told bytes = text_by (is_utf8 bytes) bytes refl

-- more bytes are missing
abbrev IsCut : List ℕ → List ℕ → Type 0
IsCut xs ys = (next : ℕ) × (more : List ℕ) × (xs ++ next ∷ more ≡ ys)

cut_told : (xs ys : List ℕ) → Told (IsCut xs ys)
cut_told [] [] = inr (λ h. let e = h.2 in absurd cc)
cut_told [] (y ∷ ys) = inl (y, ys, refl)
cut_told (x ∷ xs) [] = inr (λ h. let e = h.2 in absurd cc)
cut_told (x ∷ xs) (y ∷ ys) =
    elim (cases_eq x y) [
      | inr other ↦ inr (λ h. let e = h.2 in other cc)
      | inl same ↦ elim (cut_told xs ys) [
        | inl h ↦ inl (h.0, h.1, ap (λ n. n ∷ xs ++ h.0 ∷ h.1) same ∙ ap (λ (l : List ℕ). y ∷ l) h.2)
        | inr never ↦ inr (λ h. let e = h.2 in never (h.0, h.1, cc))
      ]
    ]

scalar_told : (c : ℕ) → Told (IsScalarValue c)
scalar_told c = either_told (c < 0xd800) ((0xdfff < c) × (c < 0x110000)) (less_told c 0xd800) (both_told (0xdfff < c) (c < 0x110000) (less_told 0xdfff c) (less_told c 0x110000))

scalar_below : (c : ℕ) → IsScalarValue c → c < 0x110000
scalar_below c (inl lt) = omega (arith, lt)
scalar_below c (inr h) = h.1

-- the bytes are a text of so many bytes and then a part of this character
abbrev IsCutAt : List ℕ → ℕ → ℕ → Type 0
IsCutAt bytes count c = IsText (take count bytes) × (IsScalarValue c × IsCut (drop count bytes) (char_bytes c))

begins_at : (bytes : List ℕ) (count c : ℕ) → IsCutAt bytes count c → BeginsText bytes
begins_at bytes count c h = begins_of_unfinished bytes (drop count bytes) (record {
  front = take count bytes;
  is_text = h.0;
  parts = sym (take-append-drop count bytes);
  unfinished = inr (c, record { scalar = h.1.0; next = h.1.1.0; more = h.1.1.1; missing = h.1.1.2 });
})

none_begins : (top : ℕ) (bytes : List ℕ) → ((c : ℕ) → IsScalarValue c → c < top) → (IsText bytes → ⊥) → ((count : ℕ) → count < suc (length bytes) → (c : ℕ) × IsCutAt bytes count c → ⊥) → (tail : List ℕ) → HasUnfinished bytes tail → ⊥
none_begins top bytes below never none tail u =
    elim u.unfinished [
      | inl whole ↦ never (subst (λ (l : List ℕ). IsText l) (sym (u.parts ∙ ap (λ (l : List ℕ). u.front ++ l) whole ∙ append-nil u.front)) u.is_text)
      | inr h ↦
          let front : take (length u.front) bytes ≡ u.front = ap (λ (l : List ℕ). take (length u.front) l) u.parts ∙ take-append_seam u.front tail in
          let back : drop (length u.front) bytes ≡ tail = ap (λ (l : List ℕ). drop (length u.front) l) u.parts ∙ drop-append_seam u.front tail in
          let within : length u.front < suc (length bytes) = omega (arith, ap (λ (l : List ℕ). length l) u.parts, length-append u.front tail) in
          none (length u.front) within (h.0, (subst (λ (l : List ℕ). IsText l) (sym front) u.is_text, (h.1.scalar, (h.1.next, h.1.more, ap (λ (l : List ℕ). l ++ h.1.next ∷ h.1.more) back ∙ h.1.missing))))
    ]

some_cut_told : (top : ℕ) (bytes : List ℕ) (count : ℕ) → ((c : ℕ) → IsScalarValue c → c < top) → Told ((c : ℕ) × IsCutAt bytes count c)
some_cut_told top bytes count below =
    elim (least_told (IsCutAt bytes count) (λ c. both_told (IsText (take count bytes)) (IsScalarValue c × IsCut (drop count bytes) (char_bytes c)) (text_told (take count bytes)) (both_told (IsScalarValue c) (IsCut (drop count bytes) (char_bytes c)) (scalar_told c) (cut_told (drop count bytes) (char_bytes c)))) top) [
      | inl found ↦ inl (found.0, found.1)
      | inr none ↦ inr (λ h. none h.0 (below h.0 h.1.1.0) h.1)
    ]

begins_by : (top : ℕ) (bytes : List ℕ) → ((c : ℕ) → IsScalarValue c → c < top) → Told (IsText bytes) → Told (BeginsText bytes)
begins_by top bytes below (inl t) = inl (record { more = []; is_text = subst (λ (l : List ℕ). IsText l) (sym (append-nil bytes)) t })
begins_by top bytes below (inr never) =
    elim (least_told (λ (count : ℕ). (c : ℕ) × IsCutAt bytes count c) (λ count. some_cut_told top bytes count below) (suc (length bytes))) [
      | inl found ↦ inl (begins_at bytes found.0 found.1.0 found.1.1)
      | inr none ↦ inr (λ b. let u = some_unfinished bytes b in none_begins top bytes below never none u.0 u.1)
    ]

pub begins_told : (bytes : List ℕ) → Told (BeginsText bytes)
begins_told bytes = begins_by 0x110000 bytes scalar_below (text_told bytes)

-- ---- close codes

range_told : (low high c : ℕ) → Told (IsInRange low high c)
range_told low high c = both_told (low ≤ c) (c ≤ high) (most_told low c) (most_told c high)

pub code_told : (c : ℕ) → Told (CodeAllowed c)
code_told c = either_told (IsInRange 1000 1003 c) (IsInRange 1007 1014 c ⊎ IsInRange 3000 4999 c) (range_told 1000 1003 c) (either_told (IsInRange 1007 1014 c) (IsInRange 3000 4999 c) (range_told 1007 1014 c) (range_told 3000 4999 c))
