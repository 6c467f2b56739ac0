-- The bytes of one character, and what begins one: Table 3-7 of the Unicode standard, from the formulas.
use Rattle.std.proofs.Common.{◌≡◌, ℕ, ◌+◌, ◌-◌, ◌*◌, ◌/◌, ◌%◌, ◌<◌, ◌≤◌, ◌⊎◌, List, [], ◌∷◌, ◌++◌, refl, sym, ◌∙◌, arith, inl, inr, subst}
use Rattle.std.specs.Int.{IsInRange}
use Rattle.std.proofs.lemmas.Bool.{cases_lt, lt-ltb, le-ltb}
use Rattle.ws_text.specs.InnerStep.{IsCharacter, BeginsCharacter}
use Rattle.ws_text.specs.Text.{char_bytes, IsScalarValue, low_six}

-- ---- the formulas by size

pub one_byte : (c : ℕ) → c < 128 → char_bytes c ≡ c ∷ []
unfolding char_bytes
one_byte c h = rw (lt-ltb c 128 h) refl

pub two_bytes : (c : ℕ) → 128 ≤ c → c < 2048 → char_bytes c ≡ (192 + c / 64) ∷ low_six c ∷ []
unfolding char_bytes
two_bytes c a h = rw (le-ltb c 128 a, lt-ltb c 2048 h) refl

pub three_bytes : (c : ℕ) → 2048 ≤ c → c < 65536 → char_bytes c ≡ (224 + c / 4096) ∷ low_six (c / 64) ∷ low_six c ∷ []
unfolding char_bytes
three_bytes c b h = let a : 128 ≤ c = omega arith in rw (le-ltb c 128 a, le-ltb c 2048 b, lt-ltb c 65536 h) refl

pub four_bytes : (c : ℕ) → 65536 ≤ c → char_bytes c ≡ (240 + c / 262144) ∷ low_six (c / 4096) ∷ low_six (c / 64) ∷ low_six c ∷ []
unfolding char_bytes
four_bytes c h =
    let a : 128 ≤ c = omega arith in
    let b : 2048 ≤ c = omega arith in
    rw (le-ltb c 128 a, le-ltb c 2048 b, le-ltb c 65536 h) refl

-- ---- the bytes by their place

-- a byte that is not the first of its character
pub record IsLater (b : ℕ) : Type 0 where
  pub low : 128 ≤ b
  pub high : b ≤ 191

pub later_in_range : (b : ℕ) → IsLater b → IsInRange 0x80 0xbf b
later_in_range b h = (h.low, h.high)

pub in_range_later : (b : ℕ) → IsInRange 0x80 0xbf b → IsLater b
in_range_later b h = record { low = h.0; high = h.1 }

-- the second byte of a character of three or four: no longer than needed, no surrogate, and not past the last
pub record IsSecond (a b : ℕ) : Type 0 where
  pub later : IsLater b
  pub e0 : a ≡ 224 → 160 ≤ b
  pub ed : a ≡ 237 → b ≤ 159
  pub f0 : a ≡ 240 → 144 ≤ b
  pub f4 : a ≡ 244 → b ≤ 143

-- the bytes of one character, and the same with any bytes behind them
pub data Shape : List ℕ → List ℕ → Type 0 where
  shape_1 : {a : ℕ} {rest : List ℕ} → a < 128 → Shape (a ∷ []) (a ∷ rest)
  shape_2 : {a b : ℕ} {rest : List ℕ} → 194 ≤ a → a ≤ 223 → IsLater b → Shape (a ∷ b ∷ []) (a ∷ b ∷ rest)
  shape_3 : {a b d : ℕ} {rest : List ℕ} → 224 ≤ a → a ≤ 239 → IsSecond a b → IsLater d → Shape (a ∷ b ∷ d ∷ []) (a ∷ b ∷ d ∷ rest)
  shape_4 : {a b d e : ℕ} {rest : List ℕ} → 240 ≤ a → a ≤ 244 → IsSecond a b → IsLater d → IsLater e → Shape (a ∷ b ∷ d ∷ e ∷ []) (a ∷ b ∷ d ∷ e ∷ rest)

below_top : (c : ℕ) → IsScalarValue c → c < 0x110000
below_top c (inl h) = omega arith
below_top c (inr h) = h.1

second_of_three : (c : ℕ) → IsScalarValue c → 2048 ≤ c → c < 65536 → IsSecond (224 + c / 4096) (128 + (c / 64) % 64)
second_of_three c s low high = record {
  later = record { low = omega arith; high = omega arith };
  e0 = λ e. omega arith;
  ed = λ e. elim s [ inl h ↦ omega arith | inr h ↦ absurd (omega (arith, h.0)) ];
  f0 = λ e. absurd (omega arith);
  f4 = λ e. absurd (omega arith);
}

second_of_four : (c : ℕ) → IsScalarValue c → 65536 ≤ c → IsSecond (240 + c / 262144) (128 + (c / 4096) % 64)
second_of_four c s low = record {
  later = record { low = omega arith; high = omega arith };
  e0 = λ e. absurd (omega arith);
  ed = λ e. absurd (omega arith);
  f0 = λ e. omega arith;
  f4 = λ e. omega (arith, below_top c s);
}

low_six_later : (n : ℕ) → IsLater (low_six n)
low_six_later n = record { low = omega arith; high = omega arith }

pub shape_of : (c : ℕ) (rest : List ℕ) → IsScalarValue c → Shape (char_bytes c) (char_bytes c ++ rest)
shape_of c rest s =
    elim (cases_lt c 128) [
      | inl one ↦ subst (λ (l : List ℕ). Shape l (l ++ rest)) (sym (one_byte c one)) (shape_1 one)
      | inr a ↦ elim (cases_lt c 2048) [
        | inl two ↦ subst (λ (l : List ℕ). Shape l (l ++ rest)) (sym (two_bytes c a two)) (shape_2 (omega arith) (omega arith) (low_six_later c))
        | inr b ↦ elim (cases_lt c 65536) [
          | inl three ↦ subst (λ (l : List ℕ). Shape l (l ++ rest)) (sym (three_bytes c b three)) (shape_3 (omega arith) (omega arith) (second_of_three c s b three) (low_six_later c))
          | inr four ↦ subst (λ (l : List ℕ). Shape l (l ++ rest)) (sym (four_bytes c four)) (shape_4 (omega arith) (omega (arith, below_top c s)) (second_of_four c s four) (low_six_later (c / 64)) (low_six_later c))
        ]
      ]
    ]

-- ---- and back: bytes of such a shape are a character

cells_2 : (a b x y : ℕ) → a ≡ x → b ≡ y → ◌≡◌ {A = List ℕ} (a ∷ b ∷ []) (x ∷ y ∷ [])
cells_2 a b x y p q = cc

cells_3 : (a b d x y z : ℕ) → a ≡ x → b ≡ y → d ≡ z → ◌≡◌ {A = List ℕ} (a ∷ b ∷ d ∷ []) (x ∷ y ∷ z ∷ [])
cells_3 a b d x y z p q r = cc

cells_4 : (a b d e x y z w : ℕ) → a ≡ x → b ≡ y → d ≡ z → e ≡ w → ◌≡◌ {A = List ℕ} (a ∷ b ∷ d ∷ e ∷ []) (x ∷ y ∷ z ∷ w ∷ [])
cells_4 a b d e x y z w p q r s = cc

pub character_1 : (a : ℕ) → a < 128 → IsCharacter a (a ∷ [])
character_1 a h = record { scalar = inl (omega arith); spelled = sym (one_byte a h) }

pub character_2 : (a b : ℕ) → 194 ≤ a → a ≤ 223 → IsLater b → IsCharacter ((a - 192) * 64 + (b - 128)) (a ∷ b ∷ [])
character_2 a b la ha later =
    let c = (a - 192) * 64 + (b - 128) in
    let is_b = later.low in
    let top_b = later.high in
    record {
      scalar = inl (omega arith);
      spelled = cells_2 a b (192 + c / 64) (128 + c % 64) (omega arith) (omega arith) ∙ sym (two_bytes c (omega arith) (omega arith));
    }

pub character_3 : (a b d : ℕ) → 224 ≤ a → a ≤ 239 → IsSecond a b → IsLater d → IsCharacter ((a - 224) * 4096 + ((b - 128) * 64 + (d - 128))) (a ∷ b ∷ d ∷ [])
character_3 a b d la ha s l =
    let c = (a - 224) * 4096 + ((b - 128) * 64 + (d - 128)) in
    let low : 2048 ≤ c = elim (cases_lt a 225) [ inl h ↦ omega (arith, s.e0, s.later.low, l.low) | inr h ↦ omega (arith, s.later.low, l.low) ] in
    let top : c < 65536 = omega (arith, s.later.low, s.later.high, l.low, l.high) in
    let scalar : IsScalarValue c = elim (cases_lt a 237) [
      | inl h ↦ inl (omega (arith, s.later.low, s.later.high, l.low, l.high))
      | inr h ↦ elim (cases_lt a 238) [ inl k ↦ inl (omega (arith, s.ed, s.later.low, l.low, l.high)) | inr k ↦ inr (omega (arith, s.later.low, l.low), omega (arith, s.later.high, s.later.low, l.low, l.high)) ]
    ] in
    record {
      scalar = scalar;
      spelled = cells_3 a b d (224 + c / 4096) (128 + (c / 64) % 64) (128 + c % 64) (omega (arith, s.later.low, s.later.high, l.low, l.high)) (omega (arith, s.later.low, s.later.high, l.low, l.high)) (omega (arith, s.later.low, s.later.high, l.low, l.high)) ∙ sym (three_bytes c low top);
    }

pub character_4 : (a b d e : ℕ) → 240 ≤ a → a ≤ 244 → IsSecond a b → IsLater d → IsLater e → IsCharacter ((a - 240) * 262144 + ((b - 128) * 4096 + ((d - 128) * 64 + (e - 128)))) (a ∷ b ∷ d ∷ e ∷ [])
character_4 a b d e la ha s l m =
    let c = (a - 240) * 262144 + ((b - 128) * 4096 + ((d - 128) * 64 + (e - 128))) in
    let low : 65536 ≤ c = elim (cases_lt a 241) [ inl h ↦ omega (arith, s.f0, s.later.low, l.low, m.low) | inr h ↦ omega (arith, s.later.low, l.low, m.low) ] in
    let top : c < 0x110000 = elim (cases_lt a 244) [ inl h ↦ omega (arith, s.later.low, s.later.high, l.low, l.high, m.low, m.high) | inr h ↦ omega (arith, s.f4, s.later.low, l.low, l.high, m.low, m.high) ] in
    record {
      scalar = inr (omega arith, top);
      spelled = cells_4 a b d e (240 + c / 262144) (128 + (c / 4096) % 64) (128 + (c / 64) % 64) (128 + c % 64) (omega (arith, s.later.low, s.later.high, l.low, l.high, m.low, m.high)) (omega (arith, s.later.low, s.later.high, l.low, l.high, m.low, m.high)) (omega (arith, s.later.low, s.later.high, l.low, l.high, m.low, m.high)) (omega (arith, s.later.low, s.later.high, l.low, l.high, m.low, m.high)) ∙ sym (four_bytes c low);
    }

-- ---- bytes that begin no character

-- what begins a character has a shape
begun_shape : (bytes : List ℕ) (h : BeginsCharacter bytes) → Shape (char_bytes h.c) (bytes ++ h.more)
begun_shape bytes h = subst (λ (l : List ℕ). Shape (char_bytes h.c) l) (sym h.parts) (shape_of h.c h.rest h.scalar)

no_first : {bytes : List ℕ} (b : ℕ) (more : List ℕ) → 128 ≤ b → (b < 194) ⊎ (244 < b) → Shape bytes (b ∷ more) → ⊥
no_first b more h r (shape_1 a) = omega arith
no_first b more h (inl r) (shape_2 l u x) = omega arith
no_first b more h (inr r) (shape_2 l u x) = omega arith
no_first b more h (inl r) (shape_3 l u s x) = omega arith
no_first b more h (inr r) (shape_3 l u s x) = omega arith
no_first b more h (inl r) (shape_4 l u s x y) = omega arith
no_first b more h (inr r) (shape_4 l u s x y) = omega arith

pub not_first : (b : ℕ) → 128 ≤ b → (b < 194) ⊎ (244 < b) → ¬ BeginsCharacter (b ∷ [])
not_first b h r begun = no_first b begun.more h r (begun_shape (b ∷ []) begun)

-- after a first byte of at most 223 each later byte may stand
second_of_two : (a b : ℕ) → a ≤ 223 → IsLater b → IsSecond a b
second_of_two a b h l = record { later = l; e0 = λ e. absurd (omega arith); ed = λ e. absurd (omega arith); f0 = λ e. absurd (omega arith); f4 = λ e. absurd (omega arith) }

second_in : {bytes : List ℕ} (a b : ℕ) (more : List ℕ) → 194 ≤ a → Shape bytes (a ∷ b ∷ more) → IsSecond a b
second_in a b more h (shape_1 k) = absurd (omega arith)
second_in a b more h (shape_2 l u x) = second_of_two a b u x
second_in a b more h (shape_3 l u s x) = s
second_in a b more h (shape_4 l u s x y) = s

pub is_second : (a b : ℕ) → 194 ≤ a → BeginsCharacter (a ∷ b ∷ []) → IsSecond a b
is_second a b h begun = second_in a b begun.more h (begun_shape (a ∷ b ∷ []) begun)

third_in : {bytes : List ℕ} (a b d : ℕ) (more : List ℕ) → 224 ≤ a → Shape bytes (a ∷ b ∷ d ∷ more) → IsLater d
third_in a b d more h (shape_1 k) = absurd (omega arith)
third_in a b d more h (shape_2 l u x) = absurd (omega arith)
third_in a b d more h (shape_3 l u s x) = x
third_in a b d more h (shape_4 l u s x y) = x

pub is_third : (a b d : ℕ) → 224 ≤ a → BeginsCharacter (a ∷ b ∷ d ∷ []) → IsLater d
is_third a b d h begun = third_in a b d begun.more h (begun_shape (a ∷ b ∷ d ∷ []) begun)

fourth_in : {bytes : List ℕ} (a b d e : ℕ) (more : List ℕ) → 240 ≤ a → Shape bytes (a ∷ b ∷ d ∷ e ∷ more) → IsLater e
fourth_in a b d e more h (shape_1 k) = absurd (omega arith)
fourth_in a b d e more h (shape_2 l u x) = absurd (omega arith)
fourth_in a b d e more h (shape_3 l u s x) = absurd (omega arith)
fourth_in a b d e more h (shape_4 l u s x y) = y

pub is_fourth : (a b d e : ℕ) → 240 ≤ a → BeginsCharacter (a ∷ b ∷ d ∷ e ∷ []) → IsLater e
is_fourth a b d e h begun = fourth_in a b d e begun.more h (begun_shape (a ∷ b ∷ d ∷ e ∷ []) begun)
