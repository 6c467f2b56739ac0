-- Characters of which some bytes are missing, and which bytes may be second.
use Rattle.std.proofs.Common.{◌≡◌, ℕ, ◌≤◌, List, [], ◌∷◌, ◌++◌, length, sym, ◌∙◌, arith, inl, inr, subst, lit≤}
use Rattle.std.specs.Prelude.{◌↔◌}
use Rattle.std.specs.Int.{IsInRange}
use Rattle.std.proofs.lemmas.Bool.{cases_lt, cases_eq}
use Rattle.std.proofs.lemmas.List.{append-nil}
use Rattle.ws_text.specs.InnerStep.{IsCharacter, BeginsCharacter}
use Rattle.ws_text.specs.Text.{char_bytes, IsScalarValue, IsCutShort, IsUnfinished}
use Rattle.ws_text.proofs.Characters.{IsSecond, IsLater, Shape, shape_of, shape_1, shape_2, shape_3, shape_4, character_2, character_3, character_4, is_second}

-- ---- unfinished characters

cut_shape : (c : ℕ) (tail : List ℕ) (h : IsCutShort c tail) → Shape (tail ++ h.next ∷ h.more) (char_bytes c ++ [])
cut_shape c tail h = subst (λ (l : List ℕ). Shape l (char_bytes c ++ [])) (sym h.missing) (shape_of c [] h.scalar)

lead_in : {all : List ℕ} (a n : ℕ) (more : List ℕ) → Shape (a ∷ n ∷ more) all → (194 ≤ a) × (a ≤ 244)
lead_in a n more (shape_2 l u x) = (l, omega arith)
lead_in a n more (shape_3 l u s x) = (omega arith, omega arith)
lead_in a n more (shape_4 l u s x y) = (omega arith, u)

pub lead_of : (a : ℕ) → IsUnfinished (a ∷ []) → (194 ≤ a) × (a ≤ 244)
lead_of a (inl e) = absurd cc
lead_of a (inr u) = lead_in a u.1.next u.1.more (cut_shape u.0 (a ∷ []) u.1)

two_in : {all : List ℕ} (a b n : ℕ) (more : List ℕ) → Shape (a ∷ b ∷ n ∷ more) all → (224 ≤ a) × (a ≤ 244) × IsSecond a b
two_in a b n more (shape_3 l u s x) = (l, omega arith, s)
two_in a b n more (shape_4 l u s x y) = (omega arith, u, s)

pub two_of : (a b : ℕ) → IsUnfinished (a ∷ b ∷ []) → (224 ≤ a) × (a ≤ 244) × IsSecond a b
two_of a b (inl e) = absurd cc
two_of a b (inr u) = two_in a b u.1.next u.1.more (cut_shape u.0 (a ∷ b ∷ []) u.1)

three_in : {all : List ℕ} (a b d n : ℕ) (more : List ℕ) → Shape (a ∷ b ∷ d ∷ n ∷ more) all → (240 ≤ a) × (a ≤ 244) × IsSecond a b × IsLater d
three_in a b d n more (shape_4 l u s x y) = (l, u, s, x)

pub three_of : (a b d : ℕ) → IsUnfinished (a ∷ b ∷ d ∷ []) → (240 ≤ a) × (a ≤ 244) × IsSecond a b × IsLater d
three_of a b d (inl e) = absurd cc
three_of a b d (inr u) = three_in a b d u.1.next u.1.more (cut_shape u.0 (a ∷ b ∷ d ∷ []) u.1)

length_in : {bytes all : List ℕ} → Shape bytes all → length bytes ≤ 4
length_in (shape_1 a) = lit≤ tt
length_in (shape_2 l u x) = lit≤ tt
length_in (shape_3 l u s x) = lit≤ tt
length_in (shape_4 l u s x y) = lit≤ tt

pub character_length : (c : ℕ) → IsScalarValue c → length (char_bytes c) ≤ 4
character_length c s = length_in (shape_of c [] s)

no_shape : {all : List ℕ} → Shape [] all → ⊥
no_shape h = elim h [ ]

-- a character has a byte
pub no_empty : (c : ℕ) → IsScalarValue c → [] ≡ char_bytes c → ⊥
no_empty c s e = no_shape (subst (λ (l : List ℕ). Shape l (char_bytes c ++ [])) (sym e) (shape_of c [] s))

cut_from : (tail : List ℕ) (c b : ℕ) (more : List ℕ) → IsCharacter c (tail ++ b ∷ more) → IsUnfinished tail
cut_from tail c b more h = inr (c, record { scalar = h.scalar; next = b; more = more; missing = h.spelled })

pub least_later : IsLater 128
least_later = record { low = lit≤ tt; high = lit≤ tt }

pub least_second : (a : ℕ) → (b : ℕ) × IsSecond a b
least_second a =
    elim (cases_eq a 224) [
      | inl e ↦ (160, record { later = record { low = lit≤ tt; high = lit≤ tt }; e0 = λ _. lit≤ tt; ed = λ x. absurd (omega arith); f0 = λ _. lit≤ tt; f4 = λ x. absurd (omega arith) })
      | inr n ↦ elim (cases_eq a 240) [
        | inl e ↦ (144, record { later = record { low = lit≤ tt; high = lit≤ tt }; e0 = λ x. absurd (omega arith); ed = λ x. absurd (omega arith); f0 = λ _. lit≤ tt; f4 = λ x. absurd (omega arith) })
        | inr m ↦ (128, record { later = least_later; e0 = λ x. absurd (n x); ed = λ _. lit≤ tt; f0 = λ x. absurd (m x); f4 = λ _. lit≤ tt })
      ]
    ]

-- each part of a character can be completed

pub one_unfinished : (a : ℕ) → 194 ≤ a → a ≤ 244 → IsUnfinished (a ∷ [])
one_unfinished a low high =
    elim (cases_lt a 224) [
      | inl two ↦ cut_from (a ∷ []) _ 128 [] (character_2 a 128 low (omega arith) least_later)
      | inr ge ↦ let s = least_second a in elim (cases_lt a 240) [
        | inl three ↦ cut_from (a ∷ []) _ s.0 (128 ∷ []) (character_3 a s.0 128 ge (omega arith) s.1 least_later)
        | inr four ↦ cut_from (a ∷ []) _ s.0 (128 ∷ 128 ∷ []) (character_4 a s.0 128 128 four high s.1 least_later least_later)
      ]
    ]

pub two_unfinished : (a b : ℕ) → 224 ≤ a → a ≤ 244 → IsSecond a b → IsUnfinished (a ∷ b ∷ [])
two_unfinished a b low high s =
    elim (cases_lt a 240) [
      | inl three ↦ cut_from (a ∷ b ∷ []) _ 128 [] (character_3 a b 128 low (omega arith) s least_later)
      | inr four ↦ cut_from (a ∷ b ∷ []) _ 128 (128 ∷ []) (character_4 a b 128 128 four high s least_later least_later)
    ]

pub three_unfinished : (a b d : ℕ) → 240 ≤ a → a ≤ 244 → IsSecond a b → IsLater d → IsUnfinished (a ∷ b ∷ d ∷ [])
three_unfinished a b d low high s later = cut_from (a ∷ b ∷ d ∷ []) _ 128 [] (character_4 a b d 128 low high s later least_later)

-- ---- which bytes may be second

begun_by : (c : ℕ) (bytes more : List ℕ) → IsCharacter c (bytes ++ more) → BeginsCharacter bytes
begun_by c bytes more h = record { c = c; scalar = h.scalar; more = more; rest = []; parts = h.spelled ∙ sym (append-nil (char_bytes c)) }

begins_two : (a b : ℕ) → 194 ≤ a → a ≤ 244 → IsSecond a b → BeginsCharacter (a ∷ b ∷ [])
begins_two a b low high s =
    elim (cases_lt a 224) [
      | inl two ↦ begun_by _ (a ∷ b ∷ []) [] (character_2 a b low (omega arith) s.later)
      | inr ge ↦ elim (cases_lt a 240) [
        | inl three ↦ begun_by _ (a ∷ b ∷ []) (128 ∷ []) (character_3 a b 128 ge (omega arith) s least_later)
        | inr four ↦ begun_by _ (a ∷ b ∷ []) (128 ∷ 128 ∷ []) (character_4 a b 128 128 four high s least_later least_later)
      ]
    ]

pub second_range : (a low high : ℕ) → IsUnfinished (a ∷ []) → ((b : ℕ) → IsSecond a b ↔ IsInRange low high b) → (b : ℕ) → BeginsCharacter (a ∷ b ∷ []) ↔ IsInRange low high b
second_range a low high u range b =
    let lead = lead_of a u in
    (λ h. (range b).0 (is_second a b lead.0 h), λ h. begins_two a b lead.0 lead.1 ((range b).1 h))
