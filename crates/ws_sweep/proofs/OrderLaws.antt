-- The numbers of scripts: they follow the order, none is that of two scripts, and they tell how long a script is.
use Rattle.std.proofs.Common.{◌≡◌, ◌∙◌, ℕ, zero, suc, ◌+◌, ◌*◌, ◌<◌, ◌≤◌, ◌↔◌, inl, inr, List, [], ◌∷◌, length, refl}
use Rattle.std.proofs.Common.{ap₂, sym, subst, arith}
use Rattle.std.proofs.Math.Nat.{le_trans}
use Rattle.std.proofs.lemmas.Bool.{cases_lt}
use Rattle.ws_sweep.specs.Order.{ArePlaces, HasEarlierStep, StandsBefore, count_of_scripts, script_number_from}
use Rattle.ws_sweep.specs.Order.{script_number}

-- ---- two scripts

-- places behind a smaller number
smaller : (a b : ℕ) (places others : List ℕ) → ArePlaces places → ArePlaces others → length places ≡ length others
    → a < b → script_number_from a places < script_number_from b others
smaller a b [] [] are others_are same less = less
smaller a b (p ∷ ps) (q ∷ qs) are others_are same less =
    smaller (27 * a + p + 1) (27 * b + q + 1) ps qs are.1 others_are.1 (omega (arith, same))
    (let place : p < 27 = are.0 in omega (arith, place, less))
smaller a b [] (q ∷ qs) are others_are same less = absurd (omega (arith, same))
smaller a b (p ∷ ps) [] are others_are same less = absurd (omega (arith, same))

-- an earlier step behind the same number
earlier : (a : ℕ) (places others : List ℕ) → ArePlaces places → ArePlaces others → length places ≡ length others
    → HasEarlierStep places others → script_number_from a places < script_number_from a others
earlier a (p ∷ ps) (q ∷ qs) are others_are same (inl less) =
    smaller (27 * a + p + 1) (27 * a + q + 1) ps qs are.1 others_are.1 (omega (arith, same)) (omega (arith, less))
earlier a (p ∷ ps) (q ∷ qs) are others_are same (inr (is, later)) =
    subst (λ (r : ℕ). script_number_from (27 * a + p + 1) ps < script_number_from (27 * a + r + 1) qs) is
    (earlier (27 * a + p + 1) ps qs are.1 others_are.1 (omega (arith, same)) later)
earlier a [] others are others_are same before = absurd before
earlier a (p ∷ ps) [] are others_are same before = absurd before

-- fewer places behind a number that is no greater
fewer : (a b : ℕ) (places others : List ℕ) → ArePlaces places → ArePlaces others → length places < length others
    → a ≤ b → script_number_from a places < script_number_from b others
fewer a b places [] are others_are less most = absurd (omega (arith, less))
fewer a b places (q ∷ qs) are others_are less most = elim (cases_lt (length places) (length qs)) [
  | inl still ↦ fewer a (27 * b + q + 1) places qs are others_are.1 still (omega (arith, most))
  | inr as_long ↦
      smaller a (27 * b + q + 1) places qs are others_are.1 (omega (arith, less, as_long)) (omega (arith, most))
]

pub before_is_smaller : (places others : List ℕ) → ArePlaces places → ArePlaces others → StandsBefore places others
    → script_number places < script_number others
before_is_smaller places others are others_are (inl less) = fewer 0 0 places others are others_are less (omega arith)
before_is_smaller places others are others_are (inr (same, before)) = earlier 0 places others are others_are same before

-- ---- one number

-- the digits of two numbers that are the same
same_digits : (a b p q : ℕ) → p < 27 → q < 27 → 27 * a + p + 1 ≡ 27 * b + q + 1 → (a ≡ b) × (p ≡ q)
same_digits a b p q place other is = (omega (arith, place, other, is), omega (arith, place, other, is))

same_parts : (a b : ℕ) (places others : List ℕ) → ArePlaces places → ArePlaces others → length places ≡ length others
    → script_number_from a places ≡ script_number_from b others → (a ≡ b) × (places ≡ others)
same_parts a b [] [] are others_are same is = (is, refl)
same_parts a b (p ∷ ps) (q ∷ qs) are others_are same is =
    let later = same_parts (27 * a + p + 1) (27 * b + q + 1) ps qs are.1 others_are.1 (omega (arith, same)) is in
    let digits = same_digits a b p q are.0 others_are.0 later.0 in
    (digits.0, ap₂ (λ (r : ℕ) (l : List ℕ). r ∷ l) digits.1 later.1)
same_parts a b [] (q ∷ qs) are others_are same is = absurd (omega (arith, same))
same_parts a b (p ∷ ps) [] are others_are same is = absurd (omega (arith, same))

pub one_script : (places others : List ℕ) → ArePlaces places → ArePlaces others
    → script_number places ≡ script_number others → places ≡ others
one_script places others are others_are is = elim (cases_lt (length places) (length others)) [
  | inl less ↦
      absurd (let wrong = fewer 0 0 places others are others_are less (omega arith) in omega (arith, wrong, is))
  | inr most ↦ elim (cases_lt (length others) (length places)) [
    | inl less ↦
        absurd (let wrong = fewer 0 0 others places others_are are less (omega arith) in omega (arith, wrong, is))
    | inr least ↦ (same_parts 0 0 places others are others_are (omega (arith, most, least)) is).1
  ]
]

-- ---- how many there are

-- the least number of so many places behind a number
least : ℕ → ℕ → ℕ
least zero a = a
least (suc n) a = least n (27 * a + 1)

-- what is behind a number that is one greater
least_grows : (n a b : ℕ) → a ≤ b → least n a ≤ least n b
unfolding least
least_grows zero a b most = most
least_grows (suc n) a b most = least_grows n (27 * a + 1) (27 * b + 1) (omega (arith, most))

-- no number is less
from_least : (a : ℕ) (places : List ℕ) → least (length places) a ≤ script_number_from a places
unfolding least
from_least a [] = omega arith
from_least a (p ∷ ps) =
    le_trans (least_grows (length ps) (27 * a + 1) (27 * a + p + 1) (omega arith)) (from_least (27 * a + p + 1) ps)

-- and each is less than the least behind the next number
below_next : (a : ℕ) (places : List ℕ) → ArePlaces places → script_number_from a places < least (length places) (a + 1)
unfolding least
below_next a [] are = omega arith
below_next a (p ∷ ps) are =
    let place : p < 27 = are.0 in
    le_trans (below_next (27 * a + p + 1) ps are.1)
    (least_grows (length ps) (27 * a + p + 1 + 1) (27 * (a + 1) + 1) (omega (arith, place)))

-- a place more at the front is one at the back
moves : (n a : ℕ) → least n (27 * a + 1) ≡ 27 * least n a + 1
unfolding least
moves zero a = refl
moves (suc n) a = moves n (27 * a + 1)

-- the count is the least behind 1
count_is : (n : ℕ) → least n 1 ≡ count_of_scripts n
unfolding least
count_is zero = refl
count_is (suc n) = moves n 1 ∙ (let before = count_is n in omega (arith, before))

-- more places have a greater least number
rises : (m n : ℕ) → m ≤ n → least m 0 ≤ least n 0
unfolding least
rises m zero most = let none : m ≡ 0 = omega (arith, most) in subst (λ (k : ℕ). least k 0 ≤ 0) (sym none) (omega arith)
rises m (suc n) most = elim (cases_lt m (suc n)) [
  | inl less ↦ le_trans (rises m n (omega (arith, less))) (least_grows n 0 1 (omega arith))
  | inr least_is ↦
      let same : m ≡ suc n = omega (arith, most, least_is) in
      subst (λ (k : ℕ). least k 0 ≤ least n 1) (sym same) (omega arith)
]

-- the least of one place more
next_least : (n : ℕ) → least (suc n) 0 ≡ count_of_scripts n
unfolding least
next_least n = count_is n

pub counted : (places : List ℕ) (steps : ℕ) → ArePlaces places
    → (length places ≤ steps) ↔ (script_number places < count_of_scripts steps)
counted places steps are = (
  λ most.
      let here = below_next 0 places are in
      let count = count_is (length places) in
      let less = next_least (length places) in
      let most_least = next_least steps in
      let grows = rises (suc (length places)) (suc steps) (omega (arith, most)) in
      omega (arith, here, count, less, most_least, grows),
  λ within. elim (cases_lt steps (length places)) [
    | inl less ↦
        let here = from_least 0 places in
        let count = next_least steps in
        let grows = rises (suc steps) (length places) (omega (arith, less)) in
        absurd (omega (arith, here, count, grows, within))
    | inr most ↦ omega (arith, most)
  ],
)
