-- Lists in which some element, or each, passes a test.
use Rattle.std.proofs.Common.{◌≡◌, ◌∙◌, ℕ, zero, suc, ◌<◌, ◌||◌, not, Bool, true, false, List, [], ◌∷◌, ◌++◌}
use Rattle.std.proofs.Common.{if◌then◌else◌, length, take, filter, Some, None, ap, refl, arith}
use Rattle.std.proofs.lemmas.Bool.{or_left, or_right}
use Rattle.std.proofs.lemmas.List.Folds.{list_any-append}
use Rattle.std.specs.List.{AllByRecursion, last_or, list_any}

-- ---- some element passes

pub any_in_front : {X : Type 0} (test : X → Bool) (xs ys : List X) → list_any test xs ≡ true → list_any test (xs ++ ys) ≡ true
any_in_front test xs ys e = list_any-append test xs ys ∙ or_left (list_any test xs) (list_any test ys) e

pub any_behind : {X : Type 0} (test : X → Bool) (xs ys : List X) → list_any test ys ≡ true → list_any test (xs ++ ys) ≡ true
any_behind test xs ys e = list_any-append test xs ys ∙ or_right (list_any test xs) (list_any test ys) e

-- ---- each element

pub all_so : {X : Type 0} (P Q : X → Type 0) → ((x : X) → P x → Q x) → (xs : List X) → AllByRecursion P xs → AllByRecursion Q xs
all_so P Q goes [] all = tt
all_so P Q goes (x ∷ xs) all = (goes x all.0, all_so P Q goes xs all.1)

-- of those that pass each is so
pub all_filtered : {X : Type 0} (P : X → Type 0) (test : X → Bool) (xs : List X) → AllByRecursion (λ x. test x ≡ true → P x) xs → AllByRecursion P (filter test xs)
all_filtered P test [] all = tt
all_filtered {X} P test (x ∷ xs) all = pick (all_filtered P test xs all.1) (test x) refl
  where
    pick : AllByRecursion P (filter test xs) → (b : Bool) → test x ≡ b → AllByRecursion P (if b then x ∷ filter test xs else filter test xs)
    pick later true e = (all.0 e, later)
    pick later false e = later

-- the last of some, of which each is so
pub last_of_all : {X : Type 0} (P : X → Type 0) (xs : List X) → 0 < length xs → AllByRecursion P xs → (last : X) × (last_or None xs ≡ Some last) × P last
last_of_all P [] some all = absurd (omega arith)
last_of_all {X} P (x ∷ xs) some all = behind x xs all.0 all.1
  where
    behind : (y : X) (ys : List X) → P y → AllByRecursion P ys → (last : X) × (last_or (Some y) ys ≡ Some last) × P last
    behind y [] here later = (y, refl, here)
    behind y (z ∷ ys) here later = behind z ys later.0 later.1

-- where each passes, none of the first fails
pub none_fails : {X : Type 0} (test : X → Bool) (n : ℕ) (xs : List X) → AllByRecursion (λ x. test x ≡ true) xs → list_any (λ x. not (test x)) (take n xs) ≡ false
none_fails test zero xs all = refl
none_fails test (suc n) [] all = refl
none_fails test (suc n) (x ∷ xs) all = ap (λ b. not b || list_any (λ y. not (test y)) (take n xs)) all.0 ∙ none_fails test n xs all.1
