-- The order of short scripts: a script is the list of the places of its steps in the alphabet, and has a number.
use Rattle.std.specs.Prelude.{◌≡◌, ◌⊎◌, ℕ, zero, suc, ◌+◌, ◌*◌, ◌<◌, List, [], ◌∷◌, length, Option, MatchOption}
use Rattle.std.specs.List.{AllByRecursion}

-- ---- scripts

-- how many steps the alphabet has
abbrev pub alphabet_size : ℕ
alphabet_size = 27

-- scripts have at most so many steps
abbrev pub max_steps : ℕ
max_steps = 4

abbrev pub IsStepPlace : ℕ → Type 0
IsStepPlace place = place < alphabet_size

-- all of them are places of steps
abbrev pub ArePlaces : List ℕ → Type 0
ArePlaces places = AllByRecursion IsStepPlace places

-- ---- their order

-- at the first place that differs, this one stands earlier in the alphabet
abbrev pub HasEarlierStep : List ℕ → List ℕ → Type 0
HasEarlierStep [] others = ⊥
HasEarlierStep (place ∷ places) [] = ⊥
HasEarlierStep (place ∷ places) (other ∷ others) =
    (place < other) ⊎ ((place ≡ other) × HasEarlierStep places others)

-- a script stands before another: it has fewer steps; or as many, and the first that differs stands earlier in the
-- alphabet
abbrev pub StandsBefore : List ℕ → List ℕ → Type 0
StandsBefore places others = (length places < length others)
    ⊎ ((length places ≡ length others) × HasEarlierStep places others)

-- how many scripts of at most so many steps there are: the one without steps, and behind each step those of one less
abbrev pub count_of_scripts : ℕ → ℕ
count_of_scripts zero = 1
count_of_scripts (suc steps) = 1 + alphabet_size * count_of_scripts steps

-- ---- their numbers

-- the number of a script whose first steps have this number, and whose others stand at these places
abbrev pub script_number_from : ℕ → List ℕ → ℕ
script_number_from number [] = number
script_number_from number (place ∷ places) = script_number_from (alphabet_size * number + place + 1) places

-- The number of a script, counted from 0: the places, counted from 1, are digits of a notation without a zero. It is a
-- law that they count the scripts in their order.
abbrev pub script_number : List ℕ → ℕ
script_number places = script_number_from 0 places

-- ---- the scripts one after the other

-- the number of the next script, and how many are left
pub record ScriptsLeft : Type 0 where
  pub next : ℕ
  pub left : ℕ

-- a script was given: the one of the next number; or none, and none is left
abbrev pub GivesScript : ScriptsLeft → Option (List ℕ) → ScriptsLeft → Type 0
GivesScript old given new = MatchOption given
    ((old.left ≡ 0) × (new ≡ old))
    (λ places. ArePlaces places × (script_number places ≡ old.next) × (new.next ≡ old.next + 1)
    × (new.left + 1 ≡ old.left))
