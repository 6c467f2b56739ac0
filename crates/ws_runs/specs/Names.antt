-- Lists in which no name is there twice.
use Rattle.std.specs.Prelude.{◌≡◌, ℕ, suc, Bool, true, false, ⊤, List, [], ◌∷◌, ◌++◌, Option, Some, None, option_map}
use Rattle.std.specs.Prelude.{if◌then◌else◌}
use Rattle.std.specs.List.{list_any}
use Rattle.std.specs.Str.{bytes_eq}

-- the first of which this holds, changed so; if it holds of none, a new one comes last
abbrev pub put_where : {X : Type 0} → (X → Bool) → (X → X) → X → List X → List X
put_where is change new [] = new ∷ []
put_where is change new (x ∷ xs) = if is x then change x ∷ xs else x ∷ put_where is change new xs

-- the name is one of these
abbrev pub is_among : List ℕ → List (List ℕ) → Bool
is_among name names = list_any (λ other. bytes_eq other name) names

-- these names, and after them this one, if it is none of them
abbrev pub with_name : List (List ℕ) → List ℕ → List (List ℕ)
with_name names name = if is_among name names then names else names ++ name ∷ []

-- no name is there twice
abbrev pub IsEachOnce : List (List ℕ) → Type 0
IsEachOnce [] = ⊤
IsEachOnce (name ∷ names) = (is_among name names ≡ false) × IsEachOnce names

-- the place of a name among these, counted from 0
abbrev pub place_among : List ℕ → List (List ℕ) → Option ℕ
place_among name [] = None
place_among name (other ∷ names) = if bytes_eq other name then Some 0 else option_map suc (place_among name names)
