-- Lines that a sink took, each with the place of its machine.
use Rattle.std.specs.Prelude.{ℕ, ◌<◌, ⊤, if◌then◌else◌, nat_eq, List, [], ◌∷◌, ◌++◌, map}

-- each list of what the sink took until the first state, followed by this, is one of what it took until the second
abbrev pub HasTakenLines : {K : Type 0} → (K → K → List (ℕ × List ℕ) → Type 0) → K → K → List (ℕ × List ℕ) → Type 0
HasTakenLines {K} heard old new more = (start : K) (taken : List (ℕ × List ℕ)) → heard start old taken
    → heard start new (taken ++ more)

-- these lines, each with this place
abbrev pub said_at : ℕ → List (List ℕ) → List (ℕ × List ℕ)
said_at at lines = map (λ l. (at, l)) lines

-- of all these lines, those of this place, in their order
abbrev pub lines_at : ℕ → List (ℕ × List ℕ) → List (List ℕ)
lines_at at [] = []
lines_at at (x ∷ heard) = if nat_eq x.0 at then x.1 ∷ lines_at at heard else lines_at at heard

-- each of these lines is of one of so many places
abbrev pub AreLinesOfPlaces : ℕ → List (ℕ × List ℕ) → Type 0
AreLinesOfPlaces count [] = ⊤
AreLinesOfPlaces count (x ∷ taken) = (x.0 < count) × AreLinesOfPlaces count taken
