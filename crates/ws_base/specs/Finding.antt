-- What a search answers.
use Rattle.std.specs.Prelude.{Option, Some, None}

-- a value of which this holds, or there is none
abbrev pub Finds : {T : Type 0} → Option T → (T → Type 0) → Type 0
Finds (Some value) P = P value
Finds {T = T} None P = (value : T) → P value → ⊥
