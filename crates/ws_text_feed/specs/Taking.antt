-- What taking the value of a line answers.
use Rattle.std.specs.Prelude.{◌≡◌, ℕ, List, [], ◌∷◌, ◌++◌, Result, Ok, Err}
use Rattle.ws_base.specs.declared.text_fault.LineFault.{LineFault}
use Rattle.ws_base.specs.declared.text_fault.LineFault.TheVariants.{Damaged}

-- it has become what it is by taking some values
abbrev pub CanTake : {S T : Type 0} → (S → List T → S → Type 0) → S → Type 0
CanTake {S = S} {T = T} HasTaken now = (first : S) × (before : List T) × HasTaken first before now

-- The line tells a value, and with it `now` has taken one value more than `old`, whatever `old` had taken; or no value
-- is told by it, or memory ran out.
abbrev pub TakesValue : {S T U : Type 0} → (T → List ℕ → Type 0) → (S → List T → S → Type 0) → S → S → List ℕ
    → Result U LineFault → Type 0
TakesValue {S = S} {T = T} IsLineOf HasTaken old now line (Ok done) =
    (first : S) (before : List T) → HasTaken first before old
    → (value : T) × IsLineOf value line × HasTaken first (before ++ value ∷ []) now
TakesValue {T = T} IsLineOf HasTaken old now line (Err fault) =
    fault ≡ Damaged → (value : T) → IsLineOf value line → ⊥
