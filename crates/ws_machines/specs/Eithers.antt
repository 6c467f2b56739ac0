-- One of two machines, as one machine.
use Rattle.std.specs.Prelude.{ℕ, List}
use Rattle.ws_machines.specs.Told.{Told}
use Rattle.ws_machines.specs.Machines.{Wants}
use Rattle.ws_machines.specs.declared.either.Either.{Either}
use Rattle.ws_machines.specs.declared.either.Either.TheVariants.{Left, Right}

-- it was told what the one that it is was told, and stays of its kind
abbrev pub agrees_either : {A B : Type 0} → (A → A → List Told → Type 0) → (B → B → List Told → Type 0)
    → Either A B → Either A B → List Told → Type 0
agrees_either left right (Left start) (Left now) told = left start now told
agrees_either left right (Right start) (Right now) told = right start now told
agrees_either left right (Left start) (Right now) told = ⊥
agrees_either left right (Right start) (Left now) told = ⊥

-- it wants what that one wants
abbrev pub wants_either : {A B : Type 0} → (A → Wants) → (B → Wants) → Either A B → Wants
wants_either left right (Left now) = left now
wants_either left right (Right now) = right now

-- as much can still happen to it as to that one
abbrev pub left_either : {A B : Type 0} → (A → ℕ) → (B → ℕ) → Either A B → ℕ
left_either left right (Left now) = left now
left_either left right (Right now) = right now

-- and it gives what that one gives
abbrev pub gives_either : {A B E : Type 0} → (A → List Told → E → Type 0) → (B → List Told → E → Type 0)
    → Either A B → List Told → E → Type 0
gives_either left right (Left start) told end = left start told end
gives_either left right (Right start) told end = right start told end
