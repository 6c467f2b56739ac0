-- The numbers of clients whose connections have ended, in the order in which they ended.
use Rattle.std.specs.Prelude.{◌≡◌, ℕ, ◌+◌, ◌≤◌, ⊤, List, [], ◌∷◌, map}
use Rattle.std.specs.List.{All}
use Rattle.ws_serving.specs.declared.client_end.ClientEnd.{ClientEnd}

-- the numbers of these ends
abbrev pub numbers_of : List (ℕ × ClientEnd) → List ℕ
numbers_of ends = map (λ end. end.0) ends

-- each stands there once
abbrev pub AreOnce : List ℕ → Type 0
AreOnce [] = ⊤
AreOnce (n ∷ more) = All (λ m. m ≡ n → ⊥) more × AreOnce more

-- Where so many clients had ended before, each is the number of one of the clients that can have come by then: at most
-- so many are there at a time.
abbrev pub AreOfThere : ℕ → ℕ → List ℕ → Type 0
AreOfThere before at_once [] = ⊤
AreOfThere before at_once (n ∷ more) = (n ≤ before + at_once) × AreOfThere (before + 1) at_once more

-- Of so many clients that came, of whom at most so many were there at a time, these have ended: each is one of them,
-- and has ended once.
pub record AreEndNumbers (at_once came : ℕ) (numbers : List ℕ) : Type 0 where
  pub given : All (λ n. (1 ≤ n) × (n ≤ came)) numbers
  pub once : AreOnce numbers
  pub there : AreOfThere 0 at_once numbers
