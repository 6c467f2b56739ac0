-- Lines that wait, as contracts see them.
use Rattle.std.specs.Prelude.{ℕ, Bool, List}

-- the lines that are kept, and whether one was left out
pub record KeptValue : Type 0 where
  pub text : List ℕ
  pub is_full : Bool
