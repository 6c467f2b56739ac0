-- Inside the crate: how a few bytes are kept in place. A reader may skip this file.
use Rattle.std.specs.Prelude.{◌≡◌, ℕ, ◌-◌, ◌≤◌, List, ◌++◌, length, take, replicate}

-- in a place for n bytes the bytes after the first len are zero
pub record IsPadded (n len : ℕ) (bytes : List ℕ) : Type 0 where
  pub within : len ≤ n
  pub size : length bytes ≡ n
  pub zeros : take len bytes ++ replicate (n - len) 0 ≡ bytes
