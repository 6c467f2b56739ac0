-- The times before which nothing is due in the places of a loop, and the soonest of them.
use Rattle.std.specs.Prelude.{◌≡◌, ℕ, ◌+◌, ◌*◌, ◌≤◌, ◌⊎◌, List, length, Option, None, Some, slice_get, slice_set}
use Rattle.ws_loops.specs.Paces.{IsBefore, sooner}
use Rattle.ws_loops.specs.declared.limits.Limits.{Limits}

-- what is before the first is before the second
abbrev pub ComesNoLater : Option ℕ → Option ℕ → Type 0
ComesNoLater first second = (t : ℕ) → IsBefore t first → IsBefore t second

-- this is no later than any of them
abbrev pub IsSoonest : List (Option ℕ) → Option ℕ → Type 0
IsSoonest times first = (i : ℕ) (time : Option ℕ) → slice_get times i ≡ Some time → ComesNoLater first time

-- this node is below that one
abbrev pub IsChildOf : ℕ → ℕ → Type 0
IsChildOf child node = (1 ≤ node) × ((child ≡ node + node) ⊎ (child ≡ node + node + 1))

-- The times are its leaves, and no node is later than one below it.
pub record IsTree (limits : Limits) : Type 0 where
  pub len : length limits.tree.items ≡ length limits.times.items + length limits.times.items
  pub leaf : (i : ℕ) (time : Option ℕ) → slice_get limits.times.items i ≡ Some time
      → slice_get limits.tree.items (length limits.times.items + i) ≡ Some time
  pub order : (child node : ℕ) (below above : Option ℕ) → IsChildOf child node
      → slice_get limits.tree.items child ≡ Some below → slice_get limits.tree.items node ≡ Some above
      → ComesNoLater above below

-- a node got the sooner of the two below it
abbrev pub IsRaised : ℕ → List (Option ℕ) → List (Option ℕ) → Type 0
IsRaised node old new = (one other : Option ℕ) → slice_get old (2 * node) ≡ Some one
    → slice_get old (2 * node + 1) ≡ Some other → new ≡ slice_set old node (sooner one other)

-- there is none
abbrev pub AreAllNone : List (Option ℕ) → Type 0
AreAllNone times = (i : ℕ) (time : Option ℕ) → slice_get times i ≡ Some time → time ≡ None

-- none of them has come by now
abbrev pub ComesLater : List (Option ℕ) → ℕ → Type 0
ComesLater times now = (i : ℕ) (time : Option ℕ) → slice_get times i ≡ Some time → IsBefore now time
