-- What a network does, in its order.
use Rattle.std.specs.Prelude.{◌≡◌, ℕ, ⊤, Bool, true, false, nat_eq, if◌then◌else◌, List, [], ◌∷◌, ◌++◌}
use Rattle.ws_networks.specs.declared.network.Progress.{Progress}

-- One thing that a network did: for this name it found these addresses, or none, for this reason. A connection was
-- begun for this place of a loop, to this address and by this time, or was not, for this reason. It was asked how far
-- the connection has come that was begun last for this place. It listens at this address, or does not, for this reason.
-- It was asked at which address a listener takes clients.
pub data NetworkDeed (A W : Type 0) : Type 0 where
  Found : List ℕ → List A → NetworkDeed A W
  NotFound : List ℕ → W → NetworkDeed A W
  Begun : ℕ → A → ℕ → NetworkDeed A W
  NotBegun : ℕ → A → W → NetworkDeed A W
  Asked : ℕ → Progress W → NetworkDeed A W
  Bound : A → NetworkDeed A W
  NotBound : A → W → NetworkDeed A W
  Named : A → NetworkDeed A W
  NotNamed : W → NetworkDeed A W

-- whether it was done for this place
abbrev pub is_deed_of : {A W : Type 0} → ℕ → NetworkDeed A W → Bool
is_deed_of at (Begun place address since) = nat_eq place at
is_deed_of at (NotBegun place address why) = nat_eq place at
is_deed_of at (Asked place progress) = nat_eq place at
is_deed_of at _ = false

-- of what the network did, what it did for this place
abbrev pub deeds_at : {A W : Type 0} → ℕ → List (NetworkDeed A W) → List (NetworkDeed A W)
deeds_at at [] = []
deeds_at at (x ∷ deeds) = if is_deed_of at x then x ∷ deeds_at at deeds else deeds_at at deeds

-- all of it was done for this place
abbrev pub AreDeedsOf : {A W : Type 0} → ℕ → List (NetworkDeed A W) → Type 0
AreDeedsOf at [] = ⊤
AreDeedsOf at (x ∷ deeds) = (is_deed_of at x ≡ true) × AreDeedsOf at deeds

-- each list of what the network did until the first state, followed by this, is one of what it did until the second
abbrev pub HasAdded : {N D : Type 0} → (N → N → List D → Type 0) → N → N → List D → Type 0
HasAdded {N} {D} did old new more = (start : N) (deeds : List D) → did start old deeds → did start new (deeds ++ more)
