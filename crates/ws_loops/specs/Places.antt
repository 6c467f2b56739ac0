-- The places of a loop: what stands in them, which is free, and which has ended first.
use Rattle.std.specs.Prelude.{◌≡◌, ℕ, ◌<◌, ◌≤◌, ⊤, Bool, true, false, if◌then◌else◌, nat_le, List, length, Option}
use Rattle.std.specs.Prelude.{None, Some, slice_get}
use Rattle.ws_machines.specs.Machines.{Wants}
use Rattle.ws_loops.specs.declared.places.Place.{Place}
use Rattle.ws_loops.specs.declared.places.Place.TheVariants.{Empty, Open, Pending, Broken}
use Rattle.ws_loops.specs.declared.slot.Slot.{Slot}

-- ---- what stands in a place

-- of the slot in it, if there is one, this holds
abbrev pub IfOpen : {M S : Type 0} → Place M S → (Slot M S → Type 0) → Type 0
IfOpen Empty P = ⊤
IfOpen (Open slot) P = P slot
IfOpen (Pending watch) P = ⊤
IfOpen Broken P = ⊤

-- what went on in it has ended: its machine is done, memory ran out for it, or the connection that is under way was
-- stirred
abbrev pub IsPlaceOver : {M S : Type 0} → (M → Wants) → Place M S → Type 0
IsPlaceOver wants Empty = ⊥
IsPlaceOver wants (Open slot) = (wants slot.machine).done ≡ true
IsPlaceOver wants (Pending watch) = watch.stirred ≡ true
IsPlaceOver wants Broken = ⊤

-- and so at this one
abbrev pub IsOverAt : {M S : Type 0} → (M → Wants) → List (Place M S) → ℕ → Type 0
IsOverAt {M} {S} wants places at = (place : Place M S) × (slice_get places at ≡ Some place) × IsPlaceOver wants place

-- nothing has ended in any
abbrev pub NoneIsOver : {M S : Type 0} → (M → Wants) → List (Place M S) → Type 0
NoneIsOver wants places = (i : ℕ) → IsOverAt wants places i → ⊥

-- no slot stands in it, or stood in it: it is empty, or a connection is under way for it
abbrev pub IsSlotless : {M S : Type 0} → Place M S → Type 0
IsSlotless Empty = ⊤
IsSlotless (Open slot) = ⊥
IsSlotless (Pending watch) = ⊤
IsSlotless Broken = ⊥

abbrev pub IsSlotlessAt : {M S : Type 0} → List (Place M S) → ℕ → Type 0
IsSlotlessAt {M} {S} places at = (place : Place M S) × (slice_get places at ≡ Some place) × IsSlotless place

-- nothing stands in any
abbrev pub AreEmpty : {M S : Type 0} → List (Place M S) → Type 0
AreEmpty {M} {S} places = (i : ℕ) (place : Place M S) → slice_get places i ≡ Some place → place ≡ Empty

-- ---- which is free

abbrev pub is_empty : {M S : Type 0} → Place M S → Bool
is_empty Empty = true
is_empty (Open slot) = false
is_empty (Pending watch) = false
is_empty Broken = false

-- something stands in each place in front of this one
abbrev pub AreOccupied : {M S : Type 0} → List (Place M S) → ℕ → Type 0
AreOccupied {M} {S} places at = (i : ℕ) (place : Place M S) → i < at → slice_get places i ≡ Some place
    → is_empty place ≡ false

-- what kind of thing is in a place: nothing; a slot, also one for which memory ran out; or a connection that is under
-- way, until when it is waited for
pub data Kind : Type 0 where
  Nothing : Kind
  Slotted : Kind
  UnderWay : Option ℕ → Kind

abbrev pub place_kind : {M S : Type 0} → Place M S → Kind
place_kind Empty = Nothing
place_kind (Open slot) = Slotted
place_kind (Pending watch) = UnderWay watch.until
place_kind Broken = Slotted

-- a connection is under way for it that was stirred
abbrev pub is_stirred : {M S : Type 0} → Place M S → Bool
is_stirred Empty = false
is_stirred (Open slot) = false
is_stirred (Pending watch) = watch.stirred
is_stirred Broken = false

-- No place is added or lost, and each is of the kind that it was. A connection that was stirred stays so.
pub record StayOfKind {M S : Type 0} (old new : List (Place M S)) : Type 0 where
  pub len : length new ≡ length old
  pub each : (i : ℕ) (x y : Place M S) → slice_get old i ≡ Some x → slice_get new i ≡ Some y
      → place_kind y ≡ place_kind x
  pub stirred : (i : ℕ) (x y : Place M S) → slice_get old i ≡ Some x → slice_get new i ≡ Some y
      → is_stirred x ≡ true → is_stirred y ≡ true

-- This place is the first that is empty, or the one behind all others where none is.
pub record IsFirstFree {M S : Type 0} (places : List (Place M S)) (at : ℕ) : Type 0 where
  pub within : at ≤ length places
  pub empty : (place : Place M S) → slice_get places at ≡ Some place → place ≡ Empty
  pub first : AreOccupied places at

-- ---- which has ended first: each was given a number as it ended

-- no place has ended
abbrev pub NoneHasEnded : List (Option ℕ) → Type 0
NoneHasEnded tickets = (i t : ℕ) → slice_get tickets i ≡ Some (Some t) → ⊥

-- this place has ended, and no other one before it
abbrev pub IsFirstToEnd : List (Option ℕ) → ℕ → Type 0
IsFirstToEnd tickets at = (t : ℕ) × (slice_get tickets at ≡ Some (Some t))
    × ((i u : ℕ) → slice_get tickets i ≡ Some (Some u) → t ≤ u)

-- No place is added or lost. Those that had ended keep their numbers, and those that ended since have later ones.
pub record KeepTurns (old new : List (Option ℕ)) : Type 0 where
  pub len : length new ≡ length old
  pub kept : (i t : ℕ) → slice_get old i ≡ Some (Some t) → slice_get new i ≡ Some (Some t)
  pub later : (i j t u : ℕ) → slice_get old i ≡ Some (Some t) → slice_get old j ≡ Some None
      → slice_get new j ≡ Some (Some u) → t ≤ u

-- that of both which ended first, each with its number
abbrev pub earlier_end : Option (ℕ × ℕ) → ℕ → Option ℕ → Option (ℕ × ℕ)
earlier_end first at None = first
earlier_end None at (Some ticket) = Some (at, ticket)
earlier_end (Some first) at (Some ticket) = if nat_le first.1 ticket then Some first else Some (at, ticket)
