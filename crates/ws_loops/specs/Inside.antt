-- What a wait has found, as the places are called.
use Rattle.std.specs.Prelude.{◌≡◌, ℕ, ◌<◌, ◌⊎◌, ⊤, true, List, [], length, Option, Some, None, slice_get, slice_set}
use Rattle.ws_machines.specs.Told.{Told}
use Rattle.ws_machines.specs.Machines.{Wants}
use Rattle.ws_loops.specs.Deeds.{Deed}
use Rattle.ws_loops.specs.Loops.{AtEachPlace, Covers, GiveTurns, HasPlaceTurn, IsAmong, IsFrom}
use Rattle.ws_loops.specs.Places.{IsPlaceOver}
use Rattle.ws_loops.specs.declared.inside.Inside.{Inside}
use Rattle.ws_loops.specs.declared.places.Place.{Place}
use Rattle.ws_loops.specs.declared.poller.Mark.TheVariants as mark
use Rattle.ws_loops.specs.declared.poller.Readiness.{Readiness}
use Rattle.ws_loops.specs.declared.poller.Wake.{Wake}

-- it covers what was found, and what was found before
abbrev pub CoversBoth : Option Readiness → Readiness → Readiness → Type 0
CoversBoth None ready joined = Covers joined ready
CoversBoth (Some before) ready joined = Covers joined before × Covers joined ready

-- a call that was there is covered by one that is
abbrev pub StaysCalled : Option Readiness → Option Readiness → Type 0
StaysCalled None call = ⊤
StaysCalled (Some before) None = ⊥
StaysCalled (Some before) (Some ready) = Covers ready before

-- Calls stay, and one that is new is listed, or something may be due in any place. The rest is as it was.
pub record IsMarked {M S : Type 0} (old new : Inside M S) : Type 0 where
  pub places : new.seats.places.items ≡ old.seats.places.items
  pub tickets : new.seats.tickets.items ≡ old.seats.tickets.items
  pub later : new.seats.agenda.later.items ≡ old.seats.agenda.later.items
  pub given : new.seats.agenda.given ≡ old.seats.agenda.given
  pub ended : new.seats.agenda.ended ≡ old.seats.agenda.ended
  pub limits : new.seats.agenda.limits ≡ old.seats.agenda.limits
  pub any : (new.seats.agenda.all ≡ old.seats.agenda.all) ⊎ (new.seats.agenda.all ≡ true)
  pub all : new.all.items ≡ old.all.items
  pub found : new.found.items ≡ old.found.items
  pub free : new.free ≡ old.free
  pub deaf : new.door.deaf ≡ old.door.deaf
  pub calls : length new.seats.calls.items ≡ length old.seats.calls.items
  pub listed : (i : ℕ) → IsFrom old.list.items 0 i → IsFrom new.list.items 0 i
  pub stay : (i : ℕ) (c d : Option Readiness) → slice_get old.seats.calls.items i ≡ Some c
      → slice_get new.seats.calls.items i ≡ Some d → StaysCalled c d
  pub called : (i : ℕ) (ready : Readiness) → slice_get new.seats.calls.items i ≡ Some (Some ready)
      → (IsFrom new.list.items 0 i ⊎ (new.seats.agenda.all ≡ true))
      ⊎ ((before : Readiness) × (slice_get old.seats.calls.items i ≡ Some (Some before)))

-- the place of this number, if there is one, is called, as it was found
abbrev pub IsCalledSo : List (Option Readiness) → ℕ → Readiness → Type 0
IsCalledSo calls at found = (ready : Readiness) × (slice_get calls at ≡ Some (Some ready)) × Covers ready found

abbrev pub HasCalled : {M S : Type 0} → ℕ → Readiness → Inside M S → Inside M S → Type 0
HasCalled at ready old new = IsMarked old new
    × (at < length old.seats.calls.items → IsCalledSo new.seats.calls.items at ready)

abbrev pub HasMarkedOne : {M S : Type 0} → Wake → Inside M S → Inside M S → Type 0
HasMarkedOne wake old new = IsMarked old new × ((at : ℕ) → wake.mark ≡ mark.Place at
    → at < length old.seats.calls.items → IsCalledSo new.seats.calls.items at wake.ready)

-- the places of the first of these are called, as they were found
abbrev pub HasMarkedTo : {M S : Type 0} → List Wake → ℕ → Inside M S → Inside M S → Type 0
HasMarkedTo found count old new = IsMarked old new × ((k at : ℕ) (w : Wake) → k < count → slice_get found k ≡ Some w
    → w.mark ≡ mark.Place at → at < length old.seats.calls.items → IsCalledSo new.seats.calls.items at w.ready)

abbrev pub HasMarked : {M S : Type 0} → List Wake → Inside M S → Inside M S → Type 0
HasMarked found old new = HasMarkedTo found (length found) old new

-- a place is called that wasn't; or it was, or there is none of its number
abbrev pub IsCalledOnce : ℕ → List (Option Readiness) → List (Option Readiness) → Type 0
IsCalledOnce at old new = ((ready : Readiness) × (slice_get old at ≡ Some None) × (new ≡ slice_set old at (Some ready)))
    ⊎ ((new ≡ old) × (slice_get old at ≡ Some None → ⊥))

-- Each of the first of these places is called, if there is one of its number, and calls that were there stay.
pub record AreCalledTo (these : List ℕ) (count : ℕ) (old new : List (Option Readiness)) : Type 0 where
  pub len : length new ≡ length old
  pub stay : (i : ℕ) (ready : Readiness) → slice_get old i ≡ Some (Some ready) → slice_get new i ≡ Some (Some ready)
  pub called : (i : ℕ) → IsAmong these count i → slice_get new i ≡ Some None → ⊥
  pub fresh : (i : ℕ) (ready : Readiness) → slice_get new i ≡ Some (Some ready)
      → (slice_get old i ≡ Some (Some ready)) ⊎ IsAmong these count i

abbrev pub AreAllCalled : List ℕ → List (Option Readiness) → List (Option Readiness) → Type 0
AreAllCalled these old new = AreCalledTo these (length these) old new

-- A place had its turn, by its call where it had one; or it has ended, and stays as it is.
abbrev pub HasTurnByCall : {M S : Type 0} → (M → M → List Told → Type 0) → (M → Wants) → (S → S → List Deed → Type 0)
    → ℕ → Option Readiness → Place M S → Place M S → List (List ℕ) → Type 0
HasTurnByCall agrees wants did now call old new lines =
    (IsPlaceOver wants old × (new ≡ old) × (lines ≡ []))
    ⊎ ((ready : Readiness) × ((found : Readiness) → call ≡ Some found → ready ≡ found)
    × HasPlaceTurn agrees wants did ready now old new lines)

-- Each place had its turn so, and those that ended were given their numbers.
pub record HasServedCalled {M S K : Type 0} (agrees : M → M → List Told → Type 0) (wants : M → Wants)
    (did : S → S → List Deed → Type 0) (heard : K → K → List (ℕ × List ℕ) → Type 0) (now : ℕ)
    (old new : Inside M S) (old_sink new_sink : K) : Type 0 where
  pub places : AtEachPlace heard (λ i x y lines. (call : Option Readiness)
      → slice_get old.seats.calls.items i ≡ Some call → HasTurnByCall agrees wants did now call x y lines)
      old.seats.places.items new.seats.places.items old_sink new_sink
  pub turns : GiveTurns old.seats.tickets.items old.seats.agenda.given new.seats.tickets.items

-- The places that were kept for later are listed, and nothing else has changed.
pub record HasTurnedOver {M S : Type 0} (old new : Inside M S) : Type 0 where
  pub list : new.list.items ≡ old.seats.agenda.later.items
  pub later : new.seats.agenda.later.items ≡ []
  pub places : new.seats.places.items ≡ old.seats.places.items
  pub calls : new.seats.calls.items ≡ old.seats.calls.items
  pub tickets : new.seats.tickets.items ≡ old.seats.tickets.items
  pub limits : new.seats.agenda.limits ≡ old.seats.agenda.limits
  pub any : new.seats.agenda.all ≡ old.seats.agenda.all
  pub given : new.seats.agenda.given ≡ old.seats.agenda.given
  pub ended : new.seats.agenda.ended ≡ old.seats.agenda.ended
  pub all : new.all.items ≡ old.all.items
  pub found : new.found.items ≡ old.found.items
  pub free : new.free ≡ old.free
  pub door : new.door ≡ old.door
