-- An end of a tapped connection in its place: what its tap was told of it, and what is asked of it.
use Rattle.std.specs.Prelude.{◌≡◌, ◌⊎◌, ℕ, ⊤, true, false, List, [], Some, slice_get}
use Rattle.std.specs.List.{flat_map}
use Rattle.ws_wire.specs.declared.role.Role.{Role}
use Rattle.ws_machines.specs.Told.{Told}
use Rattle.ws_loops.specs.Deeds.{Deed}
use Rattle.ws_loops.specs.declared.slot.Slot.{Slot}
use Rattle.ws_tap.specs.Tapping.{ends_wanted, room_from, waits_for}
use Rattle.ws_tap.specs.Told.{TapTold}
use Rattle.ws_tap.specs.declared.tap.Tap.{Tap}
use Rattle.ws_relays.specs.Connections.{told_at_end, told_of_stream}
use Rattle.ws_relays.specs.EndPlaces.{AskedEnd, EndThere, HeldEnd, LostEnd, WasToldOf}
use Rattle.ws_relays.specs.Onces.{OnceValue}
use Rattle.ws_relays.specs.declared.once.Once.{Once}

-- What is asked of an end is what its tap asks for now, or nothing. What happens at the other end changes nothing of
-- that: a pipe that holds bytes takes none, and one that takes bytes holds none.
abbrev pub FitsTap : Role → Tap → OnceValue → Type 0
FitsTap role tap once = ((once.bytes ≡ []) ⊎ (once.bytes ≡ waits_for role tap))
    × ((once.room ≡ 0) ⊎ (once.room ≡ room_from role tap))
    × ((once.ends ≡ false) ⊎ (ends_wanted role tap ≡ true))

-- so it is of this end, if something is
abbrev pub AsksFitly : {S : Type 0} → Role → Tap → EndThere S → Type 0
AsksFitly role tap (AskedEnd slot) = FitsTap role tap slot.machine
AsksFitly role tap _ = ⊤

-- the tap was told just what was told of the stream of this end
pub record IsTappedEnd {S : Type 0} (did : S → S → List Deed → Type 0) (role : Role) (tap : Tap) (told : List TapTold)
    (there : EndThere S) : Type 0 where
  pub stream : List Told
  pub was_told : WasToldOf did there stream
  pub same : flat_map (told_of_stream role) stream ≡ told_at_end role told
  pub fits : AsksFitly role tap there

-- of one that was lost: as it was seen last
abbrev pub IsTappedAs : {S : Type 0} → (S → S → List Deed → Type 0) → Role → Tap → List TapTold → EndThere S → Type 0
IsTappedAs did role tap told (AskedEnd slot) = IsTappedEnd did role tap told (AskedEnd slot)
IsTappedAs did role tap told (HeldEnd stream) = IsTappedEnd did role tap told (HeldEnd stream)
IsTappedAs {S} did role tap told LostEnd = (slot : Slot Once S) × IsTappedEnd did role tap told (AskedEnd slot)
IsTappedAs did role tap told _ = ⊥

-- so it is in this place
abbrev pub IsTappedEndIn : {S : Type 0} → (S → S → List Deed → Type 0) → Role → Tap → List TapTold → List (EndThere S)
    → ℕ → Type 0
IsTappedEndIn {S} did role tap told ends at = (there : EndThere S) × (slice_get ends at ≡ Some there)
    × IsTappedAs did role tap told there
