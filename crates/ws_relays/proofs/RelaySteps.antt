-- A step of a tapped connection whose ends stand in places: something has happened at one of them, or something is
-- asked of one.
use Rattle.std.proofs.Common.{◌≡◌, ℕ, List, ◌++◌, Some, sym, ◌∙◌, subst, slice_get, slice_set}
use Rattle.std.proofs.lemmas.Option.{same_Some, slice_get_within}
use Rattle.ws_wire.specs.declared.role.Role.{Role}
use Rattle.ws_wire.specs.declared.role.Role.TheVariants.{Client, Server}
use Rattle.ws_machines.specs.Told.{Told}
use Rattle.ws_loops.specs.Deeds.{Deed}
use Rattle.ws_loops.specs.declared.slot.Slot.{Slot}
use Rattle.ws_loops.proofs.PlaceLemmas.{get_set_other, get_set_same}
use Rattle.ws_tap.specs.Told.{TapTold, other_end}
use Rattle.ws_tap.specs.Tapping.{HasTapped, waits_for}
use Rattle.ws_tap.specs.declared.tap.Tap.{Tap}
use Rattle.ws_tap.specs.declared.tapped.Tapped.{Tapped}
use Rattle.ws_tap.specs.declared.tapping.TapEnd.{TapEnd}
use Rattle.ws_relays.specs.Connections.{IsTappedSoFar, IsTappedTo}
use Rattle.ws_relays.specs.EndPlaces.{AskedEnd, EndThere, GoOn, HappensNext, HeldEnd, IsAskedNow, WasToldOf}
use Rattle.ws_relays.specs.Relayed.{IsAskFor, MayHappenAt, fate_behind, happened_told}
use Rattle.ws_relays.specs.TappedEnds.{IsTappedAs, IsTappedEndIn}
use Rattle.ws_relays.specs.declared.ends.Ask.{Ask}
use Rattle.ws_relays.specs.declared.once.Happened.{Happened}
use Rattle.ws_relays.specs.declared.once.Once.{Once}
use Rattle.ws_relays.specs.declared.relay.Fate.TheVariants as fate
use Rattle.ws_relays.specs.declared.relay.Relay.{Relay}
use Rattle.ws_relays.proofs.RelayLemmas.{end_asked, end_goes_on, end_told, may_happen, other_told, tapped_to}
use Rattle.ws_relays.proofs.RelayLemmas.{tapped_so_far}

-- what stands in this place is this
there_is : {S : Type 0} (did : S → S → List Deed → Type 0) (role : Role) (tap : Tap) (told : List TapTold)
    (ends : List (EndThere S)) (at : ℕ) (there : EndThere S) → slice_get ends at ≡ Some there
    → IsTappedEndIn did role tap told ends at → IsTappedAs did role tap told there
there_is did role tap told ends at there is (x, was, e) =
    subst (λ (y : EndThere _). IsTappedAs did role tap told y) (same_Some x there (sym was ∙ is)) e

-- all ends go on
pub goes_on_in : {S : Type 0} (did : S → S → List Deed → Type 0) (role : Role) (tap : Tap) (told : List TapTold)
    (old new : List (EndThere S)) (at : ℕ) → GoOn did old new → IsTappedEndIn did role tap told old at
    → IsTappedEndIn did role tap told new at
goes_on_in did role tap told old new at on (x, was, e) =
    let (y, is, like) = on.1 at x was in (y, is, end_goes_on did role tap told x y like e)

-- another end came into another place
pub other_in : {S : Type 0} (did : S → S → List Deed → Type 0) (role : Role) (tap : Tap) (told : List TapTold)
    (ends : List (EndThere S)) (put at : ℕ) (there : EndThere S) → (at ≡ put → ⊥)
    → IsTappedEndIn did role tap told ends at → IsTappedEndIn did role tap told (slice_set ends put there) at
other_in did role tap told ends put at there other (x, was, e) =
    (x, get_set_other ends put at there other ∙ was, e)

-- ---- something is asked

-- what its tap asks for now is asked of an end
pub asked_in : {S : Type 0} (did : S → S → List Deed → Type 0) (role : Role) (relay : Relay) (told : List TapTold)
    (old new : List (EndThere S)) (at : ℕ) (ask : Ask) → IsAskFor role relay (Some ask) → IsAskedNow did old new at ask
    → IsTappedEndIn did role relay.tap.value told old at → IsTappedEndIn did role relay.tap.value told new at
asked_in did role relay told old new at ask is now e = (
  now.after,
  subst (λ (l : List (EndThere _)). slice_get l at ≡ Some now.after) (sym now.is)
      (get_set_same old at now.after (slice_get_within old at now.before now.was)),
  end_asked did role relay told ask now.before now.after is now.asked now.told
      (there_is did role relay.tap.value told old at now.before now.was e),
)

-- and the other is as it was
pub asked_beside : {S : Type 0} (did : S → S → List Deed → Type 0) (role : Role) (tap : Tap) (told : List TapTold)
    (old new : List (EndThere S)) (at other : ℕ) (ask : Ask) → (other ≡ at → ⊥) → IsAskedNow did old new at ask
    → IsTappedEndIn did role tap told old other → IsTappedEndIn did role tap told new other
asked_beside did role tap told old new at other ask apart now e =
    subst (λ (l : List (EndThere _)). IsTappedEndIn did role tap told l other) (sym now.is)
    (other_in did role tap told old at other now.after apart e)

-- ---- something has happened

-- this is what came of a wait then (HasComeAmong), at the end in this place
abbrev pub HasHappenedAt : {S : Type 0} → (S → S → List Deed → Type 0) → List (EndThere S) → List (EndThere S) → ℕ
    → Happened → Type 0
HasHappenedAt {S} did old new at what = (slot : Slot Once S) × (after : S) × (slice_get old at ≡ Some (AskedEnd slot))
    × GoOn did (slice_set old at (HeldEnd after)) new
    × ((earlier : List Told) → WasToldOf did (AskedEnd slot) earlier → HappensNext did slot after what earlier)

-- it was asked for
pub step_may : {S : Type 0} (did : S → S → List Deed → Type 0) (role : Role) (tap : Tap) (told : List TapTold)
    (old new : List (EndThere S)) (at : ℕ) (what : Happened)
    → HasHappenedAt did old new at what → IsTappedEndIn did role tap told old at → MayHappenAt role tap what
step_may did role tap told old new at what c e =
    let was = there_is did role tap told old at (AskedEnd c.0) c.2 e in
    let n = c.4 was.stream was.was_told in may_happen role tap c.0.machine n.told what was.fits n.asked n.so

-- its end stands by it, behind that
pub step_here : {S : Type 0} (did : S → S → List Deed → Type 0) (role : Role) (tap later : Tap)
    (told : List TapTold) (old new : List (EndThere S)) (at : ℕ) (what : Happened)
    → HasHappenedAt did old new at what → IsTappedEndIn did role tap told old at
    → IsTappedEndIn did role later (told ++ happened_told role (waits_for role tap) what) new at
step_here did role tap later told old new at what c e =
    let was = there_is did role tap told old at (AskedEnd c.0) c.2 e in
    let behind = told ++ happened_told role (waits_for role tap) what in
    goes_on_in did role later behind (slice_set old at (HeldEnd c.1)) new at c.3 (
      HeldEnd c.1,
      get_set_same old at (HeldEnd c.1) (slice_get_within old at (AskedEnd c.0) c.2),
      end_told did role tap later told c.0 c.1 what was (c.4 was.stream was.was_told),
    )

-- and so does the other
pub step_there : {S : Type 0} (did : S → S → List Deed → Type 0) (role : Role) (tap later : Tap) (tapped : Tapped)
    (told : List TapTold) (text after : List ℕ) (old new : List (EndThere S)) (at other : ℕ) (what : Happened)
    → HasHappenedAt did old new at what → (other ≡ at → ⊥) → MayHappenAt role tap what
    → HasTapped tapped told tap text
    → HasTapped tapped (told ++ happened_told role (waits_for role tap) what) later after
    → IsTappedEndIn did (other_end role) tap told old other
    → IsTappedEndIn did (other_end role) later (told ++ happened_told role (waits_for role tap) what) new other
step_there did role tap later tapped told text after old new at other what c apart may h now (x, was, e) =
    let behind = told ++ happened_told role (waits_for role tap) what in
    goes_on_in did (other_end role) later behind (slice_set old at (HeldEnd c.1)) new other c.3 (
      x,
      get_set_other old at other (HeldEnd c.1) apart ∙ was,
      other_told did role tap later what x tapped told text after h now may e,
    )

-- where it is over behind that
pub step_over : {S : Type 0} (did : S → S → List Deed → Type 0) (role : Role) (tap later : Tap) (tapped : Tapped)
    (told : List TapTold) (text after : List ℕ) (old new : List (EndThere S)) (at other : ℕ) (what : Happened)
    (end : TapEnd) → HasHappenedAt did old new at what → MayHappenAt role tap what
    → HasTapped tapped told tap text
    → HasTapped tapped (told ++ happened_told role (waits_for role tap) what) later after
    → IsTappedEndIn did role tap told old at → IsTappedEndIn did (other_end role) tap told old other
    → fate_behind what later ≡ fate.Over end → IsTappedTo did tapped after end
step_over did role tap later tapped told text after old new at other what end c may h now e (x, was, o) over =
    let here = there_is did role tap told old at (AskedEnd c.0) c.2 e in
    tapped_to did role tapped tap later told after what end c.0 c.1 x here (c.4 here.stream here.was_told) now
    (other_told did role tap later what x tapped told text after h now may o) over

-- ---- while it goes on

pub so_far_in : {S : Type 0} (did : S → S → List Deed → Type 0) (tapped : Tapped) (told : List TapTold) (tap : Tap)
    (text : List ℕ) (ends : List (EndThere S)) (at other : ℕ) → HasTapped tapped told tap text
    → IsTappedEndIn did Client tap told ends at → IsTappedEndIn did Server tap told ends other
    → IsTappedSoFar did tapped text
so_far_in did tapped told tap text ends at other h (x, was, e) (y, is, o) =
    tapped_so_far did tapped told tap text x y h e o
