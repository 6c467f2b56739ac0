-- The ends of connections in their places: what each was asked, and what its stream did of that.
use Rattle.std.specs.Prelude.{◌≡◌, ◌⊎◌, ℕ, ◌<◌, ◌≤◌, ⊤, Bool, true, false, List, [], ◌∷◌, ◌++◌, length, Option}
use Rattle.std.specs.Prelude.{None, Some, slice_get, slice_set}
use Rattle.std.specs.List.{AllByRecursion, flat_map}
use Rattle.ws_machines.specs.Told.{Told}
use Rattle.ws_machines.specs.Told.Told.{Came, DeadlinePassed, NothingCame, Reported}
use Rattle.ws_loops.specs.Deeds.{Deed}
use Rattle.ws_loops.specs.Deeds.Deed.{Did, Emptied}
use Rattle.ws_loops.specs.Listeners.{AcceptDeed, HasHeard}
use Rattle.ws_loops.specs.Listeners.AcceptDeed.{CouldNotGive, GaveClient, HadNoClient, LostClient}
use Rattle.ws_loops.specs.declared.pace.Pace.{Pace}
use Rattle.ws_loops.specs.declared.places.Place.{Place}
use Rattle.ws_loops.specs.declared.places.Place.TheVariants.{Broken, Empty, Open, Pending}
use Rattle.ws_loops.specs.declared.slot.Slot.{Slot}
use Rattle.ws_relays.specs.Onces.{HappenedSo, IsOnce, OnceValue, WasAskedFor}
use Rattle.ws_relays.specs.declared.ends.Ask.{Ask}
use Rattle.ws_relays.specs.declared.ends.Beside.{Beside}
use Rattle.ws_relays.specs.declared.ends.Beside.TheVariants as beside
use Rattle.ws_relays.specs.declared.ends.EndEvent.{EndEvent}
use Rattle.ws_relays.specs.declared.ends.EndEvent.TheVariants as came
use Rattle.ws_relays.specs.declared.once.Happened.{Happened}
use Rattle.ws_relays.specs.declared.once.Once.{Once}

-- ---- what stands in a place

-- No end, and a client may be taken for it; none, and it is kept; none, and a connection is under way for it. An end of
-- which something is asked; one of which nothing is; one for which memory ran out.
pub data EndThere (S : Type 0) : Type 0 where
  FreePlace : EndThere S
  KeptPlace : EndThere S
  AwaitedPlace : EndThere S
  AskedEnd : Slot Once S → EndThere S
  HeldEnd : S → EndThere S
  LostEnd : EndThere S

-- no slot stands there, but this is beside the place
abbrev pub resting : {S : Type 0} → Beside S → EndThere S
resting beside.Nothing = KeptPlace
resting beside.UnderWay = AwaitedPlace
resting (beside.Held stream pace) = HeldEnd stream

abbrev pub end_there : {S : Type 0} → Place Once S → Beside S → EndThere S
end_there Empty x = FreePlace
end_there (Open slot) x = AskedEnd slot
end_there (Pending watch) x = resting x
end_there Broken x = LostEnd

-- what stands in each
abbrev pub ends_there : {S : Type 0} → List (Place Once S) → List (Beside S) → List (EndThere S)
ends_there [] all = []
ends_there (place ∷ places) [] = []
ends_there (place ∷ places) (x ∷ all) = end_there place x ∷ ends_there places all

abbrev pub is_end_there : {S : Type 0} → EndThere S → Bool
is_end_there FreePlace = false
is_end_there KeptPlace = false
is_end_there AwaitedPlace = false
is_end_there (AskedEnd slot) = true
is_end_there (HeldEnd stream) = true
is_end_there LostEnd = true

-- in this place an end stands, or none
abbrev pub HasEndAt : {S : Type 0} → List (EndThere S) → ℕ → Bool → Type 0
HasEndAt {S} ends at has = (there : EndThere S) × (slice_get ends at ≡ Some there) × (is_end_there there ≡ has)

-- no slot does, nor did one for which memory ran out
abbrev pub IsResting : {S : Type 0} → EndThere S → Type 0
IsResting FreePlace = ⊤
IsResting KeptPlace = ⊤
IsResting AwaitedPlace = ⊤
IsResting (AskedEnd slot) = ⊥
IsResting (HeldEnd stream) = ⊤
IsResting LostEnd = ⊥

abbrev pub IsRestAt : {S : Type 0} → List (EndThere S) → ℕ → Type 0
IsRestAt {S} ends at = (there : EndThere S) × (slice_get ends at ≡ Some there) × IsResting there

-- so many places, and all of them are free
abbrev pub AreFreeEnds : {S : Type 0} → ℕ → List (EndThere S) → Type 0
AreFreeEnds len ends = (length ends ≡ len) × ((at : ℕ) → at < len → slice_get ends at ≡ Some FreePlace)

-- ---- what its stream did

-- what a machine is told of a thing that a stream did
abbrev pub stream_told : Deed → List Told
stream_told (Did told) = told ∷ []
stream_told (Emptied bytes) = Came bytes ∷ []
stream_told _ = []

-- a stream does so, and no clock
abbrev pub IsDoneByStream : Told → Type 0
IsDoneByStream NothingCame = ⊥
IsDoneByStream (Reported lines) = ⊥
IsDoneByStream (DeadlinePassed waited) = ⊥
IsDoneByStream _ = ⊤

-- nothing is waited for in vain
abbrev pub HasNoLimits : Pace → Type 0
HasNoLimits pace = (pace.limit ≡ None) × (pace.deadline ≡ None)

-- The stream of this end had done nothing at first, and then what was told of it, and this, which was not told yet: one
-- thing at most.
pub record StreamDid {S : Type 0} (did : S → S → List Deed → Type 0) (stream : S) (told untold : List Told) : Type 0
  where
    pub first : S
    pub deeds : List Deed
    pub fresh : did first first []
    pub did_all : did first stream deeds
    pub all : flat_map stream_told deeds ≡ told ++ untold
    pub few : length untold ≤ 1
    pub by_stream : AllByRecursion IsDoneByStream untold

-- Just this was told of an end. Of one at which something has happened since that was not told; of one that is lost
-- something may have.
abbrev pub WasToldOf : {S : Type 0} → (S → S → List Deed → Type 0) → EndThere S → List Told → Type 0
WasToldOf did (AskedEnd slot) told = (begun : OnceValue) × (untold : List Told) × IsOnce begun slot.machine untold
    × StreamDid did slot.stream told untold × HasNoLimits slot.pace
WasToldOf did (HeldEnd stream) told = StreamDid did stream told []
WasToldOf {S} did LostEnd told = (stream : S) × (untold : List Told) × StreamDid did stream told untold
WasToldOf did _ told = ⊥

-- ---- what is asked

-- this is asked of it, and nothing has happened
pub record AsksSo (x : OnceValue) (ask : Ask) : Type 0 where
  pub bytes : x.bytes ≡ ask.bytes.items
  pub room : x.room ≡ ask.room
  pub ends : x.ends ≡ ask.ends
  pub none : x.happened ≡ None

-- nothing is
abbrev pub AsksNothing : Ask → Type 0
AsksNothing ask = (ask.bytes.items ≡ []) × (ask.room ≡ 0) × (ask.ends ≡ false)

-- something is
abbrev pub AsksSome : Ask → Type 0
AsksSome ask = (ask.ends ≡ true) ⊎ ((0 < length ask.bytes.items) ⊎ (0 < ask.room))

-- this is asked of an end with this stream; where it is nothing, it is held
abbrev pub IsAskedFrom : {S : Type 0} → Ask → S → EndThere S → Type 0
IsAskedFrom ask stream (AskedEnd slot) = (slot.stream ≡ stream) × AsksSo slot.machine ask
IsAskedFrom ask stream (HeldEnd same) = (same ≡ stream) × AsksNothing ask
IsAskedFrom ask stream _ = ⊥

-- so it is where nothing has happened; an end at which something has is as it was
abbrev pub IsAskedUnless : {S : Type 0} → Option Happened → Ask → Slot Once S → EndThere S → Type 0
IsAskedUnless None ask slot after = IsAskedFrom ask slot.stream after
IsAskedUnless (Some what) ask slot after = after ≡ AskedEnd slot

abbrev pub IsAskedOf : {S : Type 0} → Ask → EndThere S → EndThere S → Type 0
IsAskedOf ask (AskedEnd slot) after = IsAskedUnless slot.machine.happened ask slot after
IsAskedOf ask (HeldEnd stream) after = IsAskedFrom ask stream after
IsAskedOf ask _ after = ⊥

-- This is asked of the end in this place, of which the same was told as before. The others are as they were.
pub record IsAskedNow {S : Type 0} (did : S → S → List Deed → Type 0) (old new : List (EndThere S)) (at : ℕ)
    (ask : Ask) : Type 0 where
  pub before : EndThere S
  pub after : EndThere S
  pub was : slice_get old at ≡ Some before
  pub is : new ≡ slice_set old at after
  pub asked : IsAskedOf ask before after
  pub told : (told : List Told) → WasToldOf did before told → WasToldOf did after told

-- ---- what happens

-- the same is asked
pub record AsksAlike (old new : OnceValue) : Type 0 where
  pub bytes : new.bytes ≡ old.bytes
  pub room : new.room ≡ old.room
  pub ends : new.ends ≡ old.ends

-- it is as it was; or the same is asked of it, and more may have happened at it that was not told; or it is lost
abbrev pub GoesOnAs : {S : Type 0} → (S → S → List Deed → Type 0) → EndThere S → EndThere S → Type 0
GoesOnAs did (AskedEnd old) (AskedEnd new) = (told : List Told) → WasToldOf did (AskedEnd old) told
    → AsksAlike old.machine new.machine × WasToldOf did (AskedEnd new) told
GoesOnAs did (AskedEnd old) LostEnd = (told : List Told) → WasToldOf did (AskedEnd old) told
    → WasToldOf did LostEnd told
GoesOnAs did (AskedEnd old) _ = ⊥
GoesOnAs did x y = y ≡ x

-- so each does
abbrev pub GoOn : {S : Type 0} → (S → S → List Deed → Type 0) → List (EndThere S) → List (EndThere S) → Type 0
GoOn {S} did old new = (length new ≡ length old) × ((at : ℕ) (x : EndThere S) → slice_get old at ≡ Some x
    → (y : EndThere S) × (slice_get new at ≡ Some y) × GoesOnAs did x y)

-- One thing has happened of which it was not told: the stream of the end did it, which was asked for, and it is told
-- now.
pub record HappensNext {S : Type 0} (did : S → S → List Deed → Type 0) (slot : Slot Once S) (after : S)
    (what : Happened) (earlier : List Told) : Type 0 where
  pub told : Told
  pub asked : WasAskedFor slot.machine told
  pub by_stream : IsDoneByStream told
  pub so : HappenedSo told what
  pub was_told : WasToldOf did (HeldEnd after) (earlier ++ told ∷ [])

-- What came of it, among the ends: one thing at one of them, of which nothing is asked any more; the connection that is
-- under way for a place was stirred; a client for a place that was free, and is kept for it; or none can be taken.
abbrev pub HasComeAmong : {S W : Type 0} → (S → S → List Deed → Type 0) → List (EndThere S) → List (EndThere S)
    → EndEvent S W → Type 0
HasComeAmong {S} did old new (came.Happened at what) = (slot : Slot Once S) × (after : S)
    × (slice_get old at ≡ Some (AskedEnd slot)) × GoOn did (slice_set old at (HeldEnd after)) new
    × ((earlier : List Told) → WasToldOf did (AskedEnd slot) earlier → HappensNext did slot after what earlier)
HasComeAmong did old new (came.Stirred at) = (slice_get old at ≡ Some AwaitedPlace) × GoOn did old new
HasComeAmong did old new (came.Client at stream) = (slice_get old at ≡ Some FreePlace)
    × GoOn did (slice_set old at KeptPlace) new × did stream stream []
HasComeAmong did old new (came.Full why) = GoOn did old new

-- what the listener did last for that
abbrev pub heard_by : {S W : Type 0} → EndEvent S W → List (AcceptDeed W)
heard_by (came.Happened at what) = []
heard_by (came.Stirred at) = []
heard_by (came.Client at stream) = GaveClient at ∷ []
heard_by (came.Full why) = CouldNotGive why ∷ []

-- each time it had no client, or one that was lost
abbrev pub AreInVain : {W : Type 0} → List (AcceptDeed W) → Type 0
AreInVain [] = ⊤
AreInVain (GaveClient at ∷ deeds) = ⊥
AreInVain (LostClient why ∷ deeds) = AreInVain deeds
AreInVain (CouldNotGive why ∷ deeds) = ⊥
AreInVain (HadNoClient ∷ deeds) = AreInVain deeds

-- the listener was asked some times in vain, and then did this
abbrev pub HasHeardThen : {L W : Type 0} → (L → L → List (AcceptDeed W) → Type 0) → L → L → List (AcceptDeed W)
    → Type 0
HasHeardThen {L} {W} did old new last = (deeds : List (AcceptDeed W)) × AreInVain deeds
    × HasHeard did old new (deeds ++ last)
