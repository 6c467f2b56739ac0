-- Errands in a line, the oldest first: what stands at each place of the line belongs to the machine that was begun
-- there, and what is handed out follows from that machine and from what its stream did.
use Rattle.std.specs.Prelude.{◌≡◌, ℕ, ◌+◌, ◌≤◌, ⊤, Bool, true, false, List, [], ◌∷◌, length, Option, None, Some}
use Rattle.std.specs.Prelude.{slice_get, slice_set}
use Rattle.ws_machines.specs.Told.{Told}
use Rattle.ws_machines.specs.Machines.{Wants}
use Rattle.ws_loops.specs.Deeds.{Deed, Happened}
use Rattle.ws_loops.specs.Slots.{HasRunBy}
use Rattle.ws_loops.specs.declared.slot.Slot.{Slot}
use Rattle.ws_networks.specs.Meetings.{HasEnded}
use Rattle.ws_networks.specs.NetworkLoops.{IsHandedOut, Standing, begun_slot}
use Rattle.ws_networks.specs.NetworkLoops.Standing.{Broke, Free, Lost, Served, Trying}
use Rattle.ws_networks.specs.declared.bounds.Bounds.{Bounds}
use Rattle.ws_networks.specs.declared.network_loop.Taken.{Taken}
use Rattle.ws_networks.specs.declared.network_loop.Taken.TheVariants as taken
use Rattle.wst_errands.specs.declared.errands.Came.{Came}
use Rattle.wst_errands.specs.declared.errands.Came.TheVariants.{Ended, GivenUp, NotMade}
use Rattle.wst_errands.specs.declared.errands.Stage.{Stage}
use Rattle.wst_errands.specs.declared.errands.Stage.TheVariants.{Over, UnderWay}

-- so many are under way at a time; how the places of the loop stand, and how far each errand has come
pub record ErrandsValue (M A S W E : Type 0) : Type 0 where
  pub at_once : ℕ
  pub standings : List (Standing M S A W)
  pub line : List (Stage E W)

-- there is a place for each that may be under way
abbrev pub HasItsPlaces : {M A S W E : Type 0} → ErrandsValue M A S W E → Type 0
HasItsPlaces x = length x.standings ≡ x.at_once

-- ---- one errand

-- Since a connection was made for it, no earlier than it was begun, its machine was run over that: the stream had done
-- nothing, what the machine was told by now is what the stream did then and what the clock says, and its limits began
-- with that time.
pub record WasRunSince {M S : Type 0} (agrees : M → M → List Told → Type 0) (wants : M → Wants)
    (did : S → S → List Deed → Type 0) (start : M) (bounds : Bounds) (begun now : ℕ) (slot : Slot M S) : Type 0 where
  pub made : ℕ
  pub later : begun ≤ made
  pub first : S
  pub fresh : did first first []
  pub happened : List Happened
  pub to : ℕ
  pub by : to ≤ now
  pub run : HasRunBy agrees wants did made (begun_slot start first bounds made) happened to slot

-- How the place of an errand stands by now that was begun so: a connection is under way for it, over which this machine
-- is to be run, within these bounds; it was made, and the machine run so; memory ran out for it; or no connection was
-- made.
abbrev pub IsUnderWayFor : {M S A W : Type 0} → (M → M → List Told → Type 0) → (M → Wants)
    → (S → S → List Deed → Type 0) → M → Bounds → ℕ → ℕ → Standing M S A W → Type 0
IsUnderWayFor agrees wants did start bounds begun now Free = ⊥
IsUnderWayFor agrees wants did start bounds begun now (Served slot) =
    WasRunSince agrees wants did start bounds begun now slot
IsUnderWayFor agrees wants did start bounds begun now Broke = ⊤
IsUnderWayFor agrees wants did start bounds begun now (Trying machine dial) = (machine ≡ start)
    × (dial.tries.bounds ≡ bounds) × (begun ≤ now)
IsUnderWayFor agrees wants did start bounds begun now (Lost why) = ⊤

-- What came of an errand that was begun so: its machine was run until it was done over a connection that was made
-- since; or there is none.
abbrev pub IsErrandEnd : {M S E W : Type 0} → (M → M → List Told → Type 0) → (M → Wants) → (M → List Told → E → Type 0)
    → (S → S → List Deed → Type 0) → M → Bounds → ℕ → Came E W → Type 0
IsErrandEnd {M} {S} agrees wants gives did start bounds begun (Ended end how) = (made to : ℕ) × (begun ≤ made)
    × ((stream : S) × HasEnded agrees wants gives did bounds made to start end stream)
IsErrandEnd agrees wants gives did start bounds begun (NotMade why) = ⊤
IsErrandEnd agrees wants gives did start bounds begun GivenUp = ⊤

-- ---- the line

-- how far such an errand has come
abbrev pub IsStageFor : {M S A W E : Type 0} → (M → M → List Told → Type 0) → (M → Wants)
    → (M → List Told → E → Type 0) → (S → S → List Deed → Type 0) → M → Bounds → ℕ → ℕ → List (Standing M S A W)
    → Stage E W → Type 0
IsStageFor {M} {S} {A} {W} agrees wants gives did start bounds begun now standings (UnderWay at) =
    (x : Standing M S A W) × (slice_get standings at ≡ Some x)
    × IsUnderWayFor agrees wants did start bounds begun now x
IsStageFor {S = S} agrees wants gives did start bounds begun now standings (Over came) =
    IsErrandEnd {S = S} agrees wants gives did start bounds begun came

-- At this place of the line stands the errand that was begun with this machine, of which nothing was told, within these
-- bounds, by the first time; it has come so far by the second.
pub record IsErrandAt {M S A W E : Type 0} (agrees : M → M → List Told → Type 0) (wants : M → Wants)
    (gives : M → List Told → E → Type 0) (did : S → S → List Deed → Type 0) (x : ErrandsValue M A S W E) (place : ℕ)
    (start : M) (bounds : Bounds) (begun now : ℕ) : Type 0 where
  pub stage : Stage E W
  pub stands : slice_get x.line place ≡ Some stage
  pub untold : agrees start start []
  pub came_so_far : IsStageFor agrees wants gives did start bounds begun now x.standings stage

-- each that stands in the line still stands at its place, and has come so far by now
abbrev pub KeepsLine : {M S A W E : Type 0} → (M → M → List Told → Type 0) → (M → Wants)
    → (M → List Told → E → Type 0) → (S → S → List Deed → Type 0) → ℕ → ℕ → ErrandsValue M A S W E
    → ErrandsValue M A S W E → Type 0
KeepsLine {M} agrees wants gives did from to old new = (place : ℕ) (start : M) (bounds : Bounds) (begun : ℕ)
    → IsErrandAt agrees wants gives did old place start bounds begun from
    → IsErrandAt agrees wants gives did new place start bounds begun to

abbrev pub is_under_way : {E W : Type 0} → Stage E W → Bool
is_under_way (UnderWay at) = true
is_under_way (Over came) = false

-- how many of them are under way
abbrev pub count_under_way : {E W : Type 0} → List (Stage E W) → ℕ
count_under_way [] = 0
count_under_way (UnderWay at ∷ line) = 1 + count_under_way line
count_under_way (Over came ∷ line) = count_under_way line

abbrev pub is_stage_over : {E W : Type 0} → Option (Stage E W) → Bool
is_stage_over None = false
is_stage_over (Some (UnderWay at)) = false
is_stage_over (Some (Over came)) = true

-- ---- what is kept

abbrev pub IsSomething : {M S A W : Type 0} → Standing M S A W → Type 0
IsSomething Free = ⊥
IsSomething (Served slot) = ⊤
IsSomething Broke = ⊤
IsSomething (Trying machine dial) = ⊤
IsSomething (Lost why) = ⊤

-- something stands in this place of the loop
abbrev pub IsPlaceTaken : {M S A W : Type 0} → List (Standing M S A W) → ℕ → Type 0
IsPlaceTaken {M} {S} {A} {W} standings at = (x : Standing M S A W) × (slice_get standings at ≡ Some x) × IsSomething x

-- In each place of the loop in which something stands just one errand is under way.
pub record IsLineSound {M S A W E : Type 0} (standings : List (Standing M S A W)) (line : List (Stage E W)) : Type 0
  where
    pub taken : (place at : ℕ) → slice_get line place ≡ Some (UnderWay at) → IsPlaceTaken standings at
    pub listed : (at : ℕ) → IsPlaceTaken standings at → (place : ℕ) × (slice_get line place ≡ Some (UnderWay at))
    pub one : (place other at : ℕ) → slice_get line place ≡ Some (UnderWay at)
        → slice_get line other ≡ Some (UnderWay at) → place ≡ other

-- ---- parts of a run

-- an errand is under way in this place of the loop
abbrev pub IsInLine : {E W : Type 0} → List (Stage E W) → ℕ → Type 0
IsInLine line at = (place : ℕ) × (slice_get line place ≡ Some (UnderWay at))

-- it is over, and this came of it
abbrev pub IsNotedAt : {E W : Type 0} → ℕ → Came E W → List (Stage E W) → List (Stage E W) → Type 0
IsNotedAt at came old new = (place : ℕ) × (slice_get old place ≡ Some (UnderWay at))
    × (new ≡ slice_set old place (Over came))

-- what was handed out of a place in which something had ended
abbrev pub IsTakenOver : {M S W : Type 0} → (M → Wants) → Taken M S W → Type 0
IsTakenOver wants (taken.Slot slot) = (wants slot.machine).done ≡ true
IsTakenOver wants (taken.Missed why) = ⊤
IsTakenOver wants taken.Broken = ⊤
IsTakenOver wants taken.Nothing = ⊥
IsTakenOver wants taken.UnderWay = ⊥

-- what came of the errand for which this stood there, however it was begun
abbrev pub IsCameOf : {M S W E : Type 0} → (M → M → List Told → Type 0) → (M → Wants) → (M → List Told → E → Type 0)
    → (S → S → List Deed → Type 0) → Taken M S W → Came E W → Type 0
IsCameOf {M} {S} agrees wants gives did (taken.Slot slot) came = (start : M) (bounds : Bounds) (begun now : ℕ)
    → agrees start start [] → WasRunSince agrees wants did start bounds begun now slot
    → IsErrandEnd {S = S} agrees wants gives did start bounds begun came
IsCameOf agrees wants gives did (taken.Missed why) came = came ≡ NotMade why
IsCameOf agrees wants gives did _ came = ⊥

-- What ended in this place was taken out of it, and what came of it is noted in the line.
pub record HasEndedIn {M S A W E : Type 0} (agrees : M → M → List Told → Type 0) (wants : M → Wants)
    (gives : M → List Told → E → Type 0) (did : S → S → List Deed → Type 0) (at : ℕ)
    (old new : List (Standing M S A W)) (before after : List (Stage E W)) : Type 0 where
  pub taken : Taken M S W
  pub handed_out : IsHandedOut agrees wants old at taken
  pub free : new ≡ slice_set old at Free
  pub came : Came E W
  pub is : IsCameOf agrees wants gives did taken came
  pub noted : IsNotedAt at came before after

abbrev pub given_up : {E W : Type 0} → Stage E W → Stage E W
given_up (UnderWay at) = Over GivenUp
given_up (Over came) = Over came

-- all that were under way are given up
pub record AreGivenUp {E W : Type 0} (old new : List (Stage E W)) : Type 0 where
  pub many : length new ≡ length old
  pub each : (place : ℕ) (stage : Stage E W) → slice_get old place ≡ Some stage
      → slice_get new place ≡ Some (given_up stage)
