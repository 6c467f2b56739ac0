-- A loop: how its places stand between rounds, a round over them, and a run.
use Rattle.std.specs.Prelude.{◌≡◌, ℕ, ◌<◌, ◌≤◌, ◌⊎◌, ⊤, Bool, true, false, List, []}
use Rattle.std.specs.Prelude.{length, Option, Some, None, slice_get, slice_set}
use Rattle.ws_machines.specs.Told.{Told}
use Rattle.ws_machines.specs.Machines.{Wants}
use Rattle.ws_loops.specs.Deeds.{Deed, Happened, all_moved, all_shown}
use Rattle.ws_loops.specs.Sinks.{AreLinesOfPlaces, HasTakenLines, lines_at, said_at}
use Rattle.ws_loops.specs.Limits.{IsTree}
use Rattle.ws_loops.specs.Paces.{IsBefore, is_due}
use Rattle.ws_loops.specs.Places.{AreOccupied, IsPlaceOver, IfOpen}
use Rattle.ws_loops.specs.Slots.{HasBroken, HasRunBy, HasTurn, IsAble, share_len}
use Rattle.ws_loops.specs.Watches.{HasBeenWatched, is_watch_due, watched_by}
use Rattle.ws_loops.specs.declared.inside.Inside.{Inside}
use Rattle.ws_loops.specs.declared.places.Agenda.{Agenda}
use Rattle.ws_loops.specs.declared.places.Place.{Place}
use Rattle.ws_loops.specs.declared.places.Place.TheVariants.{Empty, Open, Pending, Broken}
use Rattle.ws_loops.specs.declared.places.Seats.{Seats}
use Rattle.ws_loops.specs.declared.poller.Mark.TheVariants as mark
use Rattle.ws_loops.specs.declared.poller.Readiness.{Readiness}
use Rattle.ws_loops.specs.declared.poller.Wake.{Wake}
use Rattle.ws_loops.specs.declared.slot.Slot.{Slot}
use Rattle.ws_loops.specs.declared.rounds.Outlook.{Outlook}
use Rattle.ws_loops.specs.declared.rounds.Outlook.TheVariants as outlook

-- ---- between rounds

-- nothing is due in a place before this time, if its stream isn't found ready
abbrev pub RestsUntil : {M S : Type 0} → (M → Wants) → Option ℕ → Place M S → Type 0
RestsUntil wants time Empty = ⊤
RestsUntil wants time (Open slot) = (t : ℕ) → IsBefore t time → is_due (wants slot.machine) slot.pace t ≡ false
RestsUntil wants time (Pending watch) = (t : ℕ) → IsBefore t time → is_watch_due watch t ≡ false
RestsUntil wants time Broken = ⊤

-- this number is in the list, no earlier than at this place
abbrev pub IsFrom : List ℕ → ℕ → ℕ → Type 0
IsFrom list start i = (j : ℕ) × (start ≤ j) × (slice_get list j ≡ Some i)

-- This place was listed, and others stay so; or something may be due in any place.
pub record IsPlaceListed (at : ℕ) (old : List ℕ) (before : Bool) (new : List ℕ) (after : Bool) : Type 0 where
  pub stay : (i : ℕ) → IsFrom old 0 i → IsFrom new 0 i
  pub own : IsFrom new 0 at ⊎ (after ≡ true)
  pub any : (after ≡ before) ⊎ (after ≡ true)

-- it was given a number as it ended
abbrev pub IsTicketed : List (Option ℕ) → ℕ → Type 0
IsTicketed tickets i = (t : ℕ) × (slice_get tickets i ≡ Some (Some t))

-- Each machine is able to go on. Just those that have ended were given a number, none above the next one.
pub record AreSeatsSound {M S : Type 0} (agrees : M → M → List Told → Type 0) (wants : M → Wants) (seats : Seats M S)
    : Type 0 where
  pub calls : length seats.calls.items ≡ length seats.places.items
  pub tickets : length seats.tickets.items ≡ length seats.places.items
  pub able : (i : ℕ) (place : Place M S) → slice_get seats.places.items i ≡ Some place
      → IfOpen place (λ slot. IsAble agrees wants slot.machine)
  pub told : (i : ℕ) (place : Place M S) → slice_get seats.places.items i ≡ Some place → IsPlaceOver wants place
      → IsTicketed seats.tickets.items i
  pub has_ended : (i : ℕ) (place : Place M S) → slice_get seats.places.items i ≡ Some place
      → IsTicketed seats.tickets.items i → IsPlaceOver wants place
  pub given : (i t : ℕ) → slice_get seats.tickets.items i ≡ Some (Some t) → t ≤ seats.agenda.given
  pub any : seats.agenda.ended ≡ false → (i : ℕ) → IsTicketed seats.tickets.items i → ⊥
  pub limits : length seats.agenda.limits.times.items ≡ length seats.places.items
  pub tree : IsTree seats.agenda.limits

-- nothing is due in this place before its time
abbrev pub RestsAt : {M S : Type 0} → (M → Wants) → List (Option ℕ) → ℕ → Place M S → Type 0
RestsAt wants times i place = (time : Option ℕ) × (slice_get times i ≡ Some time) × RestsUntil wants time place

-- it is in this list, or nothing is due in it before its time; or something may be due in any place
abbrev pub IsSeenTo : {M S : Type 0} → (M → Wants) → List ℕ → Agenda → ℕ → Place M S → Type 0
IsSeenTo wants list agenda i place = IsFrom list 0 i ⊎ ((agenda.all ≡ true)
    ⊎ RestsAt wants agenda.limits.times.items i place)

-- each place that isn't called is seen to
abbrev pub RestsUncalled : {M S : Type 0} → (M → Wants) → Seats M S → Type 0
RestsUncalled {M} {S} wants seats = (i : ℕ) (place : Place M S) → slice_get seats.places.items i ≡ Some place
    → slice_get seats.calls.items i ≡ Some None → IsSeenTo wants seats.agenda.later.items seats.agenda i place

-- ---- one place in a round

-- it had its turn: of a slot it is a turn, or memory ran out in that; a connection that is under way was watched; its
-- lines are these
abbrev pub HasPlaceTurn : {M S : Type 0} → (M → M → List Told → Type 0) → (M → Wants) → (S → S → List Deed → Type 0)
    → Readiness → ℕ → Place M S → Place M S → List (List ℕ) → Type 0
HasPlaceTurn agrees wants did ready now Empty Empty lines = lines ≡ []
HasPlaceTurn agrees wants did ready now Broken Broken lines = lines ≡ []
HasPlaceTurn agrees wants did ready now (Open old) (Open new) lines = HasTurn agrees wants did ready now old new lines
HasPlaceTurn agrees wants did ready now (Open old) Broken lines = HasBroken agrees wants did now now old lines
HasPlaceTurn agrees wants did ready now (Pending old) (Pending new) lines = (new ≡ watched_by ready now old)
    × (lines ≡ [])
HasPlaceTurn agrees wants did ready now _ _ lines = ⊥

-- how it stands then
abbrev pub IsOutlook : {M S : Type 0} → (M → Wants) → Outlook → Place M S → Type 0
IsOutlook wants outlook.Ended place = IsPlaceOver wants place
IsOutlook wants outlook.Due place = IsPlaceOver wants place → ⊥
IsOutlook wants (outlook.Rests time) place = (IsPlaceOver wants place → ⊥) × RestsUntil wants time place

-- this place is kept for later, or something may be due in any; the others stay so
pub record IsKeptLater (at : ℕ) (old new : Agenda) : Type 0 where
  pub later : (i : ℕ) → IsFrom old.later.items 0 i → IsFrom new.later.items 0 i
  pub all : old.all ≡ true → new.all ≡ true
  pub kept : IsFrom new.later.items 0 at ⊎ (new.all ≡ true)
  pub limits : new.limits ≡ old.limits
  pub given : new.given ≡ old.given
  pub ended : new.ended ≡ old.ended

-- the places that are kept stay so, and only this place gets another time
pub record KeepsRest (at : ℕ) (old new : Agenda) : Type 0 where
  pub later : (i : ℕ) → IsFrom old.later.items 0 i → IsFrom new.later.items 0 i
  pub all : old.all ≡ true → new.all ≡ true
  pub time : Option ℕ
  pub limits : new.limits.times.items ≡ slice_set old.limits.times.items at time
  pub tree : IsTree new.limits

-- a place that has ended gets the next number; one in which something is due is kept; one that rests gets its time
abbrev pub IsNoted : ℕ → Outlook → List (Option ℕ) → Agenda → List (Option ℕ) → Agenda → Type 0
IsNoted at outlook.Ended old before new after = (new ≡ slice_set old at (Some before.given)) × (after.ended ≡ true)
    × (before.given ≤ after.given)
IsNoted at outlook.Due old before new after = (new ≡ old) × (after.ended ≡ before.ended)
    × (before.given ≤ after.given) × (IsFrom after.later.items 0 at ⊎ (after.all ≡ true))
IsNoted at (outlook.Rests time) old before new after = (new ≡ old) × (after.ended ≡ before.ended)
    × (before.given ≤ after.given) × (slice_get after.limits.times.items at ≡ Some time)

-- so it is noted
pub record HasNoted {M S : Type 0} (at : ℕ) (found : Outlook) (old new : Seats M S) : Type 0 where
  pub places : new.places.items ≡ old.places.items
  pub calls : new.calls.items ≡ old.calls.items
  pub rest : KeepsRest at old.agenda new.agenda
  pub noted : IsNoted at found old.tickets.items old.agenda new.tickets.items new.agenda

-- a place that was called has had its turn; or it has ended, and stays as it is
abbrev pub IsServed : {M S : Type 0} → (M → M → List Told → Type 0) → (M → Wants) → (S → S → List Deed → Type 0)
    → ℕ → Option Readiness → Place M S → Place M S → List (List ℕ) → Type 0
IsServed agrees wants did now None old new lines = (new ≡ old) × (lines ≡ [])
IsServed agrees wants did now (Some ready) old new lines = HasPlaceTurn agrees wants did ready now old new lines
    ⊎ (IsPlaceOver wants old × (new ≡ old) × (lines ≡ []))

-- Those that had ended keep their numbers, and others get none below the next one.
pub record GiveTurns (old : List (Option ℕ)) (given : ℕ) (new : List (Option ℕ)) : Type 0 where
  pub kept : (i t : ℕ) → slice_get old i ≡ Some (Some t) → slice_get new i ≡ Some (Some t)
  pub fresh : (i t : ℕ) → slice_get new i ≡ Some (Some t) → (slice_get old i ≡ Some (Some t)) ⊎ (given ≤ t)

-- One place was served, if there is one of this number: it is called no longer, and all others are as they were.
pub record ServedOnce {M S K : Type 0} (agrees : M → M → List Told → Type 0) (wants : M → Wants)
    (did : S → S → List Deed → Type 0) (heard : K → K → List (ℕ × List ℕ) → Type 0) (now at : ℕ)
    (old new : Seats M S) (old_sink new_sink : K) : Type 0 where
  pub lines : List (List ℕ)
  pub put : HasTakenLines heard old_sink new_sink (said_at at lines)
  pub turns : GiveTurns old.tickets.items old.agenda.given new.tickets.items
  pub given : old.agenda.given ≤ new.agenda.given
  pub outside : length old.places.items ≤ at
      → (new.places.items ≡ old.places.items) × (new.calls.items ≡ old.calls.items) × (lines ≡ [])
  pub served : (call : Option Readiness) (place : Place M S) → slice_get old.calls.items at ≡ Some call
      → slice_get old.places.items at ≡ Some place
      → (after : Place M S) × (new.places.items ≡ slice_set old.places.items at after)
      × (new.calls.items ≡ slice_set old.calls.items at None) × IsServed agrees wants did now call place after lines

-- ---- the places that are called, in a round

-- this number is among the first ones of the list
abbrev pub IsAmong : List ℕ → ℕ → ℕ → Type 0
IsAmong list count i = (j : ℕ) × (j < count) × (slice_get list j ≡ Some i)

-- it was served, and is called no longer; or it was not touched, and is as it was
abbrev pub IsServedOrNot : {M S : Type 0} → (M → M → List Told → Type 0) → (M → Wants) → (S → S → List Deed → Type 0)
    → ℕ → Type 0 → Option Readiness → Option Readiness → Place M S → Place M S → List (List ℕ) → Type 0
IsServedOrNot agrees wants did now touched call called old new lines =
    ((called ≡ None) × IsServed agrees wants did now call old new lines)
    ⊎ ((touched → ⊥) × (called ≡ call) × (new ≡ old) × (lines ≡ []))

-- The first of these places were served, and all others are as they were; what the sink took are their lines.
pub record AreServedTo {M S K : Type 0} (agrees : M → M → List Told → Type 0) (wants : M → Wants)
    (did : S → S → List Deed → Type 0) (heard : K → K → List (ℕ × List ℕ) → Type 0) (now : ℕ) (these : List ℕ)
    (count : ℕ) (old new : Seats M S) (old_sink new_sink : K) : Type 0 where
  pub all : List (ℕ × List ℕ)
  pub put : HasTakenLines heard old_sink new_sink all
  pub within : AreLinesOfPlaces (length old.places.items) all
  pub turns : GiveTurns old.tickets.items old.agenda.given new.tickets.items
  pub given : old.agenda.given ≤ new.agenda.given
  pub places : length new.places.items ≡ length old.places.items
  pub calls : length new.calls.items ≡ length old.calls.items
  pub each : (i : ℕ) (x y : Place M S) (c d : Option Readiness) → slice_get old.places.items i ≡ Some x
      → slice_get new.places.items i ≡ Some y → slice_get old.calls.items i ≡ Some c
      → slice_get new.calls.items i ≡ Some d
      → IsServedOrNot agrees wants did now (IsAmong these count i) c d x y (lines_at i all)

-- all of them were
abbrev pub AreServed : {M S K : Type 0} → (M → M → List Told → Type 0) → (M → Wants) → (S → S → List Deed → Type 0)
    → (K → K → List (ℕ × List ℕ) → Type 0) → ℕ → List ℕ → Seats M S → Seats M S → K → K → Type 0
AreServed agrees wants did heard now these old new old_sink new_sink =
    AreServedTo agrees wants did heard now these (length these) old new old_sink new_sink

-- ---- between rounds, with all that a loop keeps

-- each of these numbers is in the list
abbrev pub HasAll : List ℕ → ℕ → Type 0
HasAll list count = (i : ℕ) → i < count → IsFrom list 0 i

-- Each place is seen to. One that is called is listed, or something may be due in any. None in front of the free place
-- is empty.
pub record IsLoopSound {M S : Type 0} (agrees : M → M → List Told → Type 0) (wants : M → Wants) (inside : Inside M S)
    : Type 0 where
  pub standing : AreSeatsSound agrees wants inside.seats
  pub rests : (i : ℕ) (place : Place M S) → slice_get inside.seats.places.items i ≡ Some place
      → IsSeenTo wants inside.list.items inside.seats.agenda i place
  pub called : (i : ℕ) (ready : Readiness) → slice_get inside.seats.calls.items i ≡ Some (Some ready)
      → IsFrom inside.list.items 0 i ⊎ (inside.seats.agenda.all ≡ true)
  pub all : HasAll inside.all.items (length inside.seats.places.items)
  pub free : AreOccupied inside.seats.places.items inside.free
  pub within : inside.free ≤ length inside.seats.places.items

-- ---- a round

-- it was found ready as the wake says
abbrev pub Covers : Readiness → Readiness → Type 0
Covers ready found = (found.read ≡ true → ready.read ≡ true) × (found.write ≡ true → ready.write ≡ true)

abbrev pub CoversFound : List Wake → ℕ → Readiness → Type 0
CoversFound found i ready = (k : ℕ) (w : Wake) → slice_get found k ≡ Some w → w.mark ≡ mark.Place i
    → Covers ready w.ready

-- A place had its turn by what was found of its stream; or it has ended, and stays as it is.
abbrev pub HasItsRound : {M S : Type 0} → (M → M → List Told → Type 0) → (M → Wants) → (S → S → List Deed → Type 0)
    → List Wake → ℕ → ℕ → Place M S → Place M S → List (List ℕ) → Type 0
HasItsRound agrees wants did found now i old new lines =
    (IsPlaceOver wants old × (new ≡ old) × (lines ≡ []))
    ⊎ ((ready : Readiness) × CoversFound found i ready × HasPlaceTurn agrees wants did ready now old new lines)

-- No place is added or lost, and of each and the lines that the sink took of it, this holds. It took lines of these
-- places alone.
pub record AtEachPlace {X K : Type 0} (heard : K → K → List (ℕ × List ℕ) → Type 0)
    (R : ℕ → X → X → List (List ℕ) → Type 0) (old new : List X) (old_sink new_sink : K) : Type 0 where
  pub len : length new ≡ length old
  pub all : List (ℕ × List ℕ)
  pub put : HasTakenLines heard old_sink new_sink all
  pub within : AreLinesOfPlaces (length old) all
  pub each : (i : ℕ) (x y : X) → slice_get old i ≡ Some x → slice_get new i ≡ Some y → R i x y (lines_at i all)

-- each place has had its round, by what was found of its stream
abbrev pub HasRound : {M S K : Type 0} → (M → M → List Told → Type 0) → (M → Wants) → (S → S → List Deed → Type 0)
    → (K → K → List (ℕ × List ℕ) → Type 0) → List Wake → ℕ → List (Place M S) → List (Place M S) → K → K → Type 0
HasRound agrees wants did heard found now old new old_sink new_sink =
    AtEachPlace heard (HasItsRound agrees wants did found now) old new old_sink new_sink

-- ---- behind a round

-- It was served by now. Of a slot nothing is due, or all of its share of bytes was moved by this very time; of a
-- connection that is under way the time hasn't come, or it was stirred.
abbrev pub IsServedInTime : {M S : Type 0} → (M → M → List Told → Type 0) → (M → Wants)
    → (S → S → List Deed → Type 0) → ℕ → Place M S → Type 0
IsServedInTime agrees wants did now Empty = ⊤
IsServedInTime {M} {S} agrees wants did now (Open slot) = (is_due (wants slot.machine) slot.pace now ≡ false)
    ⊎ ((first : Slot M S) × (happened : List Happened) × HasRunBy agrees wants did now first happened now slot
    × (all_moved happened ≡ share_len))
IsServedInTime agrees wants did now (Pending watch) = is_watch_due watch now ≡ false
IsServedInTime agrees wants did now Broken = ⊤

-- each of these places was
abbrev pub AreServedInTime : {M S : Type 0} → (M → M → List Told → Type 0) → (M → Wants)
    → (S → S → List Deed → Type 0) → ℕ → List (Place M S) → Type 0
AreServedInTime {M} {S} agrees wants did now places = (i : ℕ) (place : Place M S) → slice_get places i ≡ Some place
    → IsServedInTime agrees wants did now place

-- ---- a run

-- Of a slot it has run since the first time, until the second, and its lines are those of what happened; or it has so
-- far, and memory ran out for it. A connection that is under way was watched.
abbrev pub HasGoneOn : {M S : Type 0} → (M → M → List Told → Type 0) → (M → Wants) → (S → S → List Deed → Type 0)
    → ℕ → ℕ → Place M S → Place M S → List (List ℕ) → Type 0
HasGoneOn agrees wants did from to Empty Empty lines = lines ≡ []
HasGoneOn agrees wants did from to Broken Broken lines = lines ≡ []
HasGoneOn agrees wants did from to (Open old) (Open new) lines = (happened : List Happened)
    × HasRunBy agrees wants did from old happened to new × (all_shown happened ≡ lines)
HasGoneOn agrees wants did from to (Open old) Broken lines = HasBroken agrees wants did from to old lines
HasGoneOn agrees wants did from to (Pending old) (Pending new) lines = HasBeenWatched from to old new × (lines ≡ [])
HasGoneOn agrees wants did from to _ _ lines = ⊥

-- each place has
abbrev pub HaveRun : {M S K : Type 0} → (M → M → List Told → Type 0) → (M → Wants) → (S → S → List Deed → Type 0)
    → (K → K → List (ℕ × List ℕ) → Type 0) → ℕ → ℕ → List (Place M S) → List (Place M S) → K → K → Type 0
HaveRun agrees wants did heard from to old new old_sink new_sink =
    AtEachPlace heard (λ i. HasGoneOn agrees wants did from to) old new old_sink new_sink
