-- The ends of connections in their places: what a run of the loop, and a change of one place, makes of them.
use Rattle.std.proofs.Common.{◌≡◌, ◌∙◌, ℕ, zero, suc, ◌<◌, ◌≤◌, ◌⊎◌, Bool, true, false, List, [], ◌∷◌, ◌++◌}
use Rattle.std.proofs.Common.{length, refl, Option, Some, None, slice_set, sym, ap, subst, arith, inl, inr}
use Rattle.std.proofs.Common.{append_assoc, append-nil, take}
use Rattle.std.specs.Prelude.{◌&&◌, nat_lt, not, replicate}
use Rattle.std.proofs.Common.{IfSome, MatchOption, is_some}
use Rattle.std.specs.Bool.{⊤}
use Rattle.std.specs.List.{AllByRecursion, flat_map, slice_get}
use Rattle.std.proofs.lemmas.Bool.{false≢true}
use Rattle.std.proofs.lemmas.Grind.{flat_map-append}
use Rattle.std.proofs.lemmas.Option.{none-some, same_Some, slice_get_within}
use Rattle.ws_machines.specs.Told.{Told}
use Rattle.ws_machines.specs.Told.Told.{Came, DeadlinePassed, DirectionEnded, Ended, NothingCame, ReadFailed, Reported}
use Rattle.ws_machines.specs.Told.Told.{Taken, WriteFailed}
use Rattle.ws_machines.specs.Machines.{Wants}
use Rattle.ws_loops.specs.Deeds.{Deed, Happened, all_done, all_shown, all_told, done_by, shown_by, told_by}
use Rattle.ws_loops.specs.Deeds.Deed.{Did, Emptied, HadNone, Passed, Showed, TookNone, Woken}
use Rattle.ws_loops.specs.Listeners.{AcceptDeed, HasArrived, HasHeard, HasHeardFor, HasHeardLast}
use Rattle.ws_loops.specs.Listeners.AcceptDeed.{CouldNotGive, GaveClient, HadNoClient, LostClient}
use Rattle.ws_loops.specs.Looping.{LoopValue}
use Rattle.ws_loops.specs.Loops.{HasGoneOn, HaveRun}
use Rattle.ws_loops.specs.Places.{AreEmpty, IsOverAt, IsPlaceOver, IsSlotless, IsSlotlessAt}
use Rattle.ws_loops.specs.Paces.{has_any_bytes, has_ended_by, has_passed, pace_after, told_pace}
use Rattle.ws_loops.specs.Sinks.{lines_at}
use Rattle.ws_loops.specs.Slots.{AreSteps, HasRunBy, IsNextDeed}
use Rattle.ws_loops.specs.declared.listening.Arrival.{Arrival}
use Rattle.ws_loops.specs.declared.listening.Arrival.TheVariants as arrival
use Rattle.ws_loops.specs.declared.pace.Pace.{Pace}
use Rattle.ws_loops.specs.declared.places.Place.{Place}
use Rattle.ws_loops.specs.declared.places.Place.TheVariants.{Broken, Empty, Open, Pending}
use Rattle.ws_loops.specs.declared.slot.Slot.{Slot}
use Rattle.ws_loops.proofs.PlaceLemmas.{get_set_other, get_set_same, length_set, place_of, set_cases, set_same}
use Rattle.ws_loops.proofs.PlaceLemmas.{set_twice}
use Rattle.ws_relays.specs.EndPlaces.{AreFreeEnds, AreInVain, AskedEnd, AsksAlike, AsksNothing, AsksSo, AwaitedPlace}
use Rattle.ws_relays.specs.EndPlaces.{EndThere, FreePlace, GoOn, GoesOnAs, HappensNext, HasComeAmong, HasEndAt}
use Rattle.ws_relays.specs.EndPlaces.{HasHeardThen, HasNoLimits, HeldEnd, IsAskedFrom, IsAskedNow, IsAskedOf}
use Rattle.ws_relays.specs.EndPlaces.{IsAskedUnless, IsDoneByStream, IsResting, IsRestAt, KeptPlace, LostEnd, StreamDid}
use Rattle.ws_relays.specs.EndPlaces.{WasToldOf, end_there, ends_there, heard_by, is_end_there, resting, stream_told}
use Rattle.ws_relays.specs.Onces.{HappenedBy, IsOnce, OnceValue, WasAskedFor, wanted_once}
use Rattle.ws_relays.specs.declared.ends.Beside.{Beside}
use Rattle.ws_relays.specs.declared.ends.Beside.TheVariants as nearby
use Rattle.ws_relays.specs.declared.ends.EndEvent.{EndEvent}
use Rattle.ws_relays.specs.declared.ends.EndEvent.TheVariants as came
use Rattle.ws_relays.specs.declared.once.Happened.{Happened as WhatHappened}
use Rattle.ws_relays.specs.declared.once.Once.{Once}
use Rattle.ws_relays.specs.declared.ends.Ask.{Ask}

-- ---- what stands in each place

module _ {S : Type 0} where
  pub ends_get : (places : List (Place Once S)) (all : List (Beside S)) (at : ℕ) (place : Place Once S) (x : Beside S)
      → slice_get places at ≡ Some place → slice_get all at ≡ Some x
      → slice_get (ends_there places all) at ≡ Some (end_there place x)
  ends_get [] all at place x is beside = absurd (none-some place is)
  ends_get (p ∷ places) [] at place x is beside = absurd (none-some x beside)
  ends_get (p ∷ places) (b ∷ all) zero place x is beside =
      ap (λ (q : Place Once S). Some (end_there q b)) (same_Some p place is)
      ∙ ap (λ (c : Beside S). Some (end_there place c)) (same_Some b x beside)
  ends_get (p ∷ places) (b ∷ all) (suc at) place x is beside = ends_get places all at place x is beside

  pub ends_of : (places : List (Place Once S)) (all : List (Beside S)) (at : ℕ) (y : EndThere S)
      → slice_get (ends_there places all) at ≡ Some y → (place : Place Once S) × (x : Beside S)
      × (slice_get places at ≡ Some place) × (slice_get all at ≡ Some x) × (y ≡ end_there place x)
  ends_of [] all at y is = absurd (none-some y is)
  ends_of (p ∷ places) [] at y is = absurd (none-some y is)
  ends_of (p ∷ places) (b ∷ all) zero y is = (p, b, refl, refl, sym (same_Some (end_there p b) y is))
  ends_of (p ∷ places) (b ∷ all) (suc at) y is = ends_of places all at y is

  pub ends_len : (places : List (Place Once S)) (all : List (Beside S)) → length all ≡ length places
      → length (ends_there places all) ≡ length places
  ends_len [] all len = refl
  ends_len (p ∷ places) [] len = len
  ends_len (p ∷ places) (b ∷ all) len = ap (λ (n : ℕ). suc n) (ends_len places all (omega (arith, len)))

  pub ends_set : (places : List (Place Once S)) (all : List (Beside S)) (at : ℕ) (place : Place Once S) (x : Beside S)
      → ends_there (slice_set places at place) (slice_set all at x)
      ≡ slice_set (ends_there places all) at (end_there place x)
  ends_set [] all at place x = refl
  ends_set (p ∷ places) [] zero place x = refl
  ends_set (p ∷ places) [] (suc at) place x = refl
  ends_set (p ∷ places) (b ∷ all) zero place x = refl
  ends_set (p ∷ places) (b ∷ all) (suc at) place x =
      ap (λ (l : List (EndThere S)). end_there p b ∷ l) (ends_set places all at place x)

  -- where only what stands in the loop changes
  pub ends_set_place : (places : List (Place Once S)) (all : List (Beside S)) (at : ℕ) (place : Place Once S)
      (x : Beside S) → slice_get all at ≡ Some x
      → ends_there (slice_set places at place) all ≡ slice_set (ends_there places all) at (end_there place x)
  ends_set_place places all at place x is = ap (λ (l : List (Beside S)). ends_there (slice_set places at place) l)
      (sym (set_same all at x is)) ∙ ends_set places all at place x

  -- where only what is beside it does
  pub ends_set_beside : (places : List (Place Once S)) (all : List (Beside S)) (at : ℕ) (place : Place Once S)
      (x : Beside S) → slice_get places at ≡ Some place
      → ends_there places (slice_set all at x) ≡ slice_set (ends_there places all) at (end_there place x)
  ends_set_beside places all at place x is = ap (λ (l : List (Place Once S)). ends_there l (slice_set all at x))
      (sym (set_same places at place is)) ∙ ends_set places all at place x

-- ---- how ends go on

module _ {S : Type 0} (did : S → S → List Deed → Type 0) where
  pub goes_same : (x : EndThere S) → GoesOnAs did x x
  goes_same FreePlace = refl
  goes_same KeptPlace = refl
  goes_same AwaitedPlace = refl
  goes_same (AskedEnd slot) = λ told was. (record { bytes = refl; room = refl; ends = refl }, was)
  goes_same (HeldEnd stream) = refl
  goes_same LostEnd = refl

  alike_then : (a b c : OnceValue) → AsksAlike a b → AsksAlike b c → AsksAlike a c
  alike_then a b c h k = record {
    bytes = k.bytes ∙ h.bytes;
    room = k.room ∙ h.room;
    ends = k.ends ∙ h.ends;
  }

  asked_then : (x : Slot Once S) (y z : EndThere S) → GoesOnAs did (AskedEnd x) y → GoesOnAs did y z
      → GoesOnAs did (AskedEnd x) z
  asked_then x FreePlace z h k = absurd h
  asked_then x KeptPlace z h k = absurd h
  asked_then x AwaitedPlace z h k = absurd h
  asked_then x (HeldEnd stream) z h k = absurd h
  asked_then x LostEnd z h k = subst (λ (w : EndThere S). GoesOnAs did (AskedEnd x) w) (sym k) h
  asked_then x (AskedEnd y) FreePlace h k = absurd k
  asked_then x (AskedEnd y) KeptPlace h k = absurd k
  asked_then x (AskedEnd y) AwaitedPlace h k = absurd k
  asked_then x (AskedEnd y) (HeldEnd stream) h k = absurd k
  asked_then x (AskedEnd y) LostEnd h k = λ told was. k told (h told was).1
  asked_then x (AskedEnd y) (AskedEnd z) h k = λ told was.
      let (one, mid) = h told was in
      let (two, is) = k told mid in
      (alike_then x.machine y.machine z.machine one two, is)

  goes_then : (x y z : EndThere S) → GoesOnAs did x y → GoesOnAs did y z → GoesOnAs did x z
  goes_then FreePlace y z h k = subst (λ (w : EndThere S). GoesOnAs did w z) h k
  goes_then KeptPlace y z h k = subst (λ (w : EndThere S). GoesOnAs did w z) h k
  goes_then AwaitedPlace y z h k = subst (λ (w : EndThere S). GoesOnAs did w z) h k
  goes_then (AskedEnd slot) y z h k = asked_then slot y z h k
  goes_then (HeldEnd stream) y z h k = subst (λ (w : EndThere S). GoesOnAs did w z) h k
  goes_then LostEnd y z h k = subst (λ (w : EndThere S). GoesOnAs did w z) h k

  pub all_same : (ends : List (EndThere S)) → GoOn did ends ends
  all_same ends = (refl, λ at x is. (x, is, goes_same x))

  pub all_then : (a b c : List (EndThere S)) → GoOn did a b → GoOn did b c → GoOn did a c
  all_then a b c (len, each) (length_after, after) = (
    length_after ∙ len,
    λ at x is.
        let (y, y_is, goes) = each at x is in
        let (z, z_is, on) = after at y y_is in
        (z, z_is, goes_then x y z goes on),
  )

  pub all_equal : (a b : List (EndThere S)) → b ≡ a → GoOn did a b
  all_equal a b same = subst (λ (l : List (EndThere S)). GoOn did a l) (sym same) (all_same a)

  -- where the same is put into both
  pub all_set : (a b : List (EndThere S)) (at : ℕ) (x : EndThere S) → GoOn did a b
      → GoOn did (slice_set a at x) (slice_set b at x)
  all_set a b at x (len, each) = (
    length_set b at x ∙ (len ∙ sym (length_set a at x)),
    λ other y is. by other y is (set_cases a at x other y is),
  )
    where
      by : (other : ℕ) (y : EndThere S) → slice_get (slice_set a at x) other ≡ Some y
          → ((other ≡ at) × (y ≡ x)) ⊎ ((other ≡ at → ⊥) × (slice_get a other ≡ Some y))
          → (z : EndThere S) × (slice_get (slice_set b at x) other ≡ Some z) × GoesOnAs did y z
      by other y is (inl (same, e)) = (
        x,
        ap (λ (n : ℕ). slice_get (slice_set b at x) n) same ∙ get_set_same b at x
            (omega (arith, len, length_set a at x, same, slice_get_within (slice_set a at x) other y is)),
        subst (λ (w : EndThere S). GoesOnAs did w x) (sym e) (goes_same x),
      )
      by other y is (inr (far, was)) =
          let (z, z_is, goes) = each other y was in
          (z, get_set_other b at other x far ∙ z_is, goes)

  -- what goes on as this stood there before
  before : (a b : List (EndThere S)) (at : ℕ) (y : EndThere S) → GoOn did a b → slice_get b at ≡ Some y
      → (x : EndThere S) × (slice_get a at ≡ Some x) × GoesOnAs did x y
  before a b at y (len, each) is =
      let (x, x_is) = place_of a at (omega (arith, len, slice_get_within b at y is)) in
      let (z, z_is, goes) = each at x x_is in
      (x, x_is, subst (λ (w : EndThere S). GoesOnAs did x w) (same_Some z y (sym z_is ∙ is)) goes)

  -- where no end stands none stood
  bare_before : (x y : EndThere S) → is_end_there y ≡ false → GoesOnAs did x y → y ≡ x
  bare_before FreePlace y bare h = h
  bare_before KeptPlace y bare h = h
  bare_before AwaitedPlace y bare h = h
  bare_before (HeldEnd stream) y bare h = h
  bare_before LostEnd y bare h = h
  bare_before (AskedEnd slot) FreePlace bare h = absurd h
  bare_before (AskedEnd slot) KeptPlace bare h = absurd h
  bare_before (AskedEnd slot) AwaitedPlace bare h = absurd h
  bare_before (AskedEnd slot) (HeldEnd stream) bare h = absurd h
  bare_before (AskedEnd slot) (AskedEnd other) bare h = absurd (false≢true (sym bare))
  bare_before (AskedEnd slot) LostEnd bare h = absurd (false≢true (sym bare))

  stood : (a b : List (EndThere S)) (at : ℕ) (y : EndThere S) → is_end_there y ≡ false → GoOn did a b
      → slice_get b at ≡ Some y → slice_get a at ≡ Some y
  stood a b at y bare h is =
      let (x, x_is, goes) = before a b at y h is in
      x_is ∙ ap (λ (w : EndThere S). Some w) (sym (bare_before x y bare goes))

  abbrev IsAskedThere : EndThere S → Type 0
  IsAskedThere FreePlace = ⊥
  IsAskedThere KeptPlace = ⊥
  IsAskedThere AwaitedPlace = ⊥
  IsAskedThere (AskedEnd slot) = ⊤
  IsAskedThere (HeldEnd stream) = ⊥
  IsAskedThere LostEnd = ⊥

  -- what is asked was asked
  asked_before : (x : EndThere S) (slot : Slot Once S) → GoesOnAs did x (AskedEnd slot)
      → (old : Slot Once S) × (x ≡ AskedEnd old) × GoesOnAs did (AskedEnd old) (AskedEnd slot)
  asked_before FreePlace slot h = absurd (subst (λ (w : EndThere S). IsAskedThere w) h tt)
  asked_before KeptPlace slot h = absurd (subst (λ (w : EndThere S). IsAskedThere w) h tt)
  asked_before AwaitedPlace slot h = absurd (subst (λ (w : EndThere S). IsAskedThere w) h tt)
  asked_before (HeldEnd stream) slot h = absurd (subst (λ (w : EndThere S). IsAskedThere w) h tt)
  asked_before LostEnd slot h = absurd (subst (λ (w : EndThere S). IsAskedThere w) h tt)
  asked_before (AskedEnd old) slot h = (old, refl, h)

  -- ---- what has come

  asked_alike : (old new : OnceValue) (told : Told) → AsksAlike old new → WasAskedFor new told → WasAskedFor old told
  asked_alike old new (Came bytes) alike (some, fits) =
      (some, subst (λ (n : ℕ). length bytes ≤ n) alike.room fits)
  asked_alike old new Ended alike asked = subst (λ (n : ℕ). 0 < n) alike.room asked
  asked_alike old new ReadFailed alike asked = tt
  asked_alike old new NothingCame alike asked = tt
  asked_alike old new (Taken bytes) alike asked =
      subst (λ (l : List ℕ). (count : ℕ) × (0 < count) × (count ≤ length l) × (bytes ≡ take count l)) alike.bytes asked
  asked_alike old new WriteFailed alike asked = tt
  asked_alike old new DirectionEnded alike asked = sym alike.ends ∙ asked
  asked_alike old new (Reported lines) alike asked = absurd asked
  asked_alike old new (DeadlinePassed waited) alike asked = tt

  pub came_then : {W : Type 0} (a b c : List (EndThere S)) (event : EndEvent S W) → GoOn did a b
      → HasComeAmong did b c event → HasComeAmong did a c event
  came_then a b c (came.Happened at what) h (slot, after, was, goes, next) =
      let (x, x_is, on) = before a b at (AskedEnd slot) h was in
      let (old, is, same) = asked_before x slot on in (
        old,
        after,
        x_is ∙ ap (λ (w : EndThere S). Some w) is,
        all_then (slice_set a at (HeldEnd after)) (slice_set b at (HeldEnd after)) c
            (all_set a b at (HeldEnd after) h) goes,
        λ earlier told.
            let (alike, now) = same earlier told in
            let n = next earlier now in record {
              told = n.told;
              asked = asked_alike old.machine slot.machine n.told alike n.asked;
              by_stream = n.by_stream;
              so = n.so;
              was_told = n.was_told;
            },
      )
  came_then a b c (came.Stirred at) h (was, goes) = (stood a b at AwaitedPlace refl h was, all_then a b c h goes)
  came_then a b c (came.Client at stream) h (was, goes, fresh) = (
    stood a b at FreePlace refl h was,
    all_then (slice_set a at KeptPlace) (slice_set b at KeptPlace) c (all_set a b at KeptPlace h) goes,
    fresh,
  )
  came_then a b c (came.Full why) h goes = all_then a b c h goes

  pub came_so : {W : Type 0} (a b c : List (EndThere S)) (event : Option (EndEvent S W)) → GoOn did a b
      → MatchOption event (GoOn did b c) (HasComeAmong did b c)
      → MatchOption event (GoOn did a c) (HasComeAmong did a c)
  came_so a b c None h k = all_then a b c h k
  came_so a b c (Some event) h k = came_then a b c event h k

-- ---- a run of the loop

right_of : (a b : Bool) → (a && b) ≡ true → b ≡ true
right_of true b h = h
right_of false b h = absurd (false≢true h)

no_limit : (p : Pace) (since now : ℕ) → HasNoLimits p → has_passed p.limit since now ≡ true → ⊥
no_limit p since now limits late =
    false≢true (subst (λ (limit : Option ℕ). has_passed limit since now ≡ true) limits.0 late)

by_then : (xs ys : List Told) → AllByRecursion IsDoneByStream xs → AllByRecursion IsDoneByStream ys
    → AllByRecursion IsDoneByStream (xs ++ ys)
by_then [] ys h k = k
by_then (x ∷ xs) ys (first, h) k = (first, by_then xs ys h k)

nil_left : {X : Type 0} (xs ys : List X) → xs ++ ys ≡ [] → xs ≡ []
nil_left [] ys e = refl
nil_left {X} (x ∷ xs) ys e = absurd (omega (arith, ap (λ (l : List X). length l) e))

nil_right : {X : Type 0} (xs ys : List X) → xs ++ ys ≡ [] → ys ≡ []
nil_right [] ys e = e
nil_right {X} (x ∷ xs) ys e = absurd (omega (arith, ap (λ (l : List X). length l) e))

-- a machine is told just what its stream did, where no lines are taken and nothing is waited for
told_once : (wants : Wants) (p : Pace) (now : ℕ) (deed : Deed) → HasNoLimits p → IsNextDeed wants p now deed
    → shown_by deed ≡ [] → (flat_map stream_told (done_by deed) ≡ told_by deed)
    × AllByRecursion IsDoneByStream (told_by deed)
told_once wants p now (Did (Came bytes)) limits next none = (refl, (tt, tt))
told_once wants p now (Did Ended) limits next none = (refl, (tt, tt))
told_once wants p now (Did ReadFailed) limits next none = (refl, (tt, tt))
told_once wants p now (Did NothingCame) limits next none = absurd next
told_once wants p now (Did (Taken bytes)) limits next none = (refl, (tt, tt))
told_once wants p now (Did WriteFailed) limits next none = (refl, (tt, tt))
told_once wants p now (Did DirectionEnded) limits next none = (refl, (tt, tt))
told_once wants p now (Did (Reported lines)) limits next none = absurd next
told_once wants p now (Did (DeadlinePassed waited)) limits next none = absurd next
told_once wants p now (Emptied bytes) limits next none = (refl, (tt, tt))
told_once wants p now HadNone limits next none = (refl, tt)
told_once wants p now TookNone limits next none = (refl, tt)
told_once wants p now (Showed lines) limits next none =
    absurd (omega (arith, ap (λ (l : List (List ℕ)). length l) none))
told_once wants p now (Passed (Came bytes)) limits next none = absurd next
told_once wants p now (Passed Ended) limits next none = absurd next
told_once wants p now (Passed ReadFailed) limits next none = absurd next
told_once wants p now (Passed NothingCame) limits (free, (read, (write, late))) none =
    absurd (no_limit p p.waits_since now limits (right_of (nat_lt 0 wants.room) (has_passed p.limit p.waits_since now)
    (right_of (not (has_any_bytes wants.write)) (nat_lt 0 wants.room && has_passed p.limit p.waits_since now) late)))
told_once wants p now (Passed (Taken bytes)) limits next none = absurd next
told_once wants p now (Passed WriteFailed) limits (free, (read, (write, late))) none =
    absurd (no_limit p p.writes_since now limits
    (right_of (has_any_bytes wants.write) (has_passed p.limit p.writes_since now) late))
told_once wants p now (Passed DirectionEnded) limits next none = absurd next
told_once wants p now (Passed (Reported lines)) limits next none = absurd next
told_once wants p now (Passed (DeadlinePassed waited)) limits (going, (reported, (ended, (over, so)))) none =
    absurd (false≢true (subst (λ (deadline : Option ℕ). has_ended_by deadline now ≡ true) limits.1 over))
told_once wants p now (Woken readable writable) limits next none = (refl, tt)

told_limits : (writes anew : Bool) (now : ℕ) (told : Told) (p : Pace) → HasNoLimits p
    → HasNoLimits (told_pace writes anew now told p)
told_limits writes anew now (Came bytes) p h = h
told_limits writes anew now Ended p h = h
told_limits writes anew now ReadFailed p h = h
told_limits writes anew now NothingCame p h = h
told_limits writes anew now (Taken bytes) p h = h
told_limits writes anew now WriteFailed p h = h
told_limits writes anew now DirectionEnded p h = h
told_limits writes anew now (Reported lines) p h = h
told_limits writes anew now (DeadlinePassed waited) p h = h

after_limits : (old new : Wants) (now : ℕ) (deed : Deed) (p : Pace) → HasNoLimits p
    → HasNoLimits (pace_after old new now deed p)
after_limits old new now (Did told) p h = told_limits (has_any_bytes old.write) new.waits_anew now told p h
after_limits old new now (Emptied bytes) p h = h
after_limits old new now HadNone p h = h
after_limits old new now TookNone p h = h
after_limits old new now (Showed lines) p h = h
after_limits old new now (Passed told) p h = told_limits (has_any_bytes old.write) new.waits_anew now told p h
after_limits old new now (Woken readable writable) p h = h

module _ {S : Type 0} (did : S → S → List Deed → Type 0) where
  abbrev AsOnce : OnceValue → OnceValue → List Told → Type 0
  AsOnce start now told = IsOnce start now told

  abbrev OnceWants : OnceValue → Wants
  OnceWants now = wanted_once now

  -- so it is in steps
  pub steps_told : (from : ℕ) (old : Slot Once S) (happened : List Happened) (to : ℕ) (new : Slot Once S)
      → AreSteps AsOnce OnceWants did from old happened to new → HasNoLimits old.pace → all_shown happened ≡ []
      → (flat_map stream_told (all_done happened) ≡ all_told happened)
      × AllByRecursion IsDoneByStream (all_told happened) × HasNoLimits new.pace
  steps_told from old [] to new (later, same) limits none =
      (refl, tt, subst (λ (slot : Slot Once S). HasNoLimits slot.pace) same limits)
  steps_told from old (x ∷ happened) to new (later, (mid, step, rest)) limits none =
      let (one, by) = told_once (wanted_once old.machine) old.pace x.at x.deed limits step.order
      (nil_left (shown_by x.deed) (all_shown happened) none) in
      let (more, others, last) = steps_told x.at mid happened to new rest
      (subst (λ (p : Pace). HasNoLimits p) (sym step.paced)
      (after_limits (wanted_once old.machine) (wanted_once mid.machine) x.at x.deed old.pace limits))
      (nil_right (shown_by x.deed) (all_shown happened) none) in (
        flat_map-append stream_told (done_by x.deed) (all_done happened)
            ∙ (ap (λ (l : List Told). l ++ flat_map stream_told (all_done happened)) one
            ∙ ap (λ (l : List Told). told_by x.deed ++ l) more),
        by_then (told_by x.deed) (all_told happened) by others,
        last,
      )

  once_alike : (begun now : OnceValue) (told : List Told) → IsOnce begun now told → AsksAlike begun now
  once_alike begun now [] h = record {
    bytes = ap (λ (x : OnceValue). x.bytes) h.0;
    room = ap (λ (x : OnceValue). x.room) h.0;
    ends = ap (λ (x : OnceValue). x.ends) h.0;
  }
  once_alike begun now (x ∷ []) h = record { bytes = h.bytes; room = h.room; ends = h.ends }
  once_alike begun now (x ∷ y ∷ told) h = absurd h

  once_few : (begun now : OnceValue) (told : List Told) → IsOnce begun now told → length told ≤ 1
  once_few begun now [] h = omega arith
  once_few begun now (x ∷ []) h = omega arith
  once_few begun now (x ∷ y ∷ told) h = absurd h

  -- more happens at an end
  slot_on : (from to : ℕ) (old new : Slot Once S) (happened : List Happened)
      → HasRunBy AsOnce OnceWants did from old happened to new → all_shown happened ≡ []
      → GoesOnAs did (AskedEnd old) (AskedEnd new)
  slot_on from to old new happened run none = λ told stood.
      let (begun, untold, once, stream, limits) = stood in
      let (same, by, last) = steps_told from old happened to new run.steps limits none in
      let now = run.told begun untold once in
      let was = once_alike begun old.machine untold once in
      let is = once_alike begun new.machine (untold ++ all_told happened) now in (
        record {
          bytes = is.bytes ∙ sym was.bytes;
          room = is.room ∙ sym was.room;
          ends = is.ends ∙ sym was.ends;
        },
        (
          begun,
          untold ++ all_told happened,
          now,
          record {
            first = stream.first;
            deeds = stream.deeds ++ all_done happened;
            fresh = stream.fresh;
            did_all = run.done stream.first stream.deeds stream.did_all;
            all = flat_map-append stream_told stream.deeds (all_done happened)
                ∙ (ap (λ (l : List Told). l ++ flat_map stream_told (all_done happened)) stream.all
                ∙ (ap (λ (l : List Told). (told ++ untold) ++ l) same
                ∙ append_assoc told untold (all_told happened)));
            few = once_few begun new.machine (untold ++ all_told happened) now;
            by_stream = by_then untold (all_told happened) stream.by_stream by;
          },
          last,
        ),
      )

  place_on : (from to : ℕ) (x y : Place Once S) (lines : List (List ℕ)) (beside : Beside S)
      → HasGoneOn AsOnce OnceWants did from to x y lines → lines ≡ []
      → GoesOnAs did (end_there x beside) (end_there y beside)
  place_on from to Empty Empty lines beside h none = refl
  place_on from to Empty (Open new) lines beside h none = absurd h
  place_on from to Empty (Pending new) lines beside h none = absurd h
  place_on from to Empty Broken lines beside h none = absurd h
  place_on from to (Open old) Empty lines beside h none = absurd h
  place_on from to (Open old) (Open new) lines beside (happened, run, shown) none =
      slot_on from to old new happened run (shown ∙ none)
  place_on from to (Open old) (Pending new) lines beside h none = absurd h
  place_on from to (Open old) Broken lines beside h none = λ told stood.
      let (begun, untold, once, stream, limits) = stood in (old.stream, untold, stream)
  place_on from to (Pending old) Empty lines beside h none = absurd h
  place_on from to (Pending old) (Open new) lines beside h none = absurd h
  place_on from to (Pending old) (Pending new) lines beside h none = goes_same did (resting beside)
  place_on from to (Pending old) Broken lines beside h none = absurd h
  place_on from to Broken Empty lines beside h none = absurd h
  place_on from to Broken (Open new) lines beside h none = absurd h
  place_on from to Broken (Pending new) lines beside h none = absurd h
  place_on from to Broken Broken lines beside h none = refl

  -- all ends go on in a run of the loop, whose lines nobody takes
  pub run_on : {K : Type 0} (from to : ℕ) (old new : List (Place Once S)) (all : List (Beside S)) (s t : K)
      → length all ≡ length old
      → HaveRun AsOnce OnceWants did (λ a b lines. lines ≡ []) from to old new s t
      → GoOn did (ends_there old all) (ends_there new all)
  run_on {K} from to old new all s t len h = (
    ends_len new all (len ∙ sym h.len) ∙ (h.len ∙ sym (ends_len old all len)),
    λ at y is.
        let (x, beside, x_is, beside_is, same) = ends_of old all at y is in
        let (z, z_is) = place_of new at (omega (arith, h.len, slice_get_within old at x x_is)) in (
          end_there z beside,
          ends_get new all at z beside z_is beside_is,
          subst (λ (w : EndThere S). GoesOnAs did w (end_there z beside)) (sym same)
              (place_on from to x z (lines_at at h.all) beside (h.each at x z x_is z_is)
              (ap (λ (l : List (ℕ × List ℕ)). lines_at at l) (h.put s [] refl))),
        ),
  )

  pub seen_on : {K : Type 0} (from to : ℕ) (old new : List (Place Once S)) (all : List (Beside S))
      (ends : List (EndThere S)) (s t : K) → ends_there old all ≡ ends → length all ≡ length old
      → HaveRun AsOnce OnceWants did (λ a b lines. lines ≡ []) from to old new s t → GoOn did ends (ends_there new all)
  seen_on from to old new all ends s t seen len h = subst (λ (l : List (EndThere S)). GoOn did l (ends_there new all))
      seen (run_on from to old new all s t len h)

  -- ---- what has arrived

  pub over_came : {W : Type 0} (until : Option ℕ) (now : ℕ) (l : LoopValue Once S) (a : Arrival S W) (at : ℕ)
      → a ≡ arrival.Ended at → HasArrived OnceWants did until now l a → IsOverAt OnceWants l.places at
  over_came {W} until now l a at is h = (subst (λ (x : Arrival S W). HasArrived OnceWants did until now l x) is h).0

  pub client_came : {W : Type 0} (until : Option ℕ) (now : ℕ) (l : LoopValue Once S) (a : Arrival S W) (at : ℕ)
      (stream : S) → a ≡ arrival.Client at stream → HasArrived OnceWants did until now l a
      → (slice_get l.places at ≡ Some Empty) × did stream stream []
  client_came {W} until now l a at stream is h =
      let (first, free, fresh) = subst (λ (x : Arrival S W). HasArrived OnceWants did until now l x) is h in
      (free, fresh)

  pub client_so : (a b c : List (EndThere S)) (at : ℕ) → GoOn did a b → slice_get b at ≡ Some FreePlace
      → c ≡ slice_set b at KeptPlace → (slice_get a at ≡ Some FreePlace) × GoOn did (slice_set a at KeptPlace) c
  client_so a b c at h free is = (
    stood did a b at FreePlace refl h free,
    all_then did (slice_set a at KeptPlace) (slice_set b at KeptPlace) c (all_set did a b at KeptPlace h)
        (all_equal did (slice_set b at KeptPlace) c is),
  )

-- ---- the listener

vain_then : {W : Type 0} (one other : List (AcceptDeed W)) → AreInVain one → AreInVain other → AreInVain (one ++ other)
vain_then [] other h k = k
vain_then (GaveClient at ∷ one) other h k = absurd h
vain_then (LostClient why ∷ one) other h k = vain_then one other h k
vain_then (CouldNotGive why ∷ one) other h k = absurd h
vain_then (HadNoClient ∷ one) other h k = vain_then one other h k

vain_often : (W : Type 0) (n : ℕ) → AreInVain {W = W} (replicate n HadNoClient)
vain_often W zero = tt
vain_often W (suc n) = vain_often W n

module _ {L W : Type 0} (did : L → L → List (AcceptDeed W) → Type 0) where
  pub heard_none : (x : L) → HasHeardThen did x x []
  heard_none x = (
    [],
    tt,
    λ start deeds h. subst (λ (l : List (AcceptDeed W)). did start x l) (sym (append-nil deeds)) h,
  )

  pub heard_more : (a b c : L) (last : List (AcceptDeed W)) → HasHeardThen did a b [] → HasHeardThen did b c last
      → HasHeardThen did a c last
  heard_more a b c last (one, vain, h) (other, vain_too, k) = (
    one ++ other,
    vain_then one other vain vain_too,
    λ start deeds x. subst (λ (l : List (AcceptDeed W)). did start c l)
        (append_assoc deeds (one ++ []) (other ++ last) ∙ ap (λ (l : List (AcceptDeed W)). deeds ++ l)
        (ap (λ (l : List (AcceptDeed W)). l ++ (other ++ last)) (append-nil one) ∙ sym (append_assoc one other last)))
        (k start (deeds ++ (one ++ [])) (h start deeds x)),
  )

  heard_last : (a b : L) (last : List (AcceptDeed W)) → HasHeardLast did a b last → HasHeardThen did a b last
  heard_last a b last (n, h) = (replicate n HadNoClient, vain_often W n, h)

  pub heard_ended : {M S T : Type 0} (a b : L) (l : LoopValue M S) (x : Arrival T W) (at : ℕ) → x ≡ arrival.Ended at
      → HasHeardFor did a b l x → HasHeardThen did a b []
  heard_ended {M} {S} {T} a b l x at is h =
      heard_last a b [] (subst (λ (y : Arrival T W). HasHeardFor did a b l y) is h)

  pub heard_client : {M S T : Type 0} (a b : L) (l : LoopValue M S) (x : Arrival T W) (at : ℕ) (stream : T)
      → x ≡ arrival.Client at stream → HasHeardFor did a b l x → HasHeardThen did a b (GaveClient at ∷ [])
  heard_client {M} {S} {T} a b l x at stream is h =
      heard_last a b (GaveClient at ∷ []) (subst (λ (y : Arrival T W). HasHeardFor did a b l y) is h)

  pub heard_deaf : {M S T : Type 0} (a b : L) (l : LoopValue M S) (x : Arrival T W) (why : W)
      → x ≡ arrival.NotAccepted why → HasHeardFor did a b l x → HasHeardThen did a b (CouldNotGive why ∷ [])
  heard_deaf {M} {S} {T} a b l x why is h =
      heard_last a b (CouldNotGive why ∷ []) (subst (λ (y : Arrival T W). HasHeardFor did a b l y) is h)

  pub heard_late : {M S T : Type 0} (a b : L) (l : LoopValue M S) (x : Arrival T W) → x ≡ arrival.TooLate
      → HasHeardFor did a b l x → HasHeardThen did a b []
  heard_late {M} {S} {T} a b l x is h =
      heard_last a b [] (subst (λ (y : Arrival T W). HasHeardFor did a b l y) is h).0

  pub heard_lost : {M S T : Type 0} (a b : L) (l : LoopValue M S) (x : Arrival T W) (why : W) → x ≡ arrival.Lost why
      → HasHeardFor did a b l x → HasHeardThen did a b []
  heard_lost {M} {S} {T} a b l x why is h =
      let (n, heard) = subst (λ (y : Arrival T W). HasHeardFor did a b l y) is h in (
        replicate n HadNoClient ++ LostClient why ∷ [],
        vain_then (replicate n HadNoClient) (LostClient why ∷ []) (vain_often W n) tt,
        subst (λ (d : List (AcceptDeed W)). HasHeard did a b d)
            (sym (append-nil (replicate n HadNoClient ++ LostClient why ∷ []))) heard,
      )

-- ---- a change of one place

-- these are the ends, as they are seen
module _ {S : Type 0} (places : List (Place Once S)) (all : List (Beside S)) (ends : List (EndThere S))
    (seen : ends_there places all ≡ ends) (at : ℕ) where
  pub both_at : (y : EndThere S) → slice_get ends at ≡ Some y → (place : Place Once S) × (x : Beside S)
      × (slice_get places at ≡ Some place) × (slice_get all at ≡ Some x) × (y ≡ end_there place x)
  both_at y is = ends_of places all at y (ap (λ (l : List (EndThere S)). slice_get l at) seen ∙ is)

  pub seen_at : (place : Place Once S) (x : Beside S) → slice_get places at ≡ Some place → slice_get all at ≡ Some x
      → slice_get ends at ≡ Some (end_there place x)
  seen_at place x is beside_is = ap (λ (l : List (EndThere S)). slice_get l at) (sym seen)
      ∙ ends_get places all at place x is beside_is

  pub within_all : at < length ends → at < length all
  within_all within =
      let (y, y_is) = place_of ends at within in
      let (place, x, is, beside_is, same) = both_at y y_is in slice_get_within all at x beside_is

  pub within_places : at < length ends → at < length places
  within_places within =
      let (y, y_is) = place_of ends at within in
      let (place, x, is, beside_is, same) = both_at y y_is in slice_get_within places at place is

  pub seen_set : (after : List (Place Once S)) (place : Place Once S) (x : Beside S)
      → after ≡ slice_set places at place → ends_there after (slice_set all at x) ≡ slice_set ends at
      (end_there place x)
  seen_set after place x set = ap (λ (l : List (Place Once S)). ends_there l (slice_set all at x)) set
      ∙ (ends_set places all at place x ∙ ap (λ (l : List (EndThere S)). slice_set l at (end_there place x)) seen)

  -- what stands there is taken out of the loop
  pub lifted_so : (after : List (Place Once S)) → after ≡ slice_set places at Empty → at < length ends
      → ends_there after all ≡ slice_set ends at FreePlace
  lifted_so after set within =
      let (x, x_is) = place_of all at (within_all within) in
      ap (λ (l : List (Place Once S)). ends_there l all) set
      ∙ (ends_set_place places all at Empty x x_is ∙ ap (λ (l : List (EndThere S)). slice_set l at FreePlace) seen)

  pub lifted_free : (after : List (Place Once S)) → after ≡ slice_set places at Empty → at < length ends
      → slice_get (ends_there after all) at ≡ Some FreePlace
  lifted_free after set within = ap (λ (l : List (EndThere S)). slice_get l at) (lifted_so after set within)
      ∙ get_set_same ends at FreePlace within

  -- and something else is put there
  pub put_so : (after : List (Place Once S)) (new : List (EndThere S)) (y : EndThere S)
      → after ≡ slice_set places at Empty → at < length ends → new ≡ slice_set (ends_there after all) at y
      → new ≡ slice_set ends at y
  put_so after new y set within is = is
      ∙ (ap (λ (l : List (EndThere S)). slice_set l at y) (lifted_so after set within)
      ∙ set_twice ends at FreePlace y)

  -- what is beside it is taken too
  pub both_lifted : (after : List (Place Once S)) (rest : List (Beside S)) → after ≡ slice_set places at Empty
      → rest ≡ slice_set all at nearby.Nothing → ends_there after rest ≡ slice_set ends at FreePlace
  both_lifted after rest set taken = ap (λ (l : List (Beside S)). ends_there after l) taken
      ∙ seen_set after Empty nearby.Nothing set

  pub both_free : (after : List (Place Once S)) (rest : List (Beside S)) → after ≡ slice_set places at Empty
      → rest ≡ slice_set all at nearby.Nothing → at < length ends
      → slice_get (ends_there after rest) at ≡ Some FreePlace
  both_free after rest set taken within = ap (λ (l : List (EndThere S)). slice_get l at)
      (both_lifted after rest set taken) ∙ get_set_same ends at FreePlace within

  pub seen_slot : (slot : Slot Once S) → at < length ends → slice_get places at ≡ Some (Open slot)
      → slice_get ends at ≡ Some (AskedEnd slot)
  seen_slot slot within is =
      let (x, x_is) = place_of all at (within_all within) in seen_at (Open slot) x is x_is

  pub slotless : IsRestAt ends at → IsSlotlessAt places at
  slotless (there, is, rest) =
      let (place, x, place_is, beside_is, same) = both_at there is in
      (place, place_is, by place x (subst (λ (w : EndThere S). IsResting w) same rest))
    where
      by : (place : Place Once S) (x : Beside S) → IsResting (end_there place x) → IsSlotless place
      by Empty x h = tt
      by (Open slot) x h = absurd h
      by (Pending watch) x h = tt
      by Broken x h = absurd h

pub bare_rests : {S : Type 0} (ends : List (EndThere S)) (at : ℕ) → HasEndAt ends at false → IsRestAt ends at
bare_rests {S} ends at (there, is, none) = (there, is, by there none)
  where
    by : (there : EndThere S) → is_end_there there ≡ false → IsResting there
    by FreePlace h = tt
    by KeptPlace h = tt
    by AwaitedPlace h = tt
    by (AskedEnd slot) h = absurd (false≢true (sym h))
    by (HeldEnd stream) h = absurd (false≢true (sym h))
    by LostEnd h = absurd (false≢true (sym h))

pub all_free : {S : Type 0} (len : ℕ) (places : List (Place Once S)) (all : List (Beside S)) → length places ≡ len
    → AreEmpty places → length all ≡ length places → AreFreeEnds len (ends_there places all)
all_free {S} len places all many empty same = (
  ends_len places all same ∙ many,
  λ at within.
      let (place, is) = place_of places at (omega (arith, many, within)) in
      let (x, beside_is) = place_of all at (omega (arith, many, same, within)) in
      ends_get places all at place x is beside_is ∙ ap (λ (p : Place Once S). Some (end_there p x)) (empty at place is),
)

-- ---- what is asked

module _ {S : Type 0} (did : S → S → List Deed → Type 0) (at : ℕ) (ask : Ask) where
  -- nothing is asked of an end that was held
  pub asked_nothing : (ends new : List (EndThere S)) (stream : S) → slice_get ends at ≡ Some FreePlace
      → new ≡ slice_set ends at (HeldEnd stream) → AsksNothing ask
      → IsAskedNow did (slice_set ends at (HeldEnd stream)) new at ask
  asked_nothing ends new stream free is nothing = record {
    before = HeldEnd stream;
    after = HeldEnd stream;
    was = get_set_same ends at (HeldEnd stream) (slice_get_within ends at FreePlace free);
    is = is ∙ sym (set_twice ends at (HeldEnd stream) (HeldEnd stream));
    asked = (refl, nothing);
    told = λ told h. h;
  }

  -- something is
  pub asked_some : (places after : List (Place Once S)) (all : List (Beside S)) (ends : List (EndThere S))
      (slot : Slot Once S) → ends_there places all ≡ ends → slice_get ends at ≡ Some FreePlace
      → after ≡ slice_set places at (Open slot) → AsksSo slot.machine ask → IsOnce slot.machine slot.machine []
      → HasNoLimits slot.pace → IsAskedNow did (slice_set ends at (HeldEnd slot.stream)) (ends_there after all) at ask
  asked_some places after all ends slot seen free set asks once limits =
      let (place, x, is, beside_is, same) = both_at places all ends seen at FreePlace free in record {
        before = HeldEnd slot.stream;
        after = AskedEnd slot;
        was = get_set_same ends at (HeldEnd slot.stream) (slice_get_within ends at FreePlace free);
        is = ap (λ (l : List (Place Once S)). ends_there l all) set
            ∙ (ends_set_place places all at (Open slot) x beside_is
            ∙ (ap (λ (l : List (EndThere S)). slice_set l at (AskedEnd slot)) seen
            ∙ sym (set_twice ends at (HeldEnd slot.stream) (AskedEnd slot))));
        asked = (refl, asks);
        told = λ told h. (slot.machine, [], once, h, limits);
      }

  -- something has happened: it stays
  pub asked_late : (places after new : List (Place Once S)) (all : List (Beside S)) (ends : List (EndThere S))
      (slot : Slot Once S) → ends_there places all ≡ ends → at < length ends → slice_get places at ≡ Some (Open slot)
      → after ≡ slice_set places at Empty → new ≡ slice_set after at (Open slot)
      → is_some slot.machine.happened ≡ true → IsAskedNow did ends (ends_there new all) at ask
  asked_late places after new all ends slot seen within is lifted put done =
      let (x, beside_is) = place_of all at (within_all places all ends seen at within) in
      let was : slice_get ends at ≡ Some (AskedEnd slot) = seen_at places all ends seen at (Open slot) x is beside_is in
      let same : new ≡ places = put ∙ (ap (λ (l : List (Place Once S)). slice_set l at (Open slot)) lifted
      ∙ (set_twice places at Empty (Open slot) ∙ set_same places at (Open slot) is)) in record {
        before = AskedEnd slot;
        after = AskedEnd slot;
        was = was;
        is = ap (λ (l : List (Place Once S)). ends_there l all) same
            ∙ (seen ∙ sym (set_same ends at (AskedEnd slot) was));
        asked = by slot.machine.happened done;
        told = λ told h. h;
      }
    where
      by : (what : Option WhatHappened) → is_some what ≡ true → IsAskedUnless what ask slot (AskedEnd slot)
      by None h = absurd (false≢true h)
      by (Some what) h = refl

  -- what was asked of an end that was taken out of its place
  asked_from : (ends lifted new : List (EndThere S)) (stream : S) → at < length ends
      → lifted ≡ slice_set ends at FreePlace → IsAskedNow did (slice_set lifted at (HeldEnd stream)) new at ask
      → (after : EndThere S) × (new ≡ slice_set ends at after) × IsAskedFrom ask stream after
      × ((told : List Told) → StreamDid did stream told [] → WasToldOf did after told)
  asked_from ends lifted new stream within free a =
      let held : a.before ≡ HeldEnd stream = same_Some a.before (HeldEnd stream)
      (sym a.was ∙ get_set_same lifted at (HeldEnd stream)
      (omega (arith, within, ap (λ (l : List (EndThere S)). length l) free, length_set ends at FreePlace))) in (
        a.after,
        a.is ∙ (set_twice lifted at (HeldEnd stream) a.after
            ∙ (ap (λ (l : List (EndThere S)). slice_set l at a.after) free ∙ set_twice ends at FreePlace a.after)),
        subst (λ (w : EndThere S). IsAskedOf ask w a.after) held a.asked,
        subst (λ (w : EndThere S). (told : List Told) → WasToldOf did w told → WasToldOf did a.after told) held a.told,
      )

  pub asked_held : (ends lifted new : List (EndThere S)) (stream : S) → lifted ≡ slice_set ends at FreePlace
      → slice_get ends at ≡ Some (HeldEnd stream) → IsAskedNow did (slice_set lifted at (HeldEnd stream)) new at ask
      → IsAskedNow did ends new at ask
  asked_held ends lifted new stream free was a =
      let (after, is, asked, told) =
      asked_from ends lifted new stream (slice_get_within ends at (HeldEnd stream) was) free a in
      record { before = HeldEnd stream; after = after; was = was; is = is; asked = asked; told = told }

  pub asked_anew : (ends lifted new : List (EndThere S)) (slot : Slot Once S) → lifted ≡ slice_set ends at FreePlace
      → slice_get ends at ≡ Some (AskedEnd slot) → is_some slot.machine.happened ≡ false
      → IsAskedNow did (slice_set lifted at (HeldEnd slot.stream)) new at ask → IsAskedNow did ends new at ask
  asked_anew ends lifted new slot free was none a =
      let (after, is, asked, told) =
      asked_from ends lifted new slot.stream (slice_get_within ends at (AskedEnd slot) was) free a in record {
        before = AskedEnd slot;
        after = after;
        was = was;
        is = is;
        asked = by slot.machine.happened after none asked;
        told = λ earlier stood.
            let (begun, untold, once, stream, limits) = stood in told earlier
            (subst (λ (l : List Told). StreamDid did slot.stream earlier l) (nothing begun untold once) stream);
      }
    where
      by : (what : Option WhatHappened) (after : EndThere S) → is_some what ≡ false → IsAskedFrom ask slot.stream after
          → IsAskedUnless what ask slot after
      by None after h asked = asked
      by (Some what) after h asked = absurd (false≢true (sym h))

      nothing : (begun : OnceValue) (untold : List Told) → IsOnce begun slot.machine untold → untold ≡ []
      nothing begun [] once = refl
      nothing begun (x ∷ []) once =
          absurd (false≢true (sym none ∙ ap (λ (o : Option WhatHappened). is_some o) once.is))
      nothing begun (x ∷ y ∷ told) once = absurd once

-- ---- what has ended

module _ {S : Type 0} (did : S → S → List Deed → Type 0) (at : ℕ) (ends new : List (EndThere S)) where
  happens : (slot : Slot Once S) (what : WhatHappened) (earlier : List Told) (begun : OnceValue) (untold : List Told)
      → IsOnce begun slot.machine untold → StreamDid did slot.stream earlier untold → HappenedBy untold what
      → HappensNext did slot slot.stream what earlier
  happens slot what earlier begun [] once stream so = absurd so
  happens slot what earlier begun (x ∷ y ∷ told) once stream so = absurd so
  happens slot what earlier begun (x ∷ []) once stream so = record {
    told = x;
    asked = asked_alike did slot.machine begun x
        (record { bytes = sym once.bytes; room = sym once.room; ends = sym once.ends }) once.asked;
    by_stream = stream.by_stream.0;
    so = so;
    was_told = record {
      first = stream.first;
      deeds = stream.deeds;
      fresh = stream.fresh;
      did_all = stream.did_all;
      all = stream.all ∙ sym (append-nil (earlier ++ x ∷ []));
      few = omega arith;
      by_stream = tt;
    };
  }

  pub happened_so : (W : Type 0) (slot : Slot Once S) (what : WhatHappened) → slice_get ends at ≡ Some (AskedEnd slot)
      → new ≡ slice_set ends at (HeldEnd slot.stream)
      → ((start : OnceValue) (told : List Told) → IsOnce start slot.machine told → HappenedBy told what)
      → HasComeAmong {W = W} did ends new (came.Happened at what)
  happened_so W slot what was is gives = (
    slot,
    slot.stream,
    was,
    all_equal did (slice_set ends at (HeldEnd slot.stream)) new is,
    λ earlier stood.
        let (begun, untold, once, stream, limits) = stood in
        happens slot what earlier begun untold once stream (gives begun untold once),
  )

  pub stirred_so : {W : Type 0} (x : Beside S) (event : Option (EndEvent S W)) → slice_get ends at ≡ Some (resting x)
      → new ≡ slice_set (slice_set ends at FreePlace) at (resting x)
      → IfSome event (λ e. (e ≡ came.Stirred at) × (resting x ≡ AwaitedPlace))
      → MatchOption event (GoOn did ends new) (HasComeAmong did ends new)
  stirred_so {W} x event was set = by event
    where
      same : new ≡ ends
      same = set ∙ (set_twice ends at FreePlace (resting x) ∙ set_same ends at (resting x) was)

      by : (event : Option (EndEvent S W)) → IfSome event (λ e. (e ≡ came.Stirred at) × (resting x ≡ AwaitedPlace))
          → MatchOption event (GoOn did ends new) (HasComeAmong did ends new)
      by None h = all_equal did ends new same
      by (Some e) (is, awaited) = subst (λ (w : EndEvent S W). HasComeAmong did ends new w) (sym is)
          (was ∙ ap (λ (w : EndThere S). Some w) awaited, all_equal did ends new same)

-- nothing more is asked of it
abbrev IsDoneThere : {S : Type 0} → EndThere S → Type 0
IsDoneThere (AskedEnd slot) = (wanted_once slot.machine).done ≡ true
IsDoneThere _ = ⊤

pub over_within : {S : Type 0} (places : List (Place Once S)) (all : List (Beside S)) (at : ℕ)
    → length all ≡ length places → IsOverAt (λ now. wanted_once now) places at → at < length (ends_there places all)
over_within places all at len (place, there, over) =
    omega (arith, ends_len places all len, slice_get_within places at place there)

pub empty_free : {S : Type 0} (places : List (Place Once S)) (all : List (Beside S)) (at : ℕ)
    → length all ≡ length places → slice_get places at ≡ Some Empty
    → slice_get (ends_there places all) at ≡ Some FreePlace
empty_free places all at len is =
    let (x, x_is) = place_of all at (omega (arith, len, slice_get_within places at Empty is)) in
    ends_get places all at Empty x is x_is

-- an end that is over is done
pub over_so : {S : Type 0} (places : List (Place Once S)) (all : List (Beside S)) (at : ℕ) (slot : Slot Once S)
    → IsOverAt (λ now. wanted_once now) places at → slice_get (ends_there places all) at ≡ Some (AskedEnd slot)
    → (wanted_once slot.machine).done ≡ true
over_so {S} places all at slot (place, there, over) is =
    let (p, x, p_is, beside_is, same) = ends_of places all at (AskedEnd slot) is in
    subst (λ (w : EndThere S). IsDoneThere w) (sym same)
    (by p x (subst (λ (q : Place Once S). IsPlaceOver (λ now. wanted_once now) q)
    (same_Some place p (sym there ∙ p_is)) over))
  where
    by : (p : Place Once S) (x : Beside S) → IsPlaceOver (λ now. wanted_once now) p → IsDoneThere (end_there p x)
    by Empty x h = tt
    by (Open slot) x h = h
    by (Pending watch) nearby.Nothing h = tt
    by (Pending watch) nearby.UnderWay h = tt
    by (Pending watch) (nearby.Held stream pace) h = tt
    by Broken x h = tt

-- ---- options

pub came_none : {X : Type 0} (o : Option X) (P : Type 0) (Q : X → Type 0) → o ≡ None → MatchOption o P Q → P
came_none {X} o P Q is h = subst (λ (x : Option X). MatchOption x P Q) is h

pub came_some : {X : Type 0} (o : Option X) (x : X) (P : Type 0) (Q : X → Type 0) → o ≡ Some x → MatchOption o P Q → Q x
came_some {X} o x P Q is h = subst (λ (y : Option X). MatchOption y P Q) is h

pub unheard_so : {S L W : Type 0} (did : L → L → List (AcceptDeed W) → Type 0) (a b : L) (o : Option (EndEvent S W))
    → IfSome o (λ e. heard_by e ≡ []) → HasHeardThen did a b []
    → MatchOption o (HasHeardThen did a b []) (λ e. HasHeardThen did a b (heard_by e))
unheard_so did a b None h heard = heard
unheard_so {S} {L} {W} did a b (Some e) h heard =
    subst (λ (l : List (AcceptDeed W)). HasHeardThen did a b l) (sym h) heard
