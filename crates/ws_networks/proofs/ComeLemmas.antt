-- A place of a loop over a network comes on: nothing happens, one thing after the other, a round, and a connection that is
-- asked for.
use Rattle.std.proofs.Common.{◌≡◌, ◌∙◌, ℕ, ◌≤◌, ◌<◌, ◌⊎◌, ◌≢◌, Bool, true, false, List, [], ◌∷◌, ◌++◌, length, refl}
use Rattle.std.proofs.Common.{sym, ap, subst, arith, append_assoc, append-nil, inl, inr, nat_eq, if◌then◌else◌, Some}
use Rattle.std.proofs.lemmas.Bool.{false≢true}
use Rattle.std.proofs.lemmas.Bool.Decides.{eqb_tells}
use Rattle.ws_machines.specs.Told.{Told}
use Rattle.ws_machines.specs.Machines.{Wants}
use Rattle.ws_loops.specs.Deeds.{Deed}
use Rattle.ws_loops.specs.Loops.{HasGoneOn}
use Rattle.ws_loops.specs.Slots.{IsAble}
use Rattle.ws_loops.specs.Watches.{AreWatched, WatchRound, watched_by}
use Rattle.ws_loops.specs.declared.places.Place.{Place}
use Rattle.ws_loops.specs.declared.places.Place.TheVariants.{Broken, Empty, Open, Pending}
use Rattle.ws_loops.specs.declared.slot.Slot.{Slot}
use Rattle.ws_loops.specs.declared.watch.Watch.{Watch}
use Rattle.ws_loops.proofs.RoundLemmas.{gone_then, still_goes_on}
use Rattle.ws_networks.specs.Connecting.{AllMissed, HasDialled, IfDialled, IsDialling, OneMade}
use Rattle.ws_networks.specs.NetworkLoops.{AreOfPlaces, HasComeOn, IsMadeFor, Standing, StaysUnderWay, WasMissedBy}
use Rattle.ws_networks.specs.NetworkLoops.{begun_slot, standing_by, standing_of}
use Rattle.ws_networks.specs.NetworkLoops.Standing.{Broke, Free, Lost, Served, Trying}
use Rattle.ws_networks.specs.Networks.{AreDeedsOf, NetworkDeed, deeds_at, is_deed_of}
use Rattle.ws_networks.specs.Networks.NetworkDeed.{Asked, Begun, Bound, Found, Named, NotBegun, NotBound, NotFound}
use Rattle.ws_networks.specs.Networks.NetworkDeed.{NotNamed}
use Rattle.ws_networks.specs.declared.bounds.Bounds.{Bounds}
use Rattle.ws_networks.proofs.EachLemmas.{missed_until}
use Rattle.ws_networks.specs.declared.dialing.Dial.{Dial}
use Rattle.ws_networks.specs.declared.dialing.Dialled.{Dialled}
use Rattle.ws_networks.specs.declared.dialing.Dialled.TheVariants as dialled
use Rattle.ws_networks.specs.declared.dialing.Missed.{Missed}
use Rattle.ws_networks.specs.declared.network_loop.Outbound.{Outbound}
use Rattle.ws_networks.specs.declared.network_loop.Outbound.TheVariants as outbound

-- ---- lists of which there is nothing

pub none_then : {X : Type 0} (one other : List X) → one ≡ [] → other ≡ [] → one ++ other ≡ []
none_then {X} one other h k = ap (λ (l : List X). l ++ other) h ∙ k

pub none_first : {X : Type 0} (one other : List X) → one ≡ [] → one ++ other ≡ other
none_first {X} one other h = ap (λ (l : List X). l ++ other) h

pub none_last : {X : Type 0} (one other : List X) → other ≡ [] → one ++ other ≡ one
none_last {X} one other h = ap (λ (l : List X). one ++ l) h ∙ append-nil one

-- ---- what a network did for each place

other_number : (place at i : ℕ) → nat_eq place at ≡ true → (i ≡ at → ⊥) → nat_eq place i ≡ false
other_number place at i e other = by (eqb_tells place at) (eqb_tells place i)
  where
    by : ((nat_eq place at ≡ true) × (place ≡ at)) ⊎ ((nat_eq place at ≡ false) × (place ≢ at))
        → ((nat_eq place i ≡ true) × (place ≡ i)) ⊎ ((nat_eq place i ≡ false) × (place ≢ i))
        → nat_eq place i ≡ false
    by (inl same) (inl also) = absurd (other (sym also.1 ∙ same.1))
    by (inl same) (inr not_so) = not_so.0
    by (inr not_so) k = absurd (false≢true (sym not_so.0 ∙ e))

module _ {A W : Type 0} where
  one_then : (b : Bool) (x : NetworkDeed A W) (xs ys : List (NetworkDeed A W))
      → (if b then x ∷ (xs ++ ys) else (xs ++ ys)) ≡ (if b then x ∷ xs else xs) ++ ys
  one_then true x xs ys = refl
  one_then false x xs ys = refl

  pub deeds_then : (i : ℕ) (one other : List (NetworkDeed A W))
      → deeds_at i (one ++ other) ≡ deeds_at i one ++ deeds_at i other
  deeds_then i [] other = refl
  deeds_then i (x ∷ one) other = ap (λ (l : List (NetworkDeed A W)). if is_deed_of i x then x ∷ l else l)
      (deeds_then i one other) ∙ one_then (is_deed_of i x) x (deeds_at i one) (deeds_at i other)

  -- what was done for this place is all that was
  pub deeds_own : (at : ℕ) (deeds : List (NetworkDeed A W)) → AreDeedsOf at deeds → deeds_at at deeds ≡ deeds
  deeds_own at [] own = refl
  deeds_own at (x ∷ deeds) (is, own) = subst (λ (b : Bool). (if b then x ∷ deeds_at at deeds else deeds_at at deeds)
      ≡ x ∷ deeds) (sym is) (ap (λ (l : List (NetworkDeed A W)). x ∷ l) (deeds_own at deeds own))

  other_deed : (at i : ℕ) (x : NetworkDeed A W) → is_deed_of at x ≡ true → (i ≡ at → ⊥) → is_deed_of i x ≡ false
  other_deed at i (Begun place address since) e other = other_number place at i e other
  other_deed at i (NotBegun place address why) e other = other_number place at i e other
  other_deed at i (Asked place progress) e other = other_number place at i e other
  other_deed at i (Found name addresses) e other = refl
  other_deed at i (NotFound name why) e other = refl
  other_deed at i (Bound address) e other = refl
  other_deed at i (NotBound address why) e other = refl
  other_deed at i (Named address) e other = refl
  other_deed at i (NotNamed why) e other = refl

  -- and for another one nothing was
  pub deeds_other : (at i : ℕ) (deeds : List (NetworkDeed A W)) → AreDeedsOf at deeds → (i ≡ at → ⊥)
      → deeds_at i deeds ≡ []
  deeds_other at i [] own other = refl
  deeds_other at i (x ∷ deeds) (is, own) other =
      subst (λ (b : Bool). (if b then x ∷ deeds_at i deeds else deeds_at i deeds) ≡ [])
      (sym (other_deed at i x is other)) (deeds_other at i deeds own other)

  -- each was done for one of so many places
  pub places_then : (count : ℕ) (one other : List (NetworkDeed A W)) → AreOfPlaces count one → AreOfPlaces count other
      → AreOfPlaces count (one ++ other)
  places_then count [] other h k = k
  places_then count (x ∷ one) other (is, h) k = (is, places_then count one other h k)

  pub places_own : (count at : ℕ) (deeds : List (NetworkDeed A W)) → at < count → AreDeedsOf at deeds
      → AreOfPlaces count deeds
  places_own count at [] lt own = tt
  places_own count at (x ∷ deeds) lt (is, own) = ((at, lt, is), places_own count at deeds lt own)

  -- where there is but one, all was done for that
  pub only_deeds : (deeds : List (NetworkDeed A W)) → AreOfPlaces 1 deeds → deeds_at 0 deeds ≡ deeds
  only_deeds [] own = refl
  only_deeds (x ∷ deeds) ((at, lt, is), own) =
      let at_0 : at ≡ 0 = omega (arith, lt) in
      subst (λ (b : Bool). (if b then x ∷ deeds_at 0 deeds else deeds_at 0 deeds) ≡ x ∷ deeds)
      (sym (subst (λ (n : ℕ). is_deed_of n x ≡ true) at_0 is))
      (ap (λ (l : List (NetworkDeed A W)). x ∷ l) (only_deeds deeds own))

-- ---- a connection that is under way

watched_later : (from to : ℕ) (x z : Watch) (rounds : List WatchRound) → AreWatched from x rounds to z → from ≤ to
watched_later from to x z [] (le, same) = le
watched_later from to x z (r ∷ rounds) (le, rest) =
    omega (arith, le, watched_later r.at to (watched_by r.ready r.at x) z rounds rest)

module _ {A S W : Type 0} where
  later_way : (at from now later : ℕ) (dial : Dial A S W) (deeds : List (NetworkDeed A W)) → now ≤ later
      → IsDialling at from now dial deeds → IsDialling at from later dial deeds
  later_way at from now later dial deeds le h = record {
    mid = h.mid;
    tried = h.tried;
    address = h.address;
    asked = h.asked;
    missed = h.missed;
    is = h.is;
    after = h.after;
    before = omega (arith, le, h.before);
    all = h.all;
  }

  pub stays_still : (at from to : ℕ) (dial : Dial A S W) → from ≤ to → StaysUnderWay at from to dial dial []
  stays_still at from to dial le = record {
    addresses = refl;
    bounds = refl;
    goes_on = λ start before h. subst (λ (l : List (NetworkDeed A W)). IsDialling at start to dial l)
        (sym (append-nil before)) (later_way at start from to dial before le h);
  }

  pub stays_then : (at from mid to : ℕ) (x y z : Dial A S W) (deeds more : List (NetworkDeed A W))
      → StaysUnderWay at from mid x y deeds → StaysUnderWay at mid to y z more
      → StaysUnderWay at from to x z (deeds ++ more)
  stays_then at from mid to x y z deeds more h k = record {
    addresses = k.addresses ∙ h.addresses;
    bounds = k.bounds ∙ h.bounds;
    goes_on = λ start before way. subst (λ (l : List (NetworkDeed A W)). IsDialling at start to z l)
        (append_assoc before deeds more) (k.goes_on start (before ++ deeds) (h.goes_on start before way));
  }

  pub way_missed : (at from mid to : ℕ) (x y : Dial A S W) (why : Missed W) (deeds more : List (NetworkDeed A W))
      → StaysUnderWay at from mid x y deeds → WasMissedBy at mid to y why more
      → WasMissedBy at from to x why (deeds ++ more)
  way_missed at from mid to x y why deeds more h k start before way =
      subst (λ (b : Bounds). AllMissed at b start to x.tries.addresses.items why (before ++ (deeds ++ more))) h.bounds
      (subst (λ (l : List A). AllMissed at y.tries.bounds start to l why (before ++ (deeds ++ more))) h.addresses
      (subst (λ (l : List (NetworkDeed A W)). AllMissed at y.tries.bounds start to y.tries.addresses.items why l)
      (append_assoc before deeds more) (k start (before ++ deeds) (h.goes_on start before way))))

  pub missed_on : (at from mid to : ℕ) (x : Dial A S W) (why last : Missed W) (deeds more : List (NetworkDeed A W))
      → WasMissedBy at from mid x why deeds → last ≡ why → mid ≤ to → more ≡ []
      → WasMissedBy at from to x last (deeds ++ more)
  missed_on at from mid to x why last deeds more h same le none start before way =
      subst (λ (l : List (NetworkDeed A W)). AllMissed at x.tries.bounds start to x.tries.addresses.items last
      (before ++ l)) (sym (none_last deeds more none))
      (subst (λ (m : Missed W). AllMissed at x.tries.bounds start to x.tries.addresses.items m (before ++ deeds))
      (sym same) (all_later (h start before way)))
    where
      all_later : AllMissed at x.tries.bounds start mid x.tries.addresses.items why (before ++ deeds)
          → AllMissed at x.tries.bounds start to x.tries.addresses.items why (before ++ deeds)
      all_later m = record {
        misses = m.misses;
        tried = missed_until at x.tries.bounds start mid to x.tries.addresses.items m.misses (before ++ deeds) le m.tried;
        first = m.first;
      }

-- ---- a place comes on

module _ {M S A W : Type 0} (agrees : M → M → List Told → Type 0) (wants : M → Wants)
    (did : S → S → List Deed → Type 0) where
  way_made : (at from mid to : ℕ) → from ≤ mid → (mx my : M) (x y : Dial A S W) (z : Place M S) (lines : List (List ℕ))
      (deeds more : List (NetworkDeed A W)) → my ≡ mx → StaysUnderWay at from mid x y deeds
      → IsMadeFor agrees wants did at mid to my y z lines more
      → IsMadeFor agrees wants did at from to mx x z lines (deeds ++ more)
  way_made at from mid to before_mid mx my x y z lines deeds more same h made = record {
    made = made.made;
    later = omega (arith, before_mid, made.later);
    stream = made.stream;
    fresh = made.fresh;
    was_made = λ start before way.
        subst (λ (b : Bounds). OneMade at b start made.made x.tries.addresses.items (before ++ (deeds ++ more))) h.bounds
        (subst (λ (l : List A). OneMade at y.tries.bounds start made.made l (before ++ (deeds ++ more))) h.addresses
        (subst (λ (l : List (NetworkDeed A W)). OneMade at y.tries.bounds start made.made y.tries.addresses.items l)
        (append_assoc before deeds more) (made.was_made start (before ++ deeds) (h.goes_on start before way))));
    ran = subst (λ (b : Bounds). HasGoneOn agrees wants did made.made to
        (Open (begun_slot mx made.stream b made.made)) z lines) h.bounds
        (subst (λ (m : M). HasGoneOn agrees wants did made.made to
        (Open (begun_slot m made.stream y.tries.bounds made.made)) z lines) same made.ran);
  }

  made_on : (at from mid to : ℕ) → mid ≤ to → (mx : M) (x : Dial A S W) (y z : Place M S) (one other : List (List ℕ))
      (deeds more : List (NetworkDeed A W)) → IsMadeFor agrees wants did at from mid mx x y one deeds
      → HasGoneOn agrees wants did mid to y z other → more ≡ []
      → IsMadeFor agrees wants did at from to mx x z (one ++ other) (deeds ++ more)
  made_on at from mid to le mx x y z one other deeds more h on none = record {
    made = h.made;
    later = h.later;
    stream = h.stream;
    fresh = h.fresh;
    was_made = λ start before way. subst (λ (l : List (NetworkDeed A W)). OneMade at x.tries.bounds start h.made
        x.tries.addresses.items (before ++ l)) (sym (none_last deeds more none)) (h.was_made start before way);
    ran = gone_then agrees wants did h.made mid to le (Open (begun_slot mx h.stream x.tries.bounds h.made)) y z one other
        h.ran on;
  }

  -- nothing happens
  pub still_comes : (at from to : ℕ) (x : Standing M S A W) → from ≤ to
      → HasComeOn agrees wants did from to at x x [] []
  still_comes at from to Free le = (refl, refl)
  still_comes at from to Broke le = (refl, refl)
  still_comes at from to (Lost why) le = (refl, refl, refl)
  still_comes at from to (Served slot) le = (still_goes_on agrees wants did from to (Open slot) le, refl)
  still_comes at from to (Trying machine dial) le = (refl, refl, stays_still at from to dial le)

  -- one thing after the other
  pub come_then : (at from mid to : ℕ) → from ≤ mid → mid ≤ to → (x y z : Standing M S A W) (one other : List (List ℕ))
      (deeds more : List (NetworkDeed A W)) → HasComeOn agrees wants did from mid at x y one deeds
      → HasComeOn agrees wants did mid to at y z other more
      → HasComeOn agrees wants did from to at x z (one ++ other) (deeds ++ more)
  come_then at from mid to first le Free Free Free one other deeds more (h, hd) (k, kd) =
      (none_then one other h k, none_then deeds more hd kd)
  come_then at from mid to first le Free Free Broke one other deeds more h k = absurd k
  come_then at from mid to first le Free Free (Lost z) one other deeds more h k = absurd k
  come_then at from mid to first le Free Free (Served z) one other deeds more h k = absurd k
  come_then at from mid to first le Free Free (Trying mz z) one other deeds more h k = absurd k
  come_then at from mid to first le Free Broke z one other deeds more h k = absurd h
  come_then at from mid to first le Free (Lost y) z one other deeds more h k = absurd h
  come_then at from mid to first le Free (Served y) z one other deeds more h k = absurd h
  come_then at from mid to first le Free (Trying my y) z one other deeds more h k = absurd h
  come_then at from mid to first le Broke Free z one other deeds more h k = absurd h
  come_then at from mid to first le Broke Broke Free one other deeds more h k = absurd k
  come_then at from mid to first le Broke Broke Broke one other deeds more (h, hd) (k, kd) =
      (none_then one other h k, none_then deeds more hd kd)
  come_then at from mid to first le Broke Broke (Lost z) one other deeds more h k = absurd k
  come_then at from mid to first le Broke Broke (Served z) one other deeds more h k = absurd k
  come_then at from mid to first le Broke Broke (Trying mz z) one other deeds more h k = absurd k
  come_then at from mid to first le Broke (Lost y) z one other deeds more h k = absurd h
  come_then at from mid to first le Broke (Served y) z one other deeds more h k = absurd h
  come_then at from mid to first le Broke (Trying my y) z one other deeds more h k = absurd h
  come_then at from mid to first le (Lost x) Free z one other deeds more h k = absurd h
  come_then at from mid to first le (Lost x) Broke z one other deeds more h k = absurd h
  come_then at from mid to first le (Lost x) (Lost y) Free one other deeds more h k = absurd k
  come_then at from mid to first le (Lost x) (Lost y) Broke one other deeds more h k = absurd k
  come_then at from mid to first le (Lost x) (Lost y) (Lost z) one other deeds more (s, h, hd) (t, k, kd) =
      (t ∙ s, none_then one other h k, none_then deeds more hd kd)
  come_then at from mid to first le (Lost x) (Lost y) (Served z) one other deeds more h k = absurd k
  come_then at from mid to first le (Lost x) (Lost y) (Trying mz z) one other deeds more h k = absurd k
  come_then at from mid to first le (Lost x) (Served y) z one other deeds more h k = absurd h
  come_then at from mid to first le (Lost x) (Trying my y) z one other deeds more h k = absurd h
  come_then at from mid to first le (Served x) Free z one other deeds more h k = absurd h
  come_then at from mid to first le (Served x) Broke Free one other deeds more h k = absurd k
  come_then at from mid to first le (Served x) Broke Broke one other deeds more (h, hd) (k, kd) = (
    gone_then agrees wants did from mid to le (Open x) Broken Broken one other h k,
    none_then deeds more hd kd,
  )
  come_then at from mid to first le (Served x) Broke (Lost z) one other deeds more h k = absurd k
  come_then at from mid to first le (Served x) Broke (Served z) one other deeds more h k = absurd k
  come_then at from mid to first le (Served x) Broke (Trying mz z) one other deeds more h k = absurd k
  come_then at from mid to first le (Served x) (Lost y) z one other deeds more h k = absurd h
  come_then at from mid to first le (Served x) (Served y) Free one other deeds more h k = absurd k
  come_then at from mid to first le (Served x) (Served y) Broke one other deeds more (h, hd) (k, kd) = (
    gone_then agrees wants did from mid to le (Open x) (Open y) Broken one other h k,
    none_then deeds more hd kd,
  )
  come_then at from mid to first le (Served x) (Served y) (Lost z) one other deeds more h k = absurd k
  come_then at from mid to first le (Served x) (Served y) (Served z) one other deeds more (h, hd) (k, kd) = (
    gone_then agrees wants did from mid to le (Open x) (Open y) (Open z) one other h k,
    none_then deeds more hd kd,
  )
  come_then at from mid to first le (Served x) (Served y) (Trying mz z) one other deeds more h k = absurd k
  come_then at from mid to first le (Served x) (Trying my y) z one other deeds more h k = absurd h
  come_then at from mid to first le (Trying mx x) Free z one other deeds more h k = absurd h
  come_then at from mid to first le (Trying mx x) Broke Free one other deeds more h k = absurd k
  come_then at from mid to first le (Trying mx x) Broke Broke one other deeds more made (k, kd) =
      made_on at from mid to le mx x Broken Broken one other deeds more made k kd
  come_then at from mid to first le (Trying mx x) Broke (Lost z) one other deeds more h k = absurd k
  come_then at from mid to first le (Trying mx x) Broke (Served z) one other deeds more h k = absurd k
  come_then at from mid to first le (Trying mx x) Broke (Trying mz z) one other deeds more h k = absurd k
  come_then at from mid to first le (Trying mx x) (Lost y) Free one other deeds more h k = absurd k
  come_then at from mid to first le (Trying mx x) (Lost y) Broke one other deeds more h k = absurd k
  come_then at from mid to first le (Trying mx x) (Lost y) (Lost z) one other deeds more (h, missed) (t, k, kd) =
      (none_then one other h k, missed_on at from mid to x y z deeds more missed t le kd)
  come_then at from mid to first le (Trying mx x) (Lost y) (Served z) one other deeds more h k = absurd k
  come_then at from mid to first le (Trying mx x) (Lost y) (Trying mz z) one other deeds more h k = absurd k
  come_then at from mid to first le (Trying mx x) (Served y) Free one other deeds more h k = absurd k
  come_then at from mid to first le (Trying mx x) (Served y) Broke one other deeds more made (k, kd) =
      made_on at from mid to le mx x (Open y) Broken one other deeds more made k kd
  come_then at from mid to first le (Trying mx x) (Served y) (Lost z) one other deeds more h k = absurd k
  come_then at from mid to first le (Trying mx x) (Served y) (Served z) one other deeds more made (k, kd) =
      made_on at from mid to le mx x (Open y) (Open z) one other deeds more made k kd
  come_then at from mid to first le (Trying mx x) (Served y) (Trying mz z) one other deeds more h k = absurd k
  come_then at from mid to first le (Trying mx x) (Trying my y) Free one other deeds more h k = absurd k
  come_then at from mid to first le (Trying mx x) (Trying my y) Broke one other deeds more (s, h, way) made =
      subst (λ (l : List (List ℕ)). IsMadeFor agrees wants did at from to mx x Broken l (deeds ++ more))
      (sym (none_first one other h)) (way_made at from mid to first mx my x y Broken other deeds more s way made)
  come_then at from mid to first le (Trying mx x) (Trying my y) (Lost z) one other deeds more (s, h, way) (k, missed) =
      (none_then one other h k, way_missed at from mid to x y z deeds more way missed)
  come_then at from mid to first le (Trying mx x) (Trying my y) (Served z) one other deeds more (s, h, way) made =
      subst (λ (l : List (List ℕ)). IsMadeFor agrees wants did at from to mx x (Open z) l (deeds ++ more))
      (sym (none_first one other h)) (way_made at from mid to first mx my x y (Open z) other deeds more s way made)
  come_then at from mid to first le (Trying mx x) (Trying my y) (Trying mz z) one other deeds more (s, h, way) (t, k, on) =
      (t ∙ s, none_then one other h k, stays_then at from mid to x y z deeds more way on)

  -- a round, in which nothing is asked for
  pub gone_comes : (at from to : ℕ) (x y : Place M S) (beside : Outbound M A S W) (lines : List (List ℕ))
      → HasGoneOn agrees wants did from to x y lines
      → HasComeOn agrees wants did from to at (standing_of x beside) (standing_of y beside) lines []
  gone_comes at from to Empty Empty beside lines h = (h, refl)
  gone_comes at from to Empty Broken beside lines h = absurd h
  gone_comes at from to Empty (Open y) beside lines h = absurd h
  gone_comes at from to Empty (Pending y) beside lines h = absurd h
  gone_comes at from to Broken Empty beside lines h = absurd h
  gone_comes at from to Broken Broken beside lines h = (h, refl)
  gone_comes at from to Broken (Open y) beside lines h = absurd h
  gone_comes at from to Broken (Pending y) beside lines h = absurd h
  gone_comes at from to (Open x) Empty beside lines h = absurd h
  gone_comes at from to (Open x) Broken beside lines h = (h, refl)
  gone_comes at from to (Open x) (Open y) beside lines h = (h, refl)
  gone_comes at from to (Open x) (Pending y) beside lines h = absurd h
  gone_comes at from to (Pending x) Empty beside lines h = absurd h
  gone_comes at from to (Pending x) Broken beside lines h = absurd h
  gone_comes at from to (Pending x) (Open y) beside lines h = absurd h
  gone_comes at from to (Pending x) (Pending y) outbound.Idle lines (seen, none) = (none, refl)
  gone_comes at from to (Pending x) (Pending y) (outbound.Trying machine dial) lines ((rounds, seen), none) =
      (refl, none, stays_still at from to dial (watched_later from to x y rounds seen))
  gone_comes at from to (Pending x) (Pending y) (outbound.Missed why) lines (seen, none) = (refl, none, refl)

  -- a connection is asked for
  pub asked_comes : {N : Type 0} (does : N → N → List (NetworkDeed A W) → Type 0) (at now : ℕ) (machine : M)
      (dial : Dial A S W) (came : Dialled A S W) (old new : N)
      (h : HasDialled does at now (λ from deeds. IsDialling at from now dial deeds) dial.tries.bounds
      dial.tries.addresses.items came old new) → IfDialled came (λ stream. did stream stream [])
      → HasComeOn agrees wants did now now at (Trying machine dial) (standing_by machine dial.tries.bounds now came) []
      h.deeds
  asked_comes does at now machine dial (dialled.Made stream) old new h fresh = record {
    made = now;
    later = omega arith;
    stream = stream;
    fresh = fresh;
    was_made = h.dialled;
    ran = still_goes_on agrees wants did now now (Open (begun_slot machine stream dial.tries.bounds now)) (omega arith);
  }
  asked_comes does at now machine dial (dialled.Waits next) old new h fresh = (
    refl,
    refl,
    record { addresses = h.kept.0; bounds = h.kept.1; goes_on = h.dialled },
  )
  asked_comes does at now machine dial (dialled.Missed why) old new h fresh = (refl, h.dialled)
