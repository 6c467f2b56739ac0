-- One errand: it begins, and its place of the loop comes on until it is over.
use Rattle.std.proofs.Common.{◌≡◌, ◌∙◌, ℕ, ◌≤◌, true, List, [], ◌++◌, refl, sym, subst, arith}
use Rattle.ws_machines.specs.Told.{Told}
use Rattle.ws_machines.specs.Machines.{Wants}
use Rattle.ws_loops.specs.Deeds.{Deed, all_told}
use Rattle.ws_loops.specs.Loops.{HasGoneOn}
use Rattle.ws_loops.specs.Slots.{HasRunBy}
use Rattle.ws_loops.specs.declared.places.Place.TheVariants.{Open}
use Rattle.ws_loops.specs.declared.slot.Slot.{Slot}
use Rattle.ws_loops.proofs.RunLemmas.{happened_within, nothing_happened, then_happened}
use Rattle.ws_networks.specs.Connecting.{IfDialled, KeepsTries}
use Rattle.ws_networks.specs.NetworkLoops.{HasComeOn, IsHandedOutAs, Standing, begun_slot, standing_by}
use Rattle.ws_networks.specs.NetworkLoops.Standing.{Broke, Free, Lost, Served, Trying}
use Rattle.ws_networks.specs.Networks.{NetworkDeed}
use Rattle.ws_networks.specs.declared.bounds.Bounds.{Bounds}
use Rattle.ws_networks.specs.declared.dialing.Dialled.{Dialled}
use Rattle.ws_networks.specs.declared.dialing.Dialled.TheVariants as dialled
use Rattle.ws_networks.specs.declared.network_loop.Taken.{Taken}
use Rattle.ws_networks.specs.declared.network_loop.Taken.TheVariants as taken
use Rattle.wst_network.specs.declared.connector.StreamEnd.{StreamEnd}
use Rattle.wst_errands.specs.Errands.{IsCameOf, IsErrandEnd, IsSomething, IsUnderWayFor, WasRunSince}
use Rattle.wst_errands.specs.declared.errands.Came.{Came}
use Rattle.wst_errands.specs.declared.errands.Came.TheVariants.{Ended}

-- ---- a slot goes on

module _ {M S : Type 0} (agrees : M → M → List Told → Type 0) (wants : M → Wants) (did : S → S → List Deed → Type 0)
  where
    run_on : (start : M) (bounds : Bounds) (begun from to : ℕ) (old new : Slot M S) (lines : List (List ℕ))
        → WasRunSince agrees wants did start bounds begun from old
        → HasGoneOn agrees wants did from to (Open old) (Open new) lines
        → WasRunSince agrees wants did start bounds begun to new
    run_on start bounds begun from to old new lines h (events, run, shown) =
        let first = begun_slot start h.first bounds h.made in
        record {
          made = h.made;
          later = h.later;
          first = h.first;
          fresh = h.fresh;
          happened = h.happened ++ events;
          to = to;
          by = omega arith;
          run = then_happened agrees wants did h.made from to first old new h.happened events
              (happened_within agrees wants did h.made h.made h.to from first old h.happened
              (omega arith) h.by h.run) run;
        }

    run_first : (start : M) (bounds other : Bounds) (begun to made : ℕ) (machine : M) (stream : S) (new : Slot M S)
        (lines : List (List ℕ)) → machine ≡ start → other ≡ bounds → begun ≤ made → did stream stream []
        → HasGoneOn agrees wants did made to (Open (begun_slot machine stream other made)) (Open new) lines
        → WasRunSince agrees wants did start bounds begun to new
    run_first start bounds other begun to made machine stream new lines same alike later fresh (events, run, shown) =
        record {
          made = made;
          later = later;
          first = stream;
          fresh = fresh;
          happened = events;
          to = to;
          by = omega arith;
          run = subst (λ (m : M). HasRunBy agrees wants did made (begun_slot m stream bounds made) events to new) same
              (subst (λ (b : Bounds). HasRunBy agrees wants did made
              (begun_slot machine stream b made) events to new) alike
              run);
        }

module _ {M S A W E : Type 0} (agrees : M → M → List Told → Type 0) (wants : M → Wants)
    (gives : M → List Told → E → Type 0) (did : S → S → List Deed → Type 0) where
  -- what is under way stands somewhere
  pub way_is : (start : M) (bounds : Bounds) (begun now : ℕ) (x : Standing M S A W)
      → IsUnderWayFor agrees wants did start bounds begun now x → IsSomething x
  way_is start bounds begun now Free h = h
  way_is start bounds begun now (Served slot) h = tt
  way_is start bounds begun now Broke h = tt
  way_is start bounds begun now (Trying machine dial) h = tt
  way_is start bounds begun now (Lost why) h = tt

  -- ---- time passes

  pub way_later : (start : M) (bounds : Bounds) (begun now then : ℕ) (x : Standing M S A W) → now ≤ then
      → IsUnderWayFor agrees wants did start bounds begun now x
      → IsUnderWayFor agrees wants did start bounds begun then x
  way_later start bounds begun now then Free le h = h
  way_later start bounds begun now then (Served slot) le h = record {
    made = h.made;
    later = h.later;
    first = h.first;
    fresh = h.fresh;
    happened = h.happened;
    to = h.to;
    by = omega (arith, h.by, le);
    run = h.run;
  }
  way_later start bounds begun now then Broke le h = tt
  way_later start bounds begun now then (Trying machine dial) le (same, alike, since) =
      (same, alike, omega (arith, since, le))
  way_later start bounds begun now then (Lost why) le h = tt

  -- ---- it begins

  pub way_begun : (start : M) (bounds : Bounds) (now : ℕ) (addresses : List A) (came : Dialled A S W)
      → KeepsTries bounds addresses came → IfDialled came (λ stream. did stream stream [])
      → IsUnderWayFor agrees wants did start bounds now now (standing_by start bounds now came)
  way_begun start bounds now addresses (dialled.Made stream) kept fresh = record {
    made = now;
    later = omega arith;
    first = stream;
    fresh = fresh;
    happened = [];
    to = now;
    by = omega arith;
    run = nothing_happened agrees wants did now now (begun_slot start stream bounds now) (omega arith);
  }
  way_begun start bounds now addresses (dialled.Waits dial) (same, alike) fresh = (refl, alike, omega arith)
  way_begun start bounds now addresses (dialled.Missed why) kept fresh = tt

  pub begun_is : (start : M) (bounds : Bounds) (now : ℕ) (came : Dialled A S W)
      → IsSomething (standing_by start bounds now came)
  begun_is start bounds now (dialled.Made stream) = tt
  begun_is start bounds now (dialled.Waits dial) = tt
  begun_is start bounds now (dialled.Missed why) = tt

  -- ---- it comes on

  pub way_on : (start : M) (bounds : Bounds) (begun from to at : ℕ) (x y : Standing M S A W) (lines : List (List ℕ))
      (deeds : List (NetworkDeed A W)) → from ≤ to → HasComeOn agrees wants did from to at x y lines deeds
      → IsUnderWayFor agrees wants did start bounds begun from x
      → IsUnderWayFor agrees wants did start bounds begun to y
  way_on start bounds begun from to at Free y lines deeds le come h = absurd h
  way_on start bounds begun from to at (Served old) Free lines deeds le come h = come
  way_on start bounds begun from to at (Served old) (Served new) lines deeds le (gone, none) h =
      run_on agrees wants did start bounds begun from to old new lines h gone
  way_on start bounds begun from to at (Served old) Broke lines deeds le come h = tt
  way_on start bounds begun from to at (Served old) (Trying machine dial) lines deeds le come h = absurd come
  way_on start bounds begun from to at (Served old) (Lost why) lines deeds le come h = tt
  way_on start bounds begun from to at Broke Free lines deeds le come h = come
  way_on start bounds begun from to at Broke (Served new) lines deeds le come h = absurd come
  way_on start bounds begun from to at Broke Broke lines deeds le come h = tt
  way_on start bounds begun from to at Broke (Trying machine dial) lines deeds le come h = absurd come
  way_on start bounds begun from to at Broke (Lost why) lines deeds le come h = tt
  way_on start bounds begun from to at (Trying machine old) Free lines deeds le come h = come
  way_on start bounds begun from to at (Trying machine old) (Served new) lines deeds le made (same, alike, since) =
      run_first agrees wants did start bounds old.tries.bounds begun to made.made machine made.stream new lines same
      alike
      (omega (arith, since, made.later)) made.fresh made.ran
  way_on start bounds begun from to at (Trying machine old) Broke lines deeds le come h = tt
  way_on start bounds begun from to at (Trying machine old) (Trying other new) lines deeds le (is, none, stays)
      (same, alike, since) = (is ∙ same, stays.bounds ∙ alike, omega (arith, since, le))
  way_on start bounds begun from to at (Trying machine old) (Lost why) lines deeds le come h = tt
  way_on start bounds begun from to at (Lost old) Free lines deeds le come h = come
  way_on start bounds begun from to at (Lost old) (Served new) lines deeds le come h = absurd come
  way_on start bounds begun from to at (Lost old) Broke lines deeds le come h = tt
  way_on start bounds begun from to at (Lost old) (Trying machine dial) lines deeds le come h = absurd come
  way_on start bounds begun from to at (Lost old) (Lost why) lines deeds le come h = tt

  -- a place in which something stands is no free one then, nor the other way round
  pub stays_taken : (from to at : ℕ) (x y : Standing M S A W) (lines : List (List ℕ)) (deeds : List (NetworkDeed A W))
      → HasComeOn agrees wants did from to at x y lines deeds → IsSomething x → IsSomething y
  stays_taken from to at Free y lines deeds come h = absurd h
  stays_taken from to at (Served old) Free lines deeds come h = come
  stays_taken from to at Broke Free lines deeds come h = come
  stays_taken from to at (Trying machine old) Free lines deeds come h = come
  stays_taken from to at (Lost why) Free lines deeds come h = come
  stays_taken from to at x (Served new) lines deeds come h = tt
  stays_taken from to at x Broke lines deeds come h = tt
  stays_taken from to at x (Trying machine new) lines deeds come h = tt
  stays_taken from to at x (Lost why) lines deeds come h = tt

  pub was_taken : (from to at : ℕ) (x y : Standing M S A W) (lines : List (List ℕ)) (deeds : List (NetworkDeed A W))
      → HasComeOn agrees wants did from to at x y lines deeds → IsSomething y → IsSomething x
  was_taken from to at x Free lines deeds come h = absurd h
  was_taken from to at Free (Served new) lines deeds come h = come
  was_taken from to at Free Broke lines deeds come h = come
  was_taken from to at Free (Trying machine new) lines deeds come h = come
  was_taken from to at Free (Lost why) lines deeds come h = come
  was_taken from to at (Served old) y lines deeds come h = tt
  was_taken from to at Broke y lines deeds come h = tt
  was_taken from to at (Trying machine old) y lines deeds come h = tt
  was_taken from to at (Lost why) y lines deeds come h = tt

  -- ---- it is over

  pub way_over : (start : M) (bounds : Bounds) (begun now : ℕ) (x : Standing M S A W) (handed : Taken M S W)
      (came : Came E W) → IsHandedOutAs agrees wants x handed → IsCameOf agrees wants gives did handed came
      → agrees start start [] → IsUnderWayFor agrees wants did start bounds begun now x
      → IsErrandEnd {S = S} agrees wants gives did start bounds begun came
  way_over start bounds begun now Free handed came gone is untold h = absurd h
  way_over start bounds begun now (Served slot) handed came (same, able) is untold h =
      subst (λ (t : Taken M S W). IsCameOf agrees wants gives did t came) same is start bounds begun now untold h
  way_over start bounds begun now Broke handed came same is untold h =
      absurd (subst (λ (t : Taken M S W). IsCameOf agrees wants gives did t came) same is)
  way_over start bounds begun now (Trying machine dial) handed came same is untold h =
      absurd (subst (λ (t : Taken M S W). IsCameOf agrees wants gives did t came) same is)
  way_over start bounds begun now (Lost why) handed came same is untold h =
      subst (λ (c : Came E W). IsErrandEnd {S = S} agrees wants gives did start bounds begun c)
      (sym (subst (λ (t : Taken M S W). IsCameOf agrees wants gives did t came) same is)) tt

-- ---- and has come to its end

module _ {M S E : Type 0} (agrees : M → M → List Told → Type 0) (wants : M → Wants)
    (gives : M → List Told → E → Type 0) (did : S → S → List Deed → Type 0) where
  pub slot_over : (W : Type 0) (slot : Slot M S) (end : E) (how : StreamEnd) → (wants slot.machine).done ≡ true
      → ((first : M) (told : List Told) → agrees first slot.machine told → gives first told end)
      → IsCameOf {W = W} agrees wants gives did (taken.Slot slot) (Ended end how)
  slot_over W slot end how done gives_it start bounds begun now untold h = (
    h.made,
    h.to,
    h.later,
    (
      slot.stream,
      record {
        first = h.first;
        happened = h.happened;
        last = slot;
        run = h.run;
        is_last = refl;
        done = done;
        is_end = gives_it start (all_told h.happened) (h.run.told start [] untold);
        was_done = h.run.done h.first [] h.fresh;
      },
    ),
  )
