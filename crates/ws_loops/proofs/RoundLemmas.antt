-- A round over the places: one place that is served, those that are not, and rounds one after the other.
use Rattle.std.proofs.Common.{◌≡◌, ◌∙◌, ℕ, ◌+◌, ◌<◌, ◌≤◌, ◌⊎◌, ◌≢◌, ◌||◌, ◌&&◌, not, Bool, true, false, nat_eq, List, []}
use Rattle.std.proofs.Common.{◌∷◌}
use Rattle.std.proofs.Common.{◌++◌, length, Option, Some, None, slice_set, refl, sym, ap, subst, arith, inl, inr}
use Rattle.std.proofs.Common.{append-nil}
use Rattle.std.proofs.lemmas.Bool.Decides.{eqb_tells}
use Rattle.std.proofs.lemmas.Bool.{cases_lt}
use Rattle.std.specs.List.{slice_get}
use Rattle.std.proofs.lemmas.Option.{same_Some, slice_get_within}
use Rattle.ws_machines.specs.Told.{Told}
use Rattle.ws_machines.specs.Machines.{Wants}
use Rattle.ws_loops.specs.Deeds.{Deed, Happened, all_moved, all_shown}
use Rattle.ws_loops.specs.Deeds.Deed.{Woken}
use Rattle.ws_loops.specs.Paces.{has_ended_by, is_due}
use Rattle.ws_loops.specs.Sinks.{AreLinesOfPlaces, lines_at, said_at}
use Rattle.ws_loops.specs.Slots.{HasBroken, HasTurn, share_len}
use Rattle.ws_loops.specs.Watches.{AreWatched, WatchRound, is_watch_due, watched_by}
use Rattle.ws_loops.specs.Loops.{AreServedTo, GiveTurns, HasGoneOn, HasItsRound, HasPlaceTurn, HasRound}
use Rattle.ws_loops.specs.Loops.{HaveRun, IsAmong, IsServed, IsServedInTime, IsServedOrNot, ServedOnce}
use Rattle.ws_loops.specs.declared.places.Place.{Place}
use Rattle.ws_loops.specs.declared.places.Place.TheVariants.{Empty, Open, Pending, Broken}
use Rattle.ws_loops.specs.declared.places.Seats.{Seats}
use Rattle.ws_loops.specs.declared.poller.Readiness.{Readiness}
use Rattle.ws_loops.specs.declared.poller.Wake.{Wake}
use Rattle.ws_loops.specs.declared.slot.Slot.{Slot}
use Rattle.ws_loops.specs.declared.watch.Watch.{Watch}
use Rattle.ws_loops.proofs.PlaceLemmas.{each_so, length_set, place_of, set_cases}
use Rattle.ws_loops.proofs.PlaceLemmas.{then_at_each}
use Rattle.ws_loops.proofs.RunLemmas.{broken_then, broken_within, happened_within, nothing_happened, one_happened}
use Rattle.ws_loops.proofs.RunLemmas.{shown_then, then_happened}
use Rattle.ws_loops.proofs.SinkLemmas.{other_then, own_then, put_nothing, put_then, said_within, within_then}

-- numbers that are given one after the other
pub turns_still : (tickets : List (Option ℕ)) (given : ℕ) → GiveTurns tickets given tickets
turns_still tickets given = record { kept = λ i t e. e; fresh = λ i t e. inl e }

pub turns_then : (a b c : List (Option ℕ)) (given next : ℕ) → given ≤ next → GiveTurns a given b → GiveTurns b next c
    → GiveTurns a given c
turns_then a b c given next le h k = record {
  kept = λ i t e. k.kept i t (h.kept i t e);
  fresh = λ i t e. by i t (k.fresh i t e);
}
  where
    by : (i t : ℕ) → (slice_get b i ≡ Some (Some t)) ⊎ (next ≤ t) → (slice_get a i ≡ Some (Some t)) ⊎ (given ≤ t)
    by i t (inl e) = h.fresh i t e
    by i t (inr l) = inr (omega (arith, le, l))

-- one more of a list is among the first ones
pub among_next : (list : List ℕ) (count i at : ℕ) → slice_get list count ≡ Some at → (IsAmong list count i → ⊥)
    → (at ≡ i → ⊥) → IsAmong list (count + 1) i → ⊥
among_next list count i at is none other (j, lt, e) = by (eqb_tells j count)
  where
    by : ((nat_eq j count ≡ true) × (j ≡ count)) ⊎ ((nat_eq j count ≡ false) × (j ≢ count)) → ⊥
    by (inl same) = other (same_Some at i (sym is ∙ subst (λ (n : ℕ). slice_get list n ≡ Some i) same.1 e))
    by (inr less) = none (j, omega (arith, lt, less.1), e)

module _ {M S K : Type 0} (agrees : M → M → List Told → Type 0) (wants : M → Wants)
    (did : S → S → List Deed → Type 0) (heard : K → K → List (ℕ × List ℕ) → Type 0) where
  -- none was served yet
  pub none_served : (now : ℕ) (these : List ℕ) (seats : Seats M S) (s : K)
      → AreServedTo agrees wants did heard now these 0 seats seats s s
  none_served now these seats s = record {
    all = [];
    put = put_nothing heard s;
    within = tt;
    turns = turns_still seats.tickets.items seats.agenda.given;
    given = omega arith;
    places = refl;
    calls = refl;
    each = λ i x y c d was is called call. inr (
      λ among. omega (arith, among.1),
      sym (same_Some c d (sym called ∙ call)),
      sym (same_Some x y (sym was ∙ is)),
      refl,
    );
  }

  -- one that was served, or not, and is served so
  served_again : (now : ℕ) (touched : Type 0) (c d : Option Readiness) (x y z : Place M S) (one other : List (List ℕ))
      → IsServedOrNot agrees wants did now touched c d x y one → IsServed agrees wants did now d y z other
      → IsServed agrees wants did now c x z (one ++ other)
  served_again now touched c d x y z one other (inl (none, served)) k =
      let still : (z ≡ y) × (other ≡ []) = subst (λ (o : Option Readiness). IsServed agrees wants did now o y z other)
      none k in
      subst (λ (l : List (List ℕ)). IsServed agrees wants did now c x z l)
      (sym (ap (λ (l : List (List ℕ)). one ++ l) still.1 ∙ append-nil one))
      (subst (λ (p : Place M S). IsServed agrees wants did now c x p one) (sym still.0) served)
  served_again now touched c d x y z one other (inr (untouched, same, still, none)) k =
      subst (λ (l : List (List ℕ)). IsServed agrees wants did now c x z (l ++ other)) (sym none)
      (subst (λ (p : Place M S). IsServed agrees wants did now c p z other) still
      (subst (λ (o : Option Readiness). IsServed agrees wants did now o y z other) same k))

  -- and one more was
  pub one_served : (now : ℕ) (these : List ℕ) (count at : ℕ) (a b c : Seats M S) (s t u : K)
      → slice_get these count ≡ Some at → length b.calls.items ≡ length b.places.items
      → AreServedTo agrees wants did heard now these count a b s t
      → ServedOnce agrees wants did heard now at b c t u
      → AreServedTo agrees wants did heard now these (count + 1) a c s u
  one_served now these count at a b c s t u is same h k = by (cases_lt at (length b.places.items))
    where
      by : (at < length b.places.items) ⊎ (length b.places.items ≤ at)
          → AreServedTo agrees wants did heard now these (count + 1) a c s u
      by (inr past) =
          let out = k.outside past in
          record {
            all = h.all ++ said_at at k.lines;
            put = put_then heard s t u h.all (said_at at k.lines) h.put k.put;
            within = within_then (length a.places.items) h.all (said_at at k.lines) h.within
                (subst (λ (l : List (List ℕ)). AreLinesOfPlaces (length a.places.items) (said_at at l)) (sym out.2) tt);
            turns = turns_then a.tickets.items b.tickets.items c.tickets.items a.agenda.given b.agenda.given h.given
                h.turns k.turns;
            given = omega (arith, h.given, k.given);
            places = ap (λ (l : List (Place M S)). length l) out.0 ∙ h.places;
            calls = ap (λ (l : List (Option Readiness)). length l) out.1 ∙ h.calls;
            each = λ i x y p q was now_is called call.
                let lines : lines_at i (h.all ++ said_at at k.lines) ≡ lines_at i h.all =
                ap (λ (l : List (List ℕ)). lines_at i (h.all ++ said_at at l)) out.2
                ∙ ap (λ (l : List (ℕ × List ℕ)). lines_at i l) (append-nil h.all) in
                subst (λ (l : List (List ℕ)). IsServedOrNot agrees wants did now (IsAmong these
                (count + 1) i) p q x y l)
                (sym lines)
                (later i p q x y (lines_at i h.all) (λ e. omega (
                  arith,
                  past,
                  e,
                  slice_get_within c.places.items i y now_is,
                  ap (λ (l : List (Place M S)). length l) out.0,
                ))
                (h.each i x y p q was (subst (λ (l : List (Place M S)). slice_get l i ≡ Some y) out.0 now_is) called
                (subst (λ (l : List (Option Readiness)). slice_get l i ≡ Some q) out.1 call)));
          }
        where
          later : (i : ℕ) (p q : Option Readiness) (x y : Place M S) (lines : List (List ℕ)) → (at ≡ i → ⊥)
              → IsServedOrNot agrees wants did now (IsAmong these count i) p q x y lines
              → IsServedOrNot agrees wants did now (IsAmong these (count + 1) i) p q x y lines
          later i p q x y lines other (inl served) = inl served
          later i p q x y lines other (inr (untouched, call, same, none)) =
              inr (among_next these count i at is untouched other, call, same, none)
      by (inl lt) = through (place_of b.places.items at lt) (place_of b.calls.items at (omega (arith, lt, same)))
        where
          through : (y : Place M S) × (slice_get b.places.items at ≡ Some y)
              → (d : Option Readiness) × (slice_get b.calls.items at ≡ Some d)
              → AreServedTo agrees wants did heard now these (count + 1) a c s u
          through (y, y_is) (d, d_is) =
              let (z, placed, called_so, served) = k.served d y d_is y_is in
              record {
                all = h.all ++ said_at at k.lines;
                put = put_then heard s t u h.all (said_at at k.lines) h.put k.put;
                within = within_then (length a.places.items) h.all (said_at at k.lines) h.within
                    (said_within (length a.places.items) at k.lines (omega (arith, lt, h.places)));
                turns = turns_then a.tickets.items b.tickets.items c.tickets.items a.agenda.given b.agenda.given
                    h.given h.turns k.turns;
                given = omega (arith, h.given, k.given);
                places = ap (λ (l : List (Place M S)). length l) placed ∙ (length_set b.places.items at z ∙ h.places);
                calls = ap (λ (l : List (Option Readiness)). length l) called_so
                    ∙ (length_set b.calls.items at None ∙ h.calls);
                each = λ i x w p q was now_is called call. each_so_far y d z y_is d_is placed called_so served i x w p q
                    was (subst (λ (l : List (Place M S)). slice_get l i ≡ Some w) placed now_is) called
                    (subst (λ (l : List (Option Readiness)). slice_get l i ≡ Some q) called_so call);
              }
            where
              each_so_far : (y : Place M S) (d : Option Readiness) (z : Place M S)
                  → slice_get b.places.items at ≡ Some y → slice_get b.calls.items at ≡ Some d
                  → c.places.items ≡ slice_set b.places.items at z → c.calls.items ≡ slice_set b.calls.items at None
                  → IsServed agrees wants did now d y z k.lines
                  → (i : ℕ) (x w : Place M S) (p q : Option Readiness) → slice_get a.places.items i ≡ Some x
                  → slice_get (slice_set b.places.items at z) i ≡ Some w → slice_get a.calls.items i ≡ Some p
                  → slice_get (slice_set b.calls.items at None) i ≡ Some q
                  → IsServedOrNot agrees wants did now (IsAmong these (count + 1) i) p q x w
                  (lines_at i (h.all ++ said_at at k.lines))
              each_so_far y d z y_is d_is placed called_so served i x w p q was now_is called call = with_cases
                  (set_cases b.places.items at z i w now_is) (set_cases b.calls.items at None i q call)
                where
                  with_cases : ((i ≡ at) × (w ≡ z)) ⊎ ((i ≡ at → ⊥) × (slice_get b.places.items i ≡ Some w))
                      → ((i ≡ at) × (q ≡ None)) ⊎ ((i ≡ at → ⊥) × (slice_get b.calls.items i ≡ Some q))
                      → IsServedOrNot agrees wants did now (IsAmong these (count + 1) i) p q x w
                      (lines_at i (h.all ++ said_at at k.lines))
                  with_cases (inl (here, is_z)) (inl (_, is_none)) = inl (
                    is_none,
                    subst (λ (v : Place M S). IsServed agrees wants did now p x v
                        (lines_at i (h.all ++ said_at at k.lines))) (sym is_z)
                        (subst (λ (l : List (List ℕ)). IsServed agrees wants did now p x z l)
                        (sym (subst (λ (n : ℕ). lines_at n (h.all ++ said_at at k.lines) ≡ lines_at n h.all ++ k.lines)
                        (sym here) (own_then at h.all k.lines)))
                        (served_again now (IsAmong these count i) p d x y z (lines_at i h.all) k.lines
                        (h.each i x y p d was (subst (λ (n : ℕ). slice_get b.places.items n ≡ Some y)
                        (sym here) y_is) called
                        (subst (λ (n : ℕ). slice_get b.calls.items n ≡ Some d) (sym here) d_is)) served)),
                  )
                  with_cases (inl (here, is_z)) (inr (other, _)) = absurd (other here)
                  with_cases (inr (other, _)) (inl (here, _)) = absurd (other here)
                  with_cases (inr (other, w_is)) (inr (_, q_is)) =
                      subst (λ (l : List (List ℕ)). IsServedOrNot agrees wants did now (IsAmong these
                      (count + 1) i) p q x
                      w l) (sym (other_then at i h.all k.lines (λ e. other (sym e))))
                      (later (h.each i x w p q was w_is called q_is))
                    where
                      later : IsServedOrNot agrees wants did now (IsAmong these count i) p q x w (lines_at i h.all)
                          → IsServedOrNot agrees wants did now (IsAmong these (count + 1) i) p q x w (lines_at i h.all)
                      later (inl served) = inl served
                      later (inr (untouched, none, same, nothing)) =
                          inr (among_next these count i at is untouched (λ e. other (sym e)), none, same, nothing)

-- ---- a connection that is under way

wider_watched : (from mid to : ℕ) (x z : Watch) (rounds : List WatchRound) → from ≤ mid
    → AreWatched mid x rounds to z → AreWatched from x rounds to z
wider_watched from mid to x z [] h (k, same) = (omega (arith, h, k), same)
wider_watched from mid to x z (r ∷ rounds) h (k, rest) = (omega (arith, h, k), rest)

then_watched : (from mid to : ℕ) (x y z : Watch) (one other : List WatchRound) → AreWatched from x one mid y
    → AreWatched mid y other to z → AreWatched from x (one ++ other) to z
then_watched from mid to x y z [] other (h, same) k = wider_watched from mid to x z other h
    (subst (λ (w : Watch). AreWatched mid w other to z) same k)
then_watched from mid to x y z (r ∷ one) other (h, rest) k =
    (h, then_watched r.at mid to (watched_by r.ready r.at x) y z one other rest k)

-- ---- a run

module _ {M S : Type 0} (agrees : M → M → List Told → Type 0) (wants : M → Wants) (did : S → S → List Deed → Type 0)
  where
    -- a turn in which nothing was due
    pub still_turn : (now : ℕ) (slot : Slot M S) → is_due (wants slot.machine) slot.pace now ≡ false
        → HasTurn agrees wants did (record { read = false; write = false }) now slot slot []
    still_turn now slot rests = record {
      happened = [];
      run = one_happened agrees wants did now slot slot (Woken false false) (record {
        told = λ start told a. subst (λ (l : List Told). agrees start slot.machine l) (sym (append-nil told)) a;
        done = λ start deeds a. subst (λ (l : List Deed). did start slot.stream l) (sym (append-nil deeds)) a;
        paced = refl;
        order = tt;
      });
      shown = refl;
      share = omega arith;
      served = inl rests;
    }

    -- a place that had its turn has gone on
    pub turn_goes_on : (ready : Readiness) (from now to : ℕ) (x y : Place M S) (lines : List (List ℕ)) → from ≤ now
        → now ≤ to → HasPlaceTurn agrees wants did ready now x y lines → HasGoneOn agrees wants did from to x y lines
    turn_goes_on ready from now to Empty Empty lines h k e = e
    turn_goes_on ready from now to Empty (Open y) lines h k e = absurd e
    turn_goes_on ready from now to Empty (Pending y) lines h k e = absurd e
    turn_goes_on ready from now to Empty Broken lines h k e = absurd e
    turn_goes_on ready from now to Broken Empty lines h k e = absurd e
    turn_goes_on ready from now to Broken (Open y) lines h k e = absurd e
    turn_goes_on ready from now to Broken (Pending y) lines h k e = absurd e
    turn_goes_on ready from now to (Pending x) Empty lines h k e = absurd e
    turn_goes_on ready from now to (Pending x) (Open y) lines h k e = absurd e
    turn_goes_on ready from now to (Pending x) Broken lines h k e = absurd e
    turn_goes_on ready from now to (Pending x) (Pending y) lines h k (same, none) = (
      (record { at = now; ready = ready } ∷ [], (h, (k, same))),
      none,
    )
    turn_goes_on ready from now to (Open x) (Pending y) lines h k e = absurd e
    turn_goes_on ready from now to Broken Broken lines h k e = e
    turn_goes_on ready from now to (Open x) Empty lines h k e = absurd e
    turn_goes_on ready from now to (Open x) Broken lines h k broken =
        broken_within agrees wants did from now now to x lines h k broken
    turn_goes_on ready from now to (Open x) (Open y) lines h k turn =
        let all : List Happened = record { at = now; deed = Woken ready.read ready.write } ∷ turn.happened in
        (all, happened_within agrees wants did from now now to x y all h k turn.run, turn.shown)

    -- and it was served by then
    stirred_or_early : (stirred readable writable come : Bool)
        → (not (stirred || (readable || (writable || come))) && come) ≡ false
    stirred_or_early true readable writable come = refl
    stirred_or_early false true writable come = refl
    stirred_or_early false false true come = refl
    stirred_or_early false false false true = refl
    stirred_or_early false false false false = refl

    pub turn_in_time : (ready : Readiness) (now : ℕ) (x y : Place M S) (lines : List (List ℕ))
        → HasPlaceTurn agrees wants did ready now x y lines → IsServedInTime agrees wants did now y
    turn_in_time ready now x Empty lines h = tt
    turn_in_time ready now x Broken lines h = tt
    turn_in_time ready now Empty (Open y) lines h = absurd h
    turn_in_time ready now Broken (Open y) lines h = absurd h
    turn_in_time ready now (Pending x) (Open y) lines h = absurd h
    turn_in_time ready now (Open x) (Open y) lines turn = by turn.served
      where
        by : (is_due (wants y.machine) y.pace now ≡ false) ⊎ (all_moved turn.happened ≡ share_len)
            → IsServedInTime agrees wants did now (Open y)
        by (inl rests) = inl rests
        by (inr whole) =
            inr (x, record { at = now; deed = Woken ready.read ready.write } ∷ turn.happened, turn.run, omega (arith, whole))
    turn_in_time ready now Empty (Pending y) lines h = absurd h
    turn_in_time ready now Broken (Pending y) lines h = absurd h
    turn_in_time ready now (Open x) (Pending y) lines h = absurd h
    turn_in_time ready now (Pending x) (Pending y) lines (same, none) =
        subst (λ (w : Watch). is_watch_due w now ≡ false) (sym same)
        (stirred_or_early x.stirred ready.read ready.write (has_ended_by x.until now))

    -- one that is as it was has
    pub still_goes_on : (from to : ℕ) (x : Place M S) → from ≤ to → HasGoneOn agrees wants did from to x x []
    still_goes_on from to Empty le = refl
    still_goes_on from to Broken le = refl
    still_goes_on from to (Open slot) le = ([], nothing_happened agrees wants did from to slot le, refl)
    still_goes_on from to (Pending watch) le = (([], (le, refl)), refl)

    pub gone_then : (from mid to : ℕ) → mid ≤ to → (x y z : Place M S) (one other : List (List ℕ))
        → HasGoneOn agrees wants did from mid x y one → HasGoneOn agrees wants did mid to y z other
        → HasGoneOn agrees wants did from to x z (one ++ other)
    gone_then from mid to le Empty Empty Empty one other h k =
        ap (λ (l : List (List ℕ)). l ++ other) h ∙ k
    gone_then from mid to le Empty Empty (Open z) one other h k = absurd k
    gone_then from mid to le Empty Empty Broken one other h k = absurd k
    gone_then from mid to le Empty Empty (Pending z) one other h k = absurd k
    gone_then from mid to le Empty (Pending y) z one other h k = absurd h
    gone_then from mid to le Empty (Open y) z one other h k = absurd h
    gone_then from mid to le Empty Broken z one other h k = absurd h
    gone_then from mid to le Broken Broken Broken one other h k =
        ap (λ (l : List (List ℕ)). l ++ other) h ∙ k
    gone_then from mid to le Broken Broken Empty one other h k = absurd k
    gone_then from mid to le Broken Broken (Open z) one other h k = absurd k
    gone_then from mid to le Broken Broken (Pending z) one other h k = absurd k
    gone_then from mid to le Broken (Pending y) z one other h k = absurd h
    gone_then from mid to le Broken Empty z one other h k = absurd h
    gone_then from mid to le Broken (Open y) z one other h k = absurd h
    gone_then from mid to le (Open x) Empty z one other h k = absurd h
    gone_then from mid to le (Open x) Broken Empty one other h k = absurd k
    gone_then from mid to le (Open x) Broken (Open z) one other h k = absurd k
    gone_then from mid to le (Open x) Broken (Pending z) one other h k = absurd k
    gone_then from mid to le (Open x) Broken Broken one other h k =
        subst (λ (l : List (List ℕ)). HasBroken agrees wants did from to x l)
        (sym (ap (λ (l : List (List ℕ)). one ++ l) k ∙ append-nil one))
        (broken_within agrees wants did from from mid to x one (omega arith) le h)
    gone_then from mid to le (Open x) (Pending y) z one other h k = absurd h
    gone_then from mid to le (Open x) (Open y) (Pending z) one other h k = absurd k
    gone_then from mid to le (Pending x) Empty z one other h k = absurd h
    gone_then from mid to le (Pending x) (Open y) z one other h k = absurd h
    gone_then from mid to le (Pending x) Broken z one other h k = absurd h
    gone_then from mid to le (Pending x) (Pending y) Empty one other h k = absurd k
    gone_then from mid to le (Pending x) (Pending y) (Open z) one other h k = absurd k
    gone_then from mid to le (Pending x) (Pending y) Broken one other h k = absurd k
    gone_then from mid to le (Pending x) (Pending y) (Pending z) one other ((first, seen), none) ((last, seen_on), none_on) = (
      (first ++ last, then_watched from mid to x y z first last seen seen_on),
      ap (λ (l : List (List ℕ)). l ++ other) none ∙ none_on,
    )
    gone_then from mid to le (Open x) (Open y) Empty one other h k = absurd k
    gone_then from mid to le (Open x) (Open y) Broken one other (first, ran, said) broken =
        broken_then agrees wants did from mid to x y first one other ran said broken
    gone_then from mid to le (Open x) (Open y) (Open z) one other (first, ran, said) (last, ran_on, said_on) = (
      first ++ last,
      then_happened agrees wants did from mid to x y z first last ran ran_on,
      shown_then first last ∙ (ap (λ (l : List (List ℕ)). l ++ all_shown last) said
          ∙ ap (λ (l : List (List ℕ)). one ++ l) said_on),
    )

module _ {M S K : Type 0} (agrees : M → M → List Told → Type 0) (wants : M → Wants)
    (did : S → S → List Deed → Type 0) (heard : K → K → List (ℕ × List ℕ) → Type 0) where
  -- a round is a run of each place
  pub round_runs : (found : List Wake) (from now to : ℕ) (old new : List (Place M S)) (s t : K) → from ≤ now
      → now ≤ to → HasRound agrees wants did heard found now old new s t
      → HaveRun agrees wants did heard from to old new s t
  round_runs found from now to old new s t h k round = each_so heard (HasItsRound agrees wants did found now)
      (λ i. HasGoneOn agrees wants did from to) old new s t (λ i x y lines was is r. by i x y lines r) round
    where
      by : (i : ℕ) (x y : Place M S) (lines : List (List ℕ)) → HasItsRound agrees wants did found now i x y lines
          → HasGoneOn agrees wants did from to x y lines
      by i x y lines (inl (ended, same, none)) =
          subst (λ (l : List (List ℕ)). HasGoneOn agrees wants did from to x y l) (sym none)
          (subst (λ (p : Place M S). HasGoneOn agrees wants did from to x p []) (sym same)
          (still_goes_on agrees wants did from to x (omega (arith, h, k))))
      by i x y lines (inr (ready, covers, turn)) = turn_goes_on agrees wants did ready from now to x y lines h k turn

  -- nothing has happened in any
  pub runs_still : (from to : ℕ) (places : List (Place M S)) (s : K) → from ≤ to
      → HaveRun agrees wants did heard from to places places s s
  runs_still from to places s le = record {
    len = refl;
    all = [];
    put = put_nothing heard s;
    within = tt;
    each = λ i x y was is. subst (λ (z : Place M S). HasGoneOn agrees wants did from to x z [])
        (same_Some x y (sym was ∙ is)) (still_goes_on agrees wants did from to x le);
  }

  -- a run, and then another one
  pub runs_then : (from mid to : ℕ) → mid ≤ to → (a b c : List (Place M S)) (s t u : K)
      → HaveRun agrees wants did heard from mid a b s t → HaveRun agrees wants did heard mid to b c t u
      → HaveRun agrees wants did heard from to a c s u
  runs_then from mid to le a b c s t u h k = then_at_each heard (λ i. HasGoneOn agrees wants did from mid)
      (λ i. HasGoneOn agrees wants did mid to) (λ i. HasGoneOn agrees wants did from to)
      (λ i x y z one other. gone_then agrees wants did from mid to le x y z one other) a b c s t u h k
