-- A loop: rounds by what a wait has found, numbers that are kept, and places into which slots are put or that are
-- taken.
use Rattle.std.proofs.Common.{◌≡◌, ◌∙◌, ℕ, ◌<◌, ◌≤◌, ◌⊎◌, true, false, not, List, length, Option}
use Rattle.std.proofs.Common.{None}
use Rattle.std.proofs.Common.{Some, slice_set, min, refl, sym, ap, subst, arith, inl, inr}
use Rattle.std.proofs.lemmas.Bool.{false≢true}
use Rattle.std.specs.List.{slice_get}
use Rattle.std.proofs.lemmas.Option.{none-some, same_Some, slice_get_within}
use Rattle.ws_machines.specs.Told.{Told}
use Rattle.ws_machines.specs.Machines.{Wants}
use Rattle.ws_loops.specs.Deeds.{Deed}
use Rattle.ws_loops.specs.Inside.{HasMarked, HasServedCalled, HasTurnByCall, IsCalledSo}
use Rattle.ws_loops.specs.Limits.{IsTree}
use Rattle.ws_loops.specs.Paces.{has_ended_by}
use Rattle.ws_loops.specs.Looping.{AreSame, IfRoundMade, IsEnding, LoopValue}
use Rattle.ws_loops.specs.Loops.{AreServedInTime, IsServedInTime}
use Rattle.ws_loops.specs.Loops.{Covers, CoversFound, GiveTurns, HasItsRound, HasRound, IsFrom, IsSeenTo}
use Rattle.ws_loops.specs.Loops.{AreSeatsSound, IsTicketed, IsLoopSound, RestsAt, RestsUntil}
use Rattle.ws_loops.specs.Places.{AreOccupied, IsPlaceOver, IfOpen, KeepTurns, is_empty}
use Rattle.ws_loops.specs.Sinks.{AreLinesOfPlaces, lines_at}
use Rattle.ws_loops.specs.Slots.{IsAble}
use Rattle.ws_loops.specs.declared.inside.Inside.{Inside}
use Rattle.ws_loops.specs.declared.limits.Limits.{Limits}
use Rattle.ws_loops.specs.declared.looping.Ending.{Ending}
use Rattle.ws_loops.specs.declared.looping.Ending.TheVariants as ending
use Rattle.ws_loops.specs.declared.places.Place.{Place}
use Rattle.ws_loops.specs.declared.places.Place.TheVariants.{Broken, Empty, Open, Pending}
use Rattle.ws_loops.specs.declared.places.Seats.{Seats}
use Rattle.ws_loops.specs.declared.poller.Readiness.{Readiness}
use Rattle.ws_loops.specs.declared.poller.Wake.{Wake}
use Rattle.ws_loops.specs.declared.watch.Watch.{Watch}
use Rattle.ws_loops.proofs.PlaceLemmas.{get_set_other, get_set_same, length_set, place_of, set_cases}
use Rattle.ws_loops.proofs.RoundLemmas.{turn_in_time}
use Rattle.ws_loops.proofs.SeatLemmas.{over_rests, standing_ended, standing_kept}
use Rattle.ws_loops.proofs.LawLemmas.{and_false, over_not}

-- ---- a round by what was found

module _ {M S K : Type 0} (agrees : M → M → List Told → Type 0) (wants : M → Wants)
    (did : S → S → List Deed → Type 0) (heard : K → K → List (ℕ × List ℕ) → Type 0) where
  pub found_round : (found : List Wake) (now : ℕ) (old mid new : Inside M S) (s t : K)
      → length old.seats.calls.items ≡ length old.seats.places.items → HasMarked found old mid
      → HasServedCalled agrees wants did heard now mid new s t
      → HasRound agrees wants did heard found now old.seats.places.items new.seats.places.items s t
  found_round found now old mid new s t len (marked, all) served = record {
    len = served.places.len ∙ ap (λ (l : List (Place M S)). length l) marked.places;
    all = served.places.all;
    put = served.places.put;
    within = subst (λ (l : List (Place M S)). AreLinesOfPlaces (length l) served.places.all) marked.places
        served.places.within;
    each = λ i x y was is. through i x y was is (place_of mid.seats.calls.items i
        (omega (arith, len, marked.calls, slice_get_within old.seats.places.items i x was)));
  }
    where
      by : (i : ℕ) (x y : Place M S) (lines : List (List ℕ)) (call : Option Readiness)
          → i < length old.seats.calls.items → slice_get mid.seats.calls.items i ≡ Some call
          → HasTurnByCall agrees wants did now call x y lines → HasItsRound agrees wants did found now i x y lines
      by i x y lines call lt is (inl ended) = inl ended
      by i x y lines call lt is (inr (ready, by_call, turn)) = inr (ready, covers, turn)
        where
          covered : (w : Wake) → IsCalledSo mid.seats.calls.items i w.ready → Covers ready w.ready
          covered w (there, here, covers_it) = subst (λ (r : Readiness). Covers r w.ready)
              (sym (by_call there (same_Some call (Some there) (sym is ∙ here)))) covers_it

          covers : CoversFound found i ready
          covers k w w_is place = covered w (all k i w (slice_get_within found k w w_is) w_is place lt)

      through : (i : ℕ) (x y : Place M S) → slice_get old.seats.places.items i ≡ Some x
          → slice_get new.seats.places.items i ≡ Some y
          → (call : Option Readiness) × (slice_get mid.seats.calls.items i ≡ Some call)
          → HasItsRound agrees wants did found now i x y (lines_at i served.places.all)
      through i x y was is (call, call_is) = by i x y (lines_at i served.places.all) call
          (omega (arith, len, slice_get_within old.seats.places.items i x was)) call_is
          (served.places.each i x y (subst (λ (l : List (Place M S)). slice_get l i ≡ Some x)
          (sym marked.places) was) is
          call call_is)

  -- behind it each was served by then
  over_in_time : (now : ℕ) (x : Place M S) → IsPlaceOver wants x → IsServedInTime agrees wants did now x
  over_in_time now Empty over = tt
  over_in_time now Broken over = tt
  over_in_time now (Open slot) over = inl (over_rests agrees wants (Open slot) None over now tt)
  over_in_time now (Pending watch) over = over_rests {S = S} agrees wants (Pending watch) None over now tt

  pub round_in_time : (found : List Wake) (now : ℕ) (old new : List (Place M S)) (s t : K)
      → HasRound agrees wants did heard found now old new s t → AreServedInTime agrees wants did now new
  round_in_time found now old new s t h i y is =
      through (place_of old i (omega (arith, h.len, slice_get_within new i y is)))
    where
      by : (x : Place M S) → HasItsRound agrees wants did found now i x y (lines_at i h.all)
          → IsServedInTime agrees wants did now y
      by x (inl (over, same, none)) =
          subst (λ (p : Place M S). IsServedInTime agrees wants did now p) (sym same) (over_in_time now x over)
      by x (inr (ready, covers, turn)) = turn_in_time agrees wants did ready now x y (lines_at i h.all) turn

      through : (x : Place M S) × (slice_get old i ≡ Some x) → IsServedInTime agrees wants did now y
      through (x, was) = by x (h.each i x y was is)

-- ---- what has happened in front of the first round, where no time is waited for, or behind it

module _ {M S : Type 0} (wants : M → Wants) (late until : Option ℕ) (now : ℕ) (l : LoopValue M S) where
  pub ending_so : (later : ℕ) (happened : Ending) (Q P : Type 0) → ((late ≡ None) × Q) ⊎ ((late ≡ until) × P)
      → now ≡ later → IsEnding wants late now l happened → IsEnding wants until later l happened
  ending_so later (ending.Ended at) Q P way same h = h
  ending_so later ending.NoSlot Q P way same h = h
  ending_so later ending.TooLate Q P (inl (none, _)) same (h, over) =
      absurd (false≢true (subst (λ (o : Option ℕ). has_ended_by o now ≡ true) none h))
  ending_so later ending.TooLate Q P (inr (is, _)) same (h, over) = (
    subst (λ (n : ℕ). has_ended_by until n ≡ true) same (subst (λ (o : Option ℕ). has_ended_by o now ≡ true) is h),
    over,
  )

  pub round_made : (old tickets : List (Option ℕ)) (happened : Ending) (P : Type 0) → l.tickets ≡ tickets
      → ((late ≡ None) × (tickets ≡ old)) ⊎ ((late ≡ until) × P) → IsEnding wants late now l happened
      → IfRoundMade old happened P
  round_made old tickets (ending.Ended at) P here (inl (none, same)) (over, (t, is, least)) =
      inl (t, subst (λ (k : List (Option ℕ)). slice_get k at ≡ Some (Some t)) (here ∙ same) is)
  round_made old tickets (ending.Ended at) P here (inr (is, served)) h = inr served
  round_made old tickets ending.TooLate P here (inl (none, same)) (h, over) =
      absurd (false≢true (subst (λ (o : Option ℕ). has_ended_by o now ≡ true) none h))
  round_made old tickets ending.TooLate P here (inr (is, served)) h = served
  round_made old tickets ending.NoSlot P here way h = tt

-- ---- numbers

pub keep_still : (tickets : List (Option ℕ)) → KeepTurns tickets tickets
keep_still tickets = record {
  len = refl;
  kept = λ i t e. e;
  later = λ i j t u was none is. absurd (none-some u (same_Some None (Some u) (sym none ∙ is)));
}

pub keep_then : (a b c : List (Option ℕ)) → KeepTurns a b → KeepTurns b c → KeepTurns a c
keep_then a b c h k = record {
  len = k.len ∙ h.len;
  kept = λ i t e. k.kept i t (h.kept i t e);
  later = λ i j t u was none is. through i j t u was none is
      (place_of b j (omega (arith, h.len, slice_get_within a j None none)));
}
  where
    by : (i j t u : ℕ) → slice_get a i ≡ Some (Some t) → slice_get a j ≡ Some None → slice_get c j ≡ Some (Some u)
        → (o : Option ℕ) → slice_get b j ≡ Some o → t ≤ u
    by i j t u was none is None mid = k.later i j t u (h.kept i t was) mid is
    by i j t u was none is (Some v) mid =
        let first = h.later i j t v was none mid in
        let same : v ≡ u = same_Some v u (same_Some (Some v) (Some u) (sym (k.kept j v mid) ∙ is)) in
        omega (arith, first, same)

    through : (i j t u : ℕ) → slice_get a i ≡ Some (Some t) → slice_get a j ≡ Some None → slice_get c j ≡ Some (Some u)
        → (o : Option ℕ) × (slice_get b j ≡ Some o) → t ≤ u
    through i j t u was none is (o, mid) = by i j t u was none is o mid

pub same_seats : {M S : Type 0} (seats : Seats M S) → AreSame seats seats
same_seats seats = record {
  places = refl;
  calls = refl;
  tickets = refl;
  later = refl;
  limits = refl;
  all = refl;
  given = refl;
}

-- a time that a place gets leaves the others
pub times_other : (old new : List (Option ℕ)) (at : ℕ) (time : Option ℕ) → new ≡ slice_set old at time
    → (i : ℕ) → (i ≡ at → ⊥) → slice_get new i ≡ slice_get old i
times_other old new at time set i other =
    ap (λ (l : List (Option ℕ)). slice_get l i) set ∙ get_set_other old at i time other

-- nothing is due before its time where a connection is under way that was not stirred
pub watch_rests : {M : Type 0} (S : Type 0) (wants : M → Wants) (watch : Watch) → watch.stirred ≡ false
    → RestsUntil {M = M} {S = S} wants watch.until (Pending watch)
watch_rests S wants watch none t before = and_false (not watch.stirred) (has_ended_by watch.until t)
    (over_not watch.until t before)

module _ {M S : Type 0} (agrees : M → M → List Told → Type 0) (wants : M → Wants) where
  -- those that ended since have later numbers
  pub turns_kept : (seats : Seats M S) (new : List (Option ℕ)) → AreSeatsSound agrees wants seats
      → length new ≡ length seats.tickets.items
      → GiveTurns seats.tickets.items seats.agenda.given new → KeepTurns seats.tickets.items new
  turns_kept seats new h len k = record {
    len = len;
    kept = k.kept;
    later = λ i j t u was none is. by i j t u was none (k.fresh j u is);
  }
    where
      by : (i j t u : ℕ) → slice_get seats.tickets.items i ≡ Some (Some t) → slice_get seats.tickets.items j ≡ Some None
          → (slice_get seats.tickets.items j ≡ Some (Some u)) ⊎ (seats.agenda.given ≤ u) → t ≤ u
      by i j t u was none (inl e) = absurd (none-some u (same_Some None (Some u) (sym none ∙ e)))
      by i j t u was none (inr le) = omega (arith, le, h.given i t was)

  -- a place in which nothing stands has no number
  pub empty_has_none : (seats : Seats M S) (at : ℕ) → AreSeatsSound agrees wants seats
      → slice_get seats.places.items at ≡ Some Empty → slice_get seats.tickets.items at ≡ Some None
  empty_has_none seats at h is = through (place_of seats.tickets.items at
      (omega (arith, h.tickets, slice_get_within seats.places.items at Empty is)))
    where
      by : (o : Option ℕ) → slice_get seats.tickets.items at ≡ Some o → slice_get seats.tickets.items at ≡ Some None
      by None e = e
      by (Some t) e = absurd (h.has_ended at Empty is (t, e))

      through : (o : Option ℕ) × (slice_get seats.tickets.items at ≡ Some o) → slice_get seats.tickets.items at
          ≡ Some None
      through (o, e) = by o e

  -- ---- something is put into a place

  taken_put : (places : List (Place M S)) (at free : ℕ) (y : Place M S) → AreOccupied places free → is_empty y ≡ false
      → AreOccupied (slice_set places at y) free
  taken_put places at free y h some i place lt is = by (set_cases places at y i place is)
    where
      by : ((i ≡ at) × (place ≡ y)) ⊎ ((i ≡ at → ⊥) × (slice_get places i ≡ Some place)) → is_empty place ≡ false
      by (inl (_, e)) = ap is_empty e ∙ some
      by (inr (_, was)) = h i place lt was

  -- where another place gets a time, each other one is seen to as before
  seen_still : (old new : Inside M S) (i at : ℕ) (place : Place M S) → (i ≡ at → ⊥)
      → (IsFrom old.list.items 0 i → IsFrom new.list.items 0 i)
      → (old.seats.agenda.all ≡ true → new.seats.agenda.all ≡ true)
      → slice_get new.seats.agenda.limits.times.items i ≡ slice_get old.seats.agenda.limits.times.items i
      → IsSeenTo wants old.list.items old.seats.agenda i place → IsSeenTo wants new.list.items new.seats.agenda i place
  seen_still old new i at place other listed any times (inl l) = inl (listed l)
  seen_still old new i at place other listed any times (inr (inl e)) = inr (inl (any e))
  seen_still old new i at place other listed any times (inr (inr (time, is, rests))) =
      inr (inr (time, times ∙ is, rests))

  -- what goes on there: it is seen to
  pub whole_put : (old new : Inside M S) (at : ℕ) (y : Place M S) → IsLoopSound agrees wants old
      → slice_get old.seats.places.items at ≡ Some Empty → IfOpen y (λ slot. IsAble agrees wants slot.machine)
      → (IsPlaceOver wants y → ⊥) → is_empty y ≡ false
      → (IsFrom new.list.items 0 at ⊎ (new.seats.agenda.all ≡ true))
      ⊎ RestsAt wants new.seats.agenda.limits.times.items at y
      → new.seats.places.items ≡ slice_set old.seats.places.items at y
      → new.seats.calls.items ≡ old.seats.calls.items → new.seats.tickets.items ≡ old.seats.tickets.items
      → ((i : ℕ) → (i ≡ at → ⊥)
      → slice_get new.seats.agenda.limits.times.items i ≡ slice_get old.seats.agenda.limits.times.items i)
      → length new.seats.agenda.limits.times.items ≡ length old.seats.agenda.limits.times.items
      → IsTree new.seats.agenda.limits → new.seats.agenda.given ≡ old.seats.agenda.given
      → new.seats.agenda.ended ≡ old.seats.agenda.ended
      → ((i : ℕ) → IsFrom old.list.items 0 i → IsFrom new.list.items 0 i)
      → (old.seats.agenda.all ≡ true → new.seats.agenda.all ≡ true)
      → new.all.items ≡ old.all.items → new.free ≡ old.free → IsLoopSound agrees wants new
  whole_put old new at y h is able goes some own placed calls tickets times len tree given ended listed any all free =
      record {
        standing = standing_kept agrees wants old.seats new.seats at y h.standing
            (empty_has_none old.seats at h.standing is) placed (ap (λ (l : List (Option Readiness)). length l) calls) able
            goes tickets ended (omega (arith, given)) len tree;
        rests = λ i place here. rests_so i place (set_cases old.seats.places.items at y i place
            (subst (λ (l : List (Place M S)). slice_get l i ≡ Some place) placed here));
        called = λ i ready called. called_so i (h.called i ready
            (subst (λ (l : List (Option Readiness)). slice_get l i ≡ Some (Some ready)) calls called));
        all = λ i lt. subst (λ (l : List ℕ). IsFrom l 0 i) (sym all) (h.all i (omega (
          arith,
          lt,
          length_set old.seats.places.items at y,
          ap (λ (l : List (Place M S)). length l) placed,
        )));
        free = subst (λ (n : ℕ). AreOccupied new.seats.places.items n) (sym free)
            (subst (λ (l : List (Place M S)). AreOccupied l old.free) (sym placed)
            (taken_put old.seats.places.items at old.free y h.free some));
        within = omega (
          arith,
          free,
          h.within,
          length_set old.seats.places.items at y,
          ap (λ (l : List (Place M S)). length l) placed,
        );
      }
    where
      seen : (IsFrom new.list.items 0 at ⊎ (new.seats.agenda.all ≡ true))
          ⊎ RestsAt wants new.seats.agenda.limits.times.items at y → IsSeenTo wants new.list.items new.seats.agenda at y
      seen (inl (inl l)) = inl l
      seen (inl (inr e)) = inr (inl e)
      seen (inr r) = inr (inr r)

      rests_so : (i : ℕ) (place : Place M S)
          → ((i ≡ at) × (place ≡ y)) ⊎ ((i ≡ at → ⊥) × (slice_get old.seats.places.items i ≡ Some place))
          → IsSeenTo wants new.list.items new.seats.agenda i place
      rests_so i place (inl (e, same)) = subst (λ (n : ℕ). IsSeenTo wants new.list.items new.seats.agenda n place) (sym e)
          (subst (λ (p : Place M S). IsSeenTo wants new.list.items new.seats.agenda at p) (sym same) (seen own))
      rests_so i place (inr (other, was)) =
          seen_still old new i at place other (listed i) any (times i other) (h.rests i place was)

      called_so : (i : ℕ) → IsFrom old.list.items 0 i ⊎ (old.seats.agenda.all ≡ true)
          → IsFrom new.list.items 0 i ⊎ (new.seats.agenda.all ≡ true)
      called_so i (inl l) = inl (listed i l)
      called_so i (inr e) = inr (any e)

  -- what has ended there already
  pub whole_put_done : (old new : Inside M S) (at : ℕ) (y : Place M S) → IsLoopSound agrees wants old
      → slice_get old.seats.places.items at ≡ Some Empty → IfOpen y (λ slot. IsAble agrees wants slot.machine)
      → IsPlaceOver wants y → is_empty y ≡ false
      → new.seats.places.items ≡ slice_set old.seats.places.items at y
      → new.seats.calls.items ≡ old.seats.calls.items
      → new.seats.tickets.items ≡ slice_set old.seats.tickets.items at (Some old.seats.agenda.given)
      → new.seats.agenda.limits ≡ old.seats.agenda.limits → old.seats.agenda.given ≤ new.seats.agenda.given
      → new.seats.agenda.ended ≡ true → new.seats.agenda.all ≡ old.seats.agenda.all → new.list.items ≡ old.list.items
      → new.all.items ≡ old.all.items → new.free ≡ old.free → IsLoopSound agrees wants new
  whole_put_done old new at y h is able over some placed calls tickets limits given ended any list all free = record {
    standing = standing_ended agrees wants old.seats new.seats at y h.standing
        (omega (arith, h.standing.tickets, slice_get_within old.seats.places.items at Empty is)) placed
        (ap (λ (l : List (Option Readiness)). length l) calls) able over tickets ended given
        (ap (λ (l : Limits). length l.times.items) limits)
        (subst (λ (l : Limits). IsTree l) (sym limits) h.standing.tree);
    rests = λ i place here. rests_so i place (set_cases old.seats.places.items at y i place
        (subst (λ (l : List (Place M S)). slice_get l i ≡ Some place) placed here));
    called = λ i ready called. called_so i (h.called i ready
        (subst (λ (l : List (Option Readiness)). slice_get l i ≡ Some (Some ready)) calls called));
    all = λ i lt. subst (λ (l : List ℕ). IsFrom l 0 i) (sym all) (h.all i (omega (
      arith,
      lt,
      length_set old.seats.places.items at y,
      ap (λ (l : List (Place M S)). length l) placed,
    )));
    free = subst (λ (n : ℕ). AreOccupied new.seats.places.items n) (sym free)
        (subst (λ (l : List (Place M S)). AreOccupied l old.free) (sym placed)
        (taken_put old.seats.places.items at old.free y h.free some));
    within = omega (
      arith,
      free,
      h.within,
      length_set old.seats.places.items at y,
      ap (λ (l : List (Place M S)). length l) placed,
    );
  }
    where
      rests_so : (i : ℕ) (place : Place M S)
          → ((i ≡ at) × (place ≡ y)) ⊎ ((i ≡ at → ⊥) × (slice_get old.seats.places.items i ≡ Some place))
          → IsSeenTo wants new.list.items new.seats.agenda i place
      rests_so i place (inl (e, same)) = inr (inr (through (place_of new.seats.agenda.limits.times.items i (omega (
        arith,
        e,
        h.standing.limits,
        ap (λ (l : Limits). length l.times.items) limits,
        slice_get_within old.seats.places.items at Empty is,
      )))))
        where
          through : (time : Option ℕ) × (slice_get new.seats.agenda.limits.times.items i ≡ Some time)
              → RestsAt wants new.seats.agenda.limits.times.items i place
          through (time, there) = (
            time,
            there,
            over_rests agrees wants place time
                (subst (λ (p : Place M S). IsPlaceOver wants p) (sym same) over),
          )
      rests_so i place (inr (other, was)) = seen_still old new i at place other
          (λ l. subst (λ (x : List ℕ). IsFrom x 0 i) (sym list) l) (λ e. any ∙ e)
          (ap (λ (l : Limits). slice_get l.times.items i) limits) (h.rests i place was)

      called_so : (i : ℕ) → IsFrom old.list.items 0 i ⊎ (old.seats.agenda.all ≡ true)
          → IsFrom new.list.items 0 i ⊎ (new.seats.agenda.all ≡ true)
      called_so i (inl l) = inl (subst (λ (x : List ℕ). IsFrom x 0 i) (sym list) l)
      called_so i (inr e) = inr (any ∙ e)

  -- ---- what stands in a place is taken

  pub whole_take : (old new : Inside M S) (at : ℕ) → IsLoopSound agrees wants old → at < length old.seats.places.items
      → new.seats.places.items ≡ slice_set old.seats.places.items at Empty
      → new.seats.calls.items ≡ old.seats.calls.items
      → new.seats.tickets.items ≡ slice_set old.seats.tickets.items at None
      → new.seats.agenda.limits.times.items ≡ slice_set old.seats.agenda.limits.times.items at None
      → IsTree new.seats.agenda.limits → new.seats.agenda.given ≡ old.seats.agenda.given
      → new.seats.agenda.ended ≡ old.seats.agenda.ended → new.seats.agenda.all ≡ old.seats.agenda.all
      → new.list.items ≡ old.list.items → new.all.items ≡ old.all.items → new.free ≡ min old.free at
      → IsLoopSound agrees wants new
  whole_take old new at h lt placed calls tickets times tree given ended any list all free = record {
    standing = record {
      calls = ap (λ (l : List (Option Readiness)). length l) calls ∙ (h.standing.calls ∙ sym places_len);
      tickets = ap (λ (l : List (Option ℕ)). length l) tickets ∙ (length_set old.seats.tickets.items at None
          ∙ (h.standing.tickets ∙ sym places_len));
      able = λ i place is. able_so i place (set_cases old.seats.places.items at Empty i place (here i place is));
      told = λ i place is over. told_so i place over (set_cases old.seats.places.items at Empty i place
          (here i place is));
      has_ended = λ i place is (t, e). ended_so i place t
          (set_cases old.seats.tickets.items at None i (Some t) (number i t e))
          (set_cases old.seats.places.items at Empty i place (here i place is));
      given = λ i t e. given_so i t (set_cases old.seats.tickets.items at None i (Some t) (number i t e));
      any = λ e i (t, f). any_so e i t (set_cases old.seats.tickets.items at None i (Some t) (number i t f));
      limits = ap (λ (l : List (Option ℕ)). length l) times
          ∙ (length_set old.seats.agenda.limits.times.items at None ∙ (h.standing.limits ∙ sym places_len));
      tree = tree;
    };
    rests = λ i place is. rests_so i place (set_cases old.seats.places.items at Empty i place (here i place is));
    called = λ i ready called. called_so i (h.called i ready
        (subst (λ (l : List (Option Readiness)). slice_get l i ≡ Some (Some ready)) calls called));
    all = λ i less. subst (λ (l : List ℕ). IsFrom l 0 i) (sym all) (h.all i (omega (arith, less, places_len)));
    free = λ i place less is. free_so i place less (set_cases old.seats.places.items at Empty i place
        (here i place is));
    within = omega (arith, free, h.within, places_len);
  }
    where
      places_len : length new.seats.places.items ≡ length old.seats.places.items
      places_len = ap (λ (l : List (Place M S)). length l) placed ∙ length_set old.seats.places.items at Empty

      here : (i : ℕ) (place : Place M S) → slice_get new.seats.places.items i ≡ Some place
          → slice_get (slice_set old.seats.places.items at Empty) i ≡ Some place
      here i place is = subst (λ (l : List (Place M S)). slice_get l i ≡ Some place) placed is

      number : (i t : ℕ) → slice_get new.seats.tickets.items i ≡ Some (Some t)
          → slice_get (slice_set old.seats.tickets.items at None) i ≡ Some (Some t)
      number i t e = subst (λ (l : List (Option ℕ)). slice_get l i ≡ Some (Some t)) tickets e

      able_so : (i : ℕ) (place : Place M S)
          → ((i ≡ at) × (place ≡ Empty)) ⊎ ((i ≡ at → ⊥) × (slice_get old.seats.places.items i ≡ Some place))
          → IfOpen place (λ slot. IsAble agrees wants slot.machine)
      able_so i place (inl (_, e)) =
          subst (λ (p : Place M S). IfOpen p (λ slot. IsAble agrees wants slot.machine)) (sym e) tt
      able_so i place (inr (_, was)) = h.standing.able i place was

      told_so : (i : ℕ) (place : Place M S) → IsPlaceOver wants place
          → ((i ≡ at) × (place ≡ Empty)) ⊎ ((i ≡ at → ⊥) × (slice_get old.seats.places.items i ≡ Some place))
          → IsTicketed new.seats.tickets.items i
      told_so i place over (inl (_, e)) = absurd (subst (λ (p : Place M S). IsPlaceOver wants p) e over)
      told_so i place over (inr (other, was)) =
          let (t, e) = h.standing.told i place was over in (
            t,
            subst (λ (l : List (Option ℕ)). slice_get l i ≡ Some (Some t)) (sym tickets)
                (get_set_other old.seats.tickets.items at i None other ∙ e),
          )

      ended_so : (i : ℕ) (place : Place M S) (t : ℕ)
          → ((i ≡ at) × (Some t ≡ None)) ⊎ ((i ≡ at → ⊥) × (slice_get old.seats.tickets.items i ≡ Some (Some t)))
          → ((i ≡ at) × (place ≡ Empty)) ⊎ ((i ≡ at → ⊥) × (slice_get old.seats.places.items i ≡ Some place))
          → IsPlaceOver wants place
      ended_so i place t (inl (_, e)) _ = absurd (none-some t (sym e))
      ended_so i place t (inr (other, _)) (inl (e, _)) = absurd (other e)
      ended_so i place t (inr (_, e)) (inr (_, was)) = h.standing.has_ended i place was (t, e)

      given_so : (i t : ℕ)
          → ((i ≡ at) × (Some t ≡ None)) ⊎ ((i ≡ at → ⊥) × (slice_get old.seats.tickets.items i ≡ Some (Some t)))
          → t ≤ new.seats.agenda.given
      given_so i t (inl (_, e)) = absurd (none-some t (sym e))
      given_so i t (inr (_, e)) = omega (arith, given, h.standing.given i t e)

      any_so : new.seats.agenda.ended ≡ false → (i t : ℕ)
          → ((i ≡ at) × (Some t ≡ None)) ⊎ ((i ≡ at → ⊥) × (slice_get old.seats.tickets.items i ≡ Some (Some t))) → ⊥
      any_so none i t (inl (_, e)) = none-some t (sym e)
      any_so none i t (inr (_, e)) = h.standing.any (sym ended ∙ none) i (t, e)

      rests_so : (i : ℕ) (place : Place M S)
          → ((i ≡ at) × (place ≡ Empty)) ⊎ ((i ≡ at → ⊥) × (slice_get old.seats.places.items i ≡ Some place))
          → IsSeenTo wants new.list.items new.seats.agenda i place
      rests_so i place (inl (e, none)) = inr (inr (
        None,
        subst (λ (n : ℕ). slice_get new.seats.agenda.limits.times.items n ≡ Some None) (sym e)
            (ap (λ (l : List (Option ℕ)). slice_get l at) times
            ∙ get_set_same old.seats.agenda.limits.times.items at None (omega (arith, lt, h.standing.limits))),
        subst (λ (p : Place M S). RestsUntil wants None p) (sym none) tt,
      ))
      rests_so i place (inr (other, was)) = seen_still old new i at place other
          (λ l. subst (λ (x : List ℕ). IsFrom x 0 i) (sym list) l) (λ e. any ∙ e)
          (times_other old.seats.agenda.limits.times.items new.seats.agenda.limits.times.items at None times i other)
          (h.rests i place was)

      called_so : (i : ℕ) → IsFrom old.list.items 0 i ⊎ (old.seats.agenda.all ≡ true)
          → IsFrom new.list.items 0 i ⊎ (new.seats.agenda.all ≡ true)
      called_so i (inl l) = inl (subst (λ (x : List ℕ). IsFrom x 0 i) (sym list) l)
      called_so i (inr e) = inr (any ∙ e)

      free_so : (i : ℕ) (place : Place M S) → i < new.free
          → ((i ≡ at) × (place ≡ Empty)) ⊎ ((i ≡ at → ⊥) × (slice_get old.seats.places.items i ≡ Some place))
          → is_empty place ≡ false
      free_so i place less (inl (e, _)) = absurd (omega (arith, less, free, e))
      free_so i place less (inr (_, was)) = h.free i place (omega (arith, less, free)) was

  -- ---- what is known of a loop, where nothing has changed in it

  pub whole_same : (old new : Inside M S) → IsLoopSound agrees wants old → AreSeatsSound agrees wants new.seats
      → AreSame old.seats new.seats → new.list.items ≡ old.list.items → new.all.items ≡ old.all.items
      → AreOccupied new.seats.places.items new.free → new.free ≤ length new.seats.places.items
      → IsLoopSound agrees wants new
  whole_same old new h standing same list all free within = record {
    standing = standing;
    rests = λ i place is. rests_so i place (h.rests i place
        (subst (λ (l : List (Place M S)). slice_get l i ≡ Some place) same.places is));
    called = λ i ready called. called_so i (h.called i ready
        (subst (λ (l : List (Option Readiness)). slice_get l i ≡ Some (Some ready)) same.calls called));
    all = λ i lt. subst (λ (l : List ℕ). IsFrom l 0 i) (sym all)
        (h.all i (omega (arith, lt, ap (λ (l : List (Place M S)). length l) same.places)));
    free = free;
    within = within;
  }
    where
      rests_so : (i : ℕ) (place : Place M S) → IsSeenTo wants old.list.items old.seats.agenda i place
          → IsSeenTo wants new.list.items new.seats.agenda i place
      rests_so i place (inl l) = inl (subst (λ (x : List ℕ). IsFrom x 0 i) (sym list) l)
      rests_so i place (inr (inl e)) = inr (inl (same.all ∙ e))
      rests_so i place (inr (inr r)) =
          inr (inr (subst (λ (l : Limits). RestsAt wants l.times.items i place) (sym same.limits) r))

      called_so : (i : ℕ) → IsFrom old.list.items 0 i ⊎ (old.seats.agenda.all ≡ true)
          → IsFrom new.list.items 0 i ⊎ (new.seats.agenda.all ≡ true)
      called_so i (inl l) = inl (subst (λ (x : List ℕ). IsFrom x 0 i) (sym list) l)
      called_so i (inr e) = inr (same.all ∙ e)

  -- and also its first free place
  pub whole_known : (old new : Inside M S) → IsLoopSound agrees wants old → AreSeatsSound agrees wants new.seats
      → AreSame old.seats new.seats → new.list.items ≡ old.list.items → new.all.items ≡ old.all.items
      → new.free ≡ old.free → IsLoopSound agrees wants new
  whole_known old new h standing same list all free = whole_same old new h standing same list all
      (subst (λ (n : ℕ). AreOccupied new.seats.places.items n) (sym free)
      (subst (λ (l : List (Place M S)). AreOccupied l old.free) (sym same.places) h.free))
      (omega (arith, free, h.within, ap (λ (l : List (Place M S)). length l) same.places))
