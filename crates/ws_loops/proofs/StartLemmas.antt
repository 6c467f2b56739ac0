-- A loop at first, which of its places is free, and which ended first.
use Rattle.std.proofs.Common.{◌≡◌, ◌∙◌, ℕ, ◌<◌, ◌≤◌, false, List, length, Some, sym, ap}
use Rattle.std.proofs.Common.{subst, arith, inr}
use Rattle.std.specs.List.{slice_get}
use Rattle.std.proofs.lemmas.Option.{none-some, slice_get_within}
use Rattle.ws_machines.specs.Told.{Told}
use Rattle.ws_machines.specs.Machines.{Wants}
use Rattle.ws_loops.specs.Limits.{IsTree}
use Rattle.ws_loops.specs.Looping.{AreNewSeats}
use Rattle.ws_loops.specs.Loops.{AreSeatsSound, HasAll, IsLoopSound, RestsUntil}
use Rattle.ws_loops.specs.Places.{AreOccupied, IfOpen, IsFirstFree, IsFirstToEnd, IsOverAt, IsPlaceOver, NoneHasEnded}
use Rattle.ws_loops.specs.Places.{NoneIsOver}
use Rattle.ws_loops.specs.Slots.{IsAble}
use Rattle.ws_loops.specs.declared.inside.Inside.{Inside}
use Rattle.ws_loops.specs.declared.limits.Limits.{Limits}
use Rattle.ws_loops.specs.declared.places.Place.{Place}
use Rattle.ws_loops.specs.declared.places.Place.TheVariants.{Empty}
use Rattle.ws_loops.specs.declared.places.Seats.{Seats}
use Rattle.ws_loops.proofs.PlaceLemmas.{place_of}

module _ {M S : Type 0} where
  pub none_new : (len : ℕ) (seats : Seats M S) → AreNewSeats len seats → NoneHasEnded seats.tickets.items
  none_new len seats h i t e = none-some t (sym (h.none i (Some t) e))

  -- the first free place is empty
  pub free_is_empty : (places : List (Place M S)) (at : ℕ) → IsFirstFree places at → at < length places
      → slice_get places at ≡ Some Empty
  free_is_empty places at h lt =
      let (place, is) = place_of places at lt in
      is ∙ ap (λ (p : Place M S). Some p) (h.empty place is)

  -- where it is behind all others, something stands in each
  pub all_taken : (places : List (Place M S)) (at : ℕ) → IsFirstFree places at → length places ≤ at
      → AreOccupied places (length places)
  all_taken places at h past i place lt is = h.first i place (omega (arith, lt, past)) is

module _ {M S : Type 0} (agrees : M → M → List Told → Type 0) (wants : M → Wants) where
  not_over : (place : Place M S) → place ≡ Empty → IsPlaceOver wants place → ⊥
  not_over place e over = subst (λ (p : Place M S). IsPlaceOver wants p) e over

  new_standing : (len : ℕ) (seats : Seats M S) → AreNewSeats len seats → AreSeatsSound agrees wants seats
  new_standing len seats h = record {
    calls = h.calls ∙ sym h.places;
    tickets = h.tickets ∙ sym h.places;
    able = λ i place is. subst (λ (p : Place M S). IfOpen p (λ slot. IsAble agrees wants slot.machine))
        (sym (h.empty i place is)) tt;
    told = λ i place is over. absurd (not_over place (h.empty i place is) over);
    has_ended = λ i place is (t, e). absurd (none_new len seats h i t e);
    given = λ i t e. absurd (none_new len seats h i t e);
    any = λ none i (t, e). none_new len seats h i t e;
    limits = h.limits ∙ sym h.places;
    tree = h.tree;
  }

  -- all that a loop keeps at first
  pub new_sound : (len : ℕ) (made : Inside M S) → AreNewSeats len made.seats → HasAll made.all.items len
      → made.free ≡ 0 → IsLoopSound agrees wants made
  new_sound len made h all free = record {
    standing = new_standing len made.seats h;
    rests = λ i place is.
        let (time, there) = place_of made.seats.agenda.limits.times.items i
        (omega (arith, h.limits, h.places, slice_get_within made.seats.places.items i place is)) in
        inr (inr (
          time,
          there,
          subst (λ (p : Place M S). RestsUntil wants time p) (sym (h.empty i place is)) tt,
        ));
    called = λ i ready is. absurd (none-some ready (sym (h.uncalled i (Some ready) is)));
    all = λ i lt. all i (omega (arith, lt, h.places));
    free = λ i place lt. absurd (omega (arith, lt, free));
    within = omega (arith, free);
  }

  -- what was given the least number has ended
  pub first_over : (seats : Seats M S) (at : ℕ) → AreSeatsSound agrees wants seats → IsFirstToEnd seats.tickets.items at
      → IsOverAt wants seats.places.items at
  first_over seats at h (t, is, least) =
      let (place, there) = place_of seats.places.items at
      (omega (arith, h.tickets, slice_get_within seats.tickets.items at (Some t) is)) in
      (place, there, h.has_ended at place there (t, is))

  -- where none has a number nothing has ended
  pub none_over : (seats : Seats M S) → AreSeatsSound agrees wants seats → NoneHasEnded seats.tickets.items
      → NoneIsOver wants seats.places.items
  none_over seats h none i (place, is, over) =
      let (t, e) = h.told i place is over in
      none i t e

  pub none_known : (seats : Seats M S) → AreSeatsSound agrees wants seats → seats.agenda.ended ≡ false
      → NoneIsOver wants seats.places.items
  none_known seats h e i (place, is, over) = h.any e i (h.told i place is over)

  -- it is known that none has
  pub ended_none : (old new : Seats M S) → AreSeatsSound agrees wants old → NoneHasEnded old.tickets.items
      → new.places ≡ old.places → new.calls ≡ old.calls → new.tickets ≡ old.tickets
      → new.agenda.limits ≡ old.agenda.limits → new.agenda.given ≡ old.agenda.given → AreSeatsSound agrees wants new
  ended_none old new h none places calls tickets limits given = record {
    calls = ap (λ l. length l.items) calls ∙ (h.calls ∙ ap (λ l. length l.items) (sym places));
    tickets = ap (λ l. length l.items) tickets ∙ (h.tickets ∙ ap (λ l. length l.items) (sym places));
    able = λ i place is. h.able i place (subst (λ l. slice_get l.items i ≡ Some place) places is);
    told = λ i place is over.
        let (t, e) = h.told i place (subst (λ l. slice_get l.items i ≡ Some place) places is) over in
        (t, subst (λ l. slice_get l.items i ≡ Some (Some t)) (sym tickets) e);
    has_ended = λ i place is (t, e). h.has_ended i place (subst (λ l. slice_get l.items i ≡ Some place) places is)
        (t, subst (λ l. slice_get l.items i ≡ Some (Some t)) tickets e);
    given = λ i t e. omega (arith, given, h.given i t (subst (λ l. slice_get l.items i ≡ Some (Some t)) tickets e));
    any = λ e i (t, is). none i t (subst (λ l. slice_get l.items i ≡ Some (Some t)) tickets is);
    limits = ap (λ (l : Limits). length l.times.items) limits ∙ (h.limits ∙ ap (λ l. length l.items) (sym places));
    tree = subst (λ (l : Limits). IsTree l) (sym limits) h.tree;
  }
