-- One place that is served: how the places stand then, and what rests.
use Rattle.std.proofs.Common.{◌≡◌, ◌∙◌, ℕ, ◌<◌, ◌≤◌, ◌⊎◌, ◌&&◌, ◌||◌, not, Bool, true, false, List, [], length}
use Rattle.std.proofs.Common.{Option}
use Rattle.std.proofs.Common.{Some, None, slice_set, refl, sym, ap, subst, arith, inl, inr}
use Rattle.std.proofs.lemmas.Bool.{false≢true}
use Rattle.std.specs.List.{slice_get}
use Rattle.std.proofs.lemmas.Option.{none-some, same_Some, slice_get_within}
use Rattle.ws_machines.specs.Told.{Told}
use Rattle.ws_machines.specs.Machines.{Wants}
use Rattle.ws_loops.specs.Deeds.{Deed}
use Rattle.ws_loops.specs.Paces.{has_any_bytes, has_ended_by, is_read_due, is_wait_late, is_write_due}
use Rattle.ws_loops.specs.Paces.{is_write_late}
use Rattle.ws_loops.specs.Places.{IsPlaceOver, IfOpen}
use Rattle.ws_loops.specs.Sinks.{HasTakenLines, said_at}
use Rattle.ws_loops.specs.Slots.{IsAble}
use Rattle.ws_loops.specs.Loops.{GiveTurns, HasPlaceTurn, IsNoted, IsOutlook, IsServed, AreSeatsSound}
use Rattle.ws_loops.specs.Loops.{IsTicketed}
use Rattle.ws_loops.specs.Loops.{ServedOnce}
use Rattle.ws_loops.specs.Limits.{IsTree}
use Rattle.ws_loops.specs.Loops.{IsSeenTo, KeepsRest, RestsUncalled, RestsUntil}
use Rattle.ws_loops.specs.declared.places.Agenda.{Agenda}
use Rattle.ws_loops.specs.declared.places.Place.{Place}
use Rattle.ws_loops.specs.declared.places.Place.TheVariants.{Empty, Open, Pending, Broken}
use Rattle.ws_loops.specs.declared.places.Seats.{Seats}
use Rattle.ws_loops.specs.declared.poller.Readiness.{Readiness}
use Rattle.ws_loops.specs.declared.rounds.Outlook.{Outlook}
use Rattle.ws_loops.specs.declared.rounds.Outlook.TheVariants as outlook
use Rattle.ws_loops.proofs.PlaceLemmas.{get_set_other, get_set_same, length_set, place_of, set_cases, set_same}
use Rattle.ws_loops.proofs.RoundLemmas.{turns_still}

-- what isn't so is not true
pub goes_on_so : (b : Bool) → (b ≡ true → ⊥) → b ≡ false
goes_on_so true h = absurd (h refl)
goes_on_so false h = refl

never_due : (done rest : Bool) → done ≡ true → (not done && rest) ≡ false
never_due true rest e = refl
never_due false rest e = absurd (false≢true e)

-- one gets the next number that had none
pub turns_given : (tickets : List (Option ℕ)) (at given : ℕ) → slice_get tickets at ≡ Some None
    → GiveTurns tickets given (slice_set tickets at (Some given))
turns_given tickets at given none = record {
  kept = λ i t e. get_set_other tickets at i (Some given) (other i t e) ∙ e;
  fresh = λ i t e. by i t (set_cases tickets at (Some given) i (Some t) e);
}
  where
    other : (i t : ℕ) → slice_get tickets i ≡ Some (Some t) → i ≡ at → ⊥
    other i t e is_at = none-some t (same_Some None (Some t) (sym none
        ∙ subst (λ (n : ℕ). slice_get tickets n ≡ Some (Some t)) is_at e))

    by : (i t : ℕ) → ((i ≡ at) × (Some t ≡ Some given)) ⊎ ((i ≡ at → ⊥) × (slice_get tickets i ≡ Some (Some t)))
        → (slice_get tickets i ≡ Some (Some t)) ⊎ (given ≤ t)
    by i t (inl (_, e)) = inr (omega (arith, same_Some t given e))
    by i t (inr (_, e)) = inl e

module _ {M S : Type 0} (agrees : M → M → List Told → Type 0) (wants : M → Wants) where
  -- nothing is due in a place that has ended
  pub over_rests : (place : Place M S) (time : Option ℕ) → IsPlaceOver wants place → RestsUntil wants time place
  over_rests Empty time e = tt
  over_rests Broken time e = tt
  over_rests (Pending watch) time e = λ t before. never_due watch.stirred (has_ended_by watch.until t) e
  over_rests (Open slot) time e = λ t before. never_due (wants slot.machine).done (has_any_bytes (wants slot.machine).report
      || ((wants slot.machine).end || (has_ended_by slot.pace.deadline t || (is_read_due
      (wants slot.machine) slot.pace t
      || (is_write_due (wants slot.machine) slot.pace t || (is_write_late (wants slot.machine) slot.pace t
      || is_wait_late (wants slot.machine) slot.pace t)))))) e

  -- where another place gets a time, one is seen to as before
  pub kept_rests : (i at : ℕ) (place : Place M S) (old new : Agenda) → (i ≡ at → ⊥) → KeepsRest at old new
      → IsSeenTo wants old.later.items old i place → IsSeenTo wants new.later.items new i place
  kept_rests i at place old new other k (inl listed) = inl (k.later i listed)
  kept_rests i at place old new other k (inr (inl all)) = inr (inl (k.all all))
  kept_rests i at place old new other k (inr (inr (time, is, rests))) = inr (inr (
    time,
    subst (λ (l : List (Option ℕ)). slice_get l i ≡ Some time) (sym k.limits)
        (get_set_other old.limits.times.items at i k.time other ∙ is),
    rests,
  ))

  -- how a place that was not ended stands where it is no more than changed
  pub standing_kept : (old new : Seats M S) (at : ℕ) (y : Place M S) → AreSeatsSound agrees wants old
      → slice_get old.tickets.items at ≡ Some None → new.places.items ≡ slice_set old.places.items at y
      → length new.calls.items ≡ length old.calls.items → IfOpen y (λ slot. IsAble agrees wants slot.machine)
      → (IsPlaceOver wants y → ⊥) → new.tickets.items ≡ old.tickets.items → new.agenda.ended ≡ old.agenda.ended
      → old.agenda.given ≤ new.agenda.given
      → length new.agenda.limits.times.items ≡ length old.agenda.limits.times.items → IsTree new.agenda.limits
      → AreSeatsSound agrees wants new
  standing_kept old new at y h none placed called able goes same ended given limits tree = record {
    calls = called ∙ (h.calls ∙ (sym (length_set old.places.items at y)
        ∙ ap (λ (l : List (Place M S)). length l) (sym placed)));
    tickets = ap (λ (l : List (Option ℕ)). length l) same ∙ (h.tickets ∙ (sym (length_set old.places.items at y)
        ∙ ap (λ (l : List (Place M S)). length l) (sym placed)));
    able = λ i place is. able_so i place (set_cases old.places.items at y i place (here i place is));
    told = λ i place is over. told_so i place over (set_cases old.places.items at y i place (here i place is));
    has_ended = λ i place is (t, e). ended_so i place t (there i t e)
        (set_cases old.places.items at y i place (here i place is));
    given = λ i t e. omega (arith, given, h.given i t (there i t e));
    any = λ e i (t, f). h.any (sym ended ∙ e) i (t, there i t f);
    limits = limits ∙ (h.limits ∙ (sym (length_set old.places.items at y)
        ∙ ap (λ (l : List (Place M S)). length l) (sym placed)));
    tree = tree;
  }
    where
      here : (i : ℕ) (place : Place M S) → slice_get new.places.items i ≡ Some place
          → slice_get (slice_set old.places.items at y) i ≡ Some place
      here i place is = subst (λ (l : List (Place M S)). slice_get l i ≡ Some place) placed is

      there : (i t : ℕ) → slice_get new.tickets.items i ≡ Some (Some t) → slice_get old.tickets.items i ≡ Some (Some t)
      there i t e = subst (λ (l : List (Option ℕ)). slice_get l i ≡ Some (Some t)) same e

      able_so : (i : ℕ) (place : Place M S)
          → ((i ≡ at) × (place ≡ y)) ⊎ ((i ≡ at → ⊥) × (slice_get old.places.items i ≡ Some place))
          → IfOpen place (λ slot. IsAble agrees wants slot.machine)
      able_so i place (inl (_, is_y)) =
          subst (λ (p : Place M S). IfOpen p (λ slot. IsAble agrees wants slot.machine)) (sym is_y) able
      able_so i place (inr (_, was)) = h.able i place was

      told_so : (i : ℕ) (place : Place M S) → IsPlaceOver wants place
          → ((i ≡ at) × (place ≡ y)) ⊎ ((i ≡ at → ⊥) × (slice_get old.places.items i ≡ Some place))
          → IsTicketed new.tickets.items i
      told_so i place over (inl (_, is_y)) = absurd (goes (subst (λ (p : Place M S). IsPlaceOver wants p) is_y over))
      told_so i place over (inr (_, was)) =
          let (t, e) = h.told i place was over in
          (t, subst (λ (l : List (Option ℕ)). slice_get l i ≡ Some (Some t)) (sym same) e)

      ended_so : (i : ℕ) (place : Place M S) (t : ℕ) → slice_get old.tickets.items i ≡ Some (Some t)
          → ((i ≡ at) × (place ≡ y)) ⊎ ((i ≡ at → ⊥) × (slice_get old.places.items i ≡ Some place))
          → IsPlaceOver wants place
      ended_so i place t e (inl (is_at, _)) = absurd (none-some t (same_Some None (Some t) (sym none
          ∙ subst (λ (n : ℕ). slice_get old.tickets.items n ≡ Some (Some t)) is_at e)))
      ended_so i place t e (inr (_, was)) = h.has_ended i place was (t, e)

  -- and where it has ended, and was given its number
  pub standing_ended : (old new : Seats M S) (at : ℕ) (y : Place M S) → AreSeatsSound agrees wants old
      → at < length old.tickets.items → new.places.items ≡ slice_set old.places.items at y
      → length new.calls.items ≡ length old.calls.items → IfOpen y (λ slot. IsAble agrees wants slot.machine)
      → IsPlaceOver wants y → new.tickets.items ≡ slice_set old.tickets.items at (Some old.agenda.given)
      → new.agenda.ended ≡ true → old.agenda.given ≤ new.agenda.given
      → length new.agenda.limits.times.items ≡ length old.agenda.limits.times.items → IsTree new.agenda.limits
      → AreSeatsSound agrees wants new
  standing_ended old new at y h lt placed called able over same ended given limits tree = record {
    calls = called ∙ (h.calls ∙ (sym (length_set old.places.items at y)
        ∙ ap (λ (l : List (Place M S)). length l) (sym placed)));
    tickets = ap (λ (l : List (Option ℕ)). length l) same
        ∙ (length_set old.tickets.items at (Some old.agenda.given)
        ∙ (h.tickets ∙ (sym (length_set old.places.items at y)
        ∙ ap (λ (l : List (Place M S)). length l) (sym placed))));
    able = λ i place is. able_so i place (set_cases old.places.items at y i place (here i place is));
    told = λ i place is gone. told_so i place gone (set_cases old.places.items at y i place (here i place is));
    has_ended = λ i place is (t, e). ended_so i place t (set_cases old.tickets.items at (Some old.agenda.given) i
        (Some t)
        (there i t e)) (set_cases old.places.items at y i place (here i place is));
    given = λ i t e. given_so i t (set_cases old.tickets.items at (Some old.agenda.given) i (Some t) (there i t e));
    any = λ e. absurd (false≢true (sym e ∙ ended));
    limits = limits ∙ (h.limits ∙ (sym (length_set old.places.items at y)
        ∙ ap (λ (l : List (Place M S)). length l) (sym placed)));
    tree = tree;
  }
    where
      here : (i : ℕ) (place : Place M S) → slice_get new.places.items i ≡ Some place
          → slice_get (slice_set old.places.items at y) i ≡ Some place
      here i place is = subst (λ (l : List (Place M S)). slice_get l i ≡ Some place) placed is

      there : (i t : ℕ) → slice_get new.tickets.items i ≡ Some (Some t)
          → slice_get (slice_set old.tickets.items at (Some old.agenda.given)) i ≡ Some (Some t)
      there i t e = subst (λ (l : List (Option ℕ)). slice_get l i ≡ Some (Some t)) same e

      able_so : (i : ℕ) (place : Place M S)
          → ((i ≡ at) × (place ≡ y)) ⊎ ((i ≡ at → ⊥) × (slice_get old.places.items i ≡ Some place))
          → IfOpen place (λ slot. IsAble agrees wants slot.machine)
      able_so i place (inl (_, is_y)) =
          subst (λ (p : Place M S). IfOpen p (λ slot. IsAble agrees wants slot.machine)) (sym is_y) able
      able_so i place (inr (_, was)) = h.able i place was

      told_so : (i : ℕ) (place : Place M S) → IsPlaceOver wants place
          → ((i ≡ at) × (place ≡ y)) ⊎ ((i ≡ at → ⊥) × (slice_get old.places.items i ≡ Some place))
          → IsTicketed new.tickets.items i
      told_so i place gone (inl (is_at, _)) = (
        old.agenda.given,
        subst (λ (l : List (Option ℕ)). slice_get l i ≡ Some (Some old.agenda.given)) (sym same)
            (subst (λ (n : ℕ). slice_get (slice_set old.tickets.items at (Some old.agenda.given)) n
            ≡ Some (Some old.agenda.given)) (sym is_at)
            (get_set_same old.tickets.items at (Some old.agenda.given) lt)),
      )
      told_so i place gone (inr (other, was)) =
          let (t, e) = h.told i place was gone in (
            t,
            subst (λ (l : List (Option ℕ)). slice_get l i ≡ Some (Some t)) (sym same)
                (get_set_other old.tickets.items at i (Some old.agenda.given) other ∙ e),
          )

      ended_so : (i : ℕ) (place : Place M S) (t : ℕ)
          → ((i ≡ at) × (Some t ≡ Some old.agenda.given))
          ⊎ ((i ≡ at → ⊥) × (slice_get old.tickets.items i ≡ Some (Some t)))
          → ((i ≡ at) × (place ≡ y)) ⊎ ((i ≡ at → ⊥) × (slice_get old.places.items i ≡ Some place))
          → IsPlaceOver wants place
      ended_so i place t (inl _) (inl (_, is_y)) = subst (λ (p : Place M S). IsPlaceOver wants p) (sym is_y) over
      ended_so i place t (inl (is_at, _)) (inr (other, _)) = absurd (other is_at)
      ended_so i place t (inr (other, _)) (inl (is_at, _)) = absurd (other is_at)
      ended_so i place t (inr (_, e)) (inr (_, was)) = h.has_ended i place was (t, e)

      given_so : (i t : ℕ)
          → ((i ≡ at) × (Some t ≡ Some old.agenda.given))
          ⊎ ((i ≡ at → ⊥) × (slice_get old.tickets.items i ≡ Some (Some t)))
          → t ≤ new.agenda.given
      given_so i t (inl (_, e)) = omega (arith, given, same_Some t old.agenda.given e)
      given_so i t (inr (_, e)) = omega (arith, given, h.given i t e)

  times_len : (old new : Seats M S) (at : ℕ) → KeepsRest at old.agenda new.agenda
      → length new.agenda.limits.times.items ≡ length old.agenda.limits.times.items
  times_len old new at k = ap (λ (l : List (Option ℕ)). length l) k.limits
      ∙ length_set old.agenda.limits.times.items at k.time

  -- how the places stand where one has had its turn, and that was noted
  pub standing_noted : (old new : Seats M S) (at : ℕ) (y : Place M S) (found : Outlook) → AreSeatsSound agrees wants old
      → slice_get old.tickets.items at ≡ Some None → new.places.items ≡ slice_set old.places.items at y
      → length new.calls.items ≡ length old.calls.items → IfOpen y (λ slot. IsAble agrees wants slot.machine)
      → IsOutlook wants found y → KeepsRest at old.agenda new.agenda
      → IsNoted at found old.tickets.items old.agenda new.tickets.items new.agenda → AreSeatsSound agrees wants new
  standing_noted old new at y outlook.Ended h none placed called able is k (same, ended, given) =
      standing_ended old new at y h (slice_get_within old.tickets.items at None none) placed called able is same ended
      given
      (times_len old new at k) k.tree
  standing_noted old new at y outlook.Due h none placed called able is k (same, ended, given, kept) =
      standing_kept old new at y h none placed called able is same ended given (times_len old new at k) k.tree
  standing_noted old new at y (outlook.Rests time) h none placed called able is k (same, ended, given, rest) =
      standing_kept old new at y h none placed called able is.0 same ended given (times_len old new at k) k.tree

  -- and where it was not noted, as its lines were not taken
  pub standing_refused : (old new : Seats M S) (at : ℕ) (y : Place M S) → AreSeatsSound agrees wants old
      → slice_get old.tickets.items at ≡ Some None → new.places.items ≡ slice_set old.places.items at y
      → length new.calls.items ≡ length old.calls.items → IfOpen y (λ slot. IsAble agrees wants slot.machine)
      → (IsPlaceOver wants y → ⊥) → new.tickets.items ≡ old.tickets.items → new.agenda ≡ old.agenda
      → AreSeatsSound agrees wants new
  standing_refused old new at y h none placed called able goes same agenda = standing_kept old new at y h none placed
      called able goes same (ap (λ (a : Agenda). a.ended) agenda)
      (subst (λ (a : Agenda). old.agenda.given ≤ a.given) (sym agenda) (omega arith))
      (ap (λ (a : Agenda). length a.limits.times.items) agenda)
      (subst (λ (a : Agenda). IsTree a.limits) (sym agenda) h.tree)

  -- one that has no number has not ended
  pub not_ended : (seats : Seats M S) (at : ℕ) (x : Place M S) → AreSeatsSound agrees wants seats
      → slice_get seats.places.items at ≡ Some x → slice_get seats.tickets.items at ≡ Some None
      → IsPlaceOver wants x → ⊥
  not_ended seats at x h is none over =
      let (t, e) = h.told at x is over in
      none-some t (same_Some None (Some t) (sym none ∙ e))

  -- what rests then
  pub rests_noted : (old new : Seats M S) (at : ℕ) (y : Place M S) (found : Outlook) → RestsUncalled wants old
      → at < length old.agenda.limits.times.items → new.places.items ≡ slice_set old.places.items at y
      → new.calls.items ≡ slice_set old.calls.items at None
      → KeepsRest at old.agenda new.agenda → IsOutlook wants found y
      → IsNoted at found old.tickets.items old.agenda new.tickets.items new.agenda → RestsUncalled wants new
  rests_noted old new at y found h lt placed called rest is noted i place here call = by
      (set_cases old.places.items at y i place
      (subst (λ (l : List (Place M S)). slice_get l i ≡ Some place) placed here))
      (set_cases old.calls.items at None i None
      (subst (λ (l : List (Option Readiness)). slice_get l i ≡ Some None) called call))
    where
      time_there : slice_get new.agenda.limits.times.items at ≡ Some rest.time
      time_there = subst (λ (l : List (Option ℕ)). slice_get l at ≡ Some rest.time) (sym rest.limits)
          (get_set_same old.agenda.limits.times.items at rest.time lt)

      at_so : (f : Outlook) → IsOutlook wants f place
          → IsNoted at f old.tickets.items old.agenda new.tickets.items new.agenda
          → IsSeenTo wants new.agenda.later.items new.agenda at place
      at_so outlook.Ended over n = inr (inr (rest.time, time_there, over_rests place rest.time over))
      at_so outlook.Due goes (same, ended, given, inl kept) = inl kept
      at_so outlook.Due goes (same, ended, given, inr all) = inr (inl all)
      at_so (outlook.Rests time) (goes, rests) (same, ended, given, is_time) = inr (inr (time, is_time, rests))

      by : ((i ≡ at) × (place ≡ y)) ⊎ ((i ≡ at → ⊥) × (slice_get old.places.items i ≡ Some place))
          → ((i ≡ at) × ◌≡◌ {A = Option Readiness} None None) ⊎ ((i ≡ at → ⊥) × (slice_get old.calls.items i
          ≡ Some None))
          → IsSeenTo wants new.agenda.later.items new.agenda i place
      by (inl (e, is_y)) _ = subst (λ (n : ℕ). IsSeenTo wants new.agenda.later.items new.agenda n place) (sym e)
          (at_so found (subst (λ (p : Place M S). IsOutlook wants found p) (sym is_y) is) noted)
      by (inr (other, was)) (inl (e, _)) = absurd (other e)
      by (inr (other, was)) (inr (_, none)) =
          kept_rests i at place old.agenda new.agenda other rest (h i place was none)

  -- and where its lines were not taken: it is called still
  pub rests_refused : (old new : Seats M S) (at : ℕ) (y : Place M S) (ready : Readiness) → RestsUncalled wants old
      → slice_get old.calls.items at ≡ Some (Some ready) → new.places.items ≡ slice_set old.places.items at y
      → new.calls.items ≡ old.calls.items → new.agenda ≡ old.agenda → RestsUncalled wants new
  rests_refused old new at y ready h was placed called agenda i place here call = by
      (set_cases old.places.items at y i place
      (subst (λ (l : List (Place M S)). slice_get l i ≡ Some place) placed here))
    where
      call_was : slice_get old.calls.items i ≡ Some None
      call_was = subst (λ (l : List (Option Readiness)). slice_get l i ≡ Some None) called call

      by : ((i ≡ at) × (place ≡ y)) ⊎ ((i ≡ at → ⊥) × (slice_get old.places.items i ≡ Some place))
          → IsSeenTo wants new.agenda.later.items new.agenda i place
      by (inl (e, _)) = absurd (none-some ready (same_Some None (Some ready) (sym call_was
          ∙ subst (λ (n : ℕ). slice_get old.calls.items n ≡ Some (Some ready)) (sym e) was)))
      by (inr (_, there)) = subst (λ (a : Agenda). IsSeenTo wants a.later.items a i place) (sym agenda)
          (h i place there call_was)

  -- the numbers that were given then
  pub turns_noted : (old new : Seats M S) (at : ℕ) (found : Outlook) → slice_get old.tickets.items at ≡ Some None
      → IsNoted at found old.tickets.items old.agenda new.tickets.items new.agenda
      → GiveTurns old.tickets.items old.agenda.given new.tickets.items × (old.agenda.given ≤ new.agenda.given)
  turns_noted old new at outlook.Due none (same, ended, given, kept) = (
    subst (λ (l : List (Option ℕ)). GiveTurns old.tickets.items old.agenda.given l) (sym same)
        (turns_still old.tickets.items old.agenda.given),
    given,
  )
  turns_noted old new at (outlook.Rests time) none (same, ended, given, rest) = (
    subst (λ (l : List (Option ℕ)). GiveTurns old.tickets.items old.agenda.given l) (sym same)
        (turns_still old.tickets.items old.agenda.given),
    given,
  )
  turns_noted old new at outlook.Ended none (same, ended, given) = (
    subst (λ (l : List (Option ℕ)). GiveTurns old.tickets.items old.agenda.given l) (sym same)
        (turns_given old.tickets.items at old.agenda.given none),
    given,
  )

-- ---- one place that is called is served

module _ {M S K : Type 0} (agrees : M → M → List Told → Type 0) (wants : M → Wants)
    (did : S → S → List Deed → Type 0) (heard : K → K → List (ℕ × List ℕ) → Type 0) (now at : ℕ)
    (old new : Seats M S) (s t : K) where
  -- it has had its turn
  pub once_served : (ready : Readiness) (x y : Place M S) (found : Outlook) (lines : List (List ℕ))
      → slice_get old.places.items at ≡ Some x → slice_get old.calls.items at ≡ Some (Some ready)
      → slice_get old.tickets.items at ≡ Some None → new.places.items ≡ slice_set old.places.items at y
      → new.calls.items ≡ slice_set old.calls.items at None
      → IsNoted at found old.tickets.items old.agenda new.tickets.items new.agenda
      → HasTakenLines heard s t (said_at at lines) → HasPlaceTurn agrees wants did ready now x y lines
      → ServedOnce agrees wants did heard now at old new s t
  once_served ready x y found lines there called none placed calls noted put turn = record {
    lines = lines;
    put = put;
    turns = (turns_noted agrees wants old new at found none noted).0;
    given = (turns_noted agrees wants old new at found none noted).1;
    outside = λ past. absurd (omega (arith, past, slice_get_within old.places.items at x there));
    served = λ call place is was. (
      y,
      placed,
      calls,
      subst (λ (c : Option Readiness). IsServed agrees wants did now c place y lines)
          (same_Some (Some ready) call (sym called ∙ is))
          (inl (subst (λ (p : Place M S). HasPlaceTurn agrees wants did ready now p y lines)
          (same_Some x place (sym there ∙ was)) turn)),
    );
  }

  -- it had ended, and stays as it is
  pub once_ended : (ready : Readiness) (x : Place M S) → AreSeatsSound agrees wants old
      → slice_get old.places.items at ≡ Some x → slice_get old.calls.items at ≡ Some (Some ready)
      → IsTicketed old.tickets.items at → new.places.items ≡ old.places.items
      → new.calls.items ≡ slice_set old.calls.items at None → new.tickets.items ≡ old.tickets.items
      → new.agenda ≡ old.agenda → HasTakenLines heard s t [] → ServedOnce agrees wants did heard now at old new s t
  once_ended ready x h there called ticketed places calls tickets agenda put = record {
    lines = [];
    put = put;
    turns = subst (λ (l : List (Option ℕ)). GiveTurns old.tickets.items old.agenda.given l) (sym tickets)
        (turns_still old.tickets.items old.agenda.given);
    given = subst (λ (a : Agenda). old.agenda.given ≤ a.given) (sym agenda) (omega arith);
    outside = λ past. absurd (omega (arith, past, slice_get_within old.places.items at x there));
    served = λ call place is was. (
      place,
      places ∙ sym (set_same old.places.items at place was),
      calls,
      subst (λ (c : Option Readiness). IsServed agrees wants did now c place place [])
          (same_Some (Some ready) call (sym called ∙ is))
          (inr (h.has_ended at place was ticketed, refl, refl)),
    );
  }

  -- it isn't called, or there is none of its number
  pub once_still : new ≡ old → (slice_get old.calls.items at ≡ Some None) ⊎ (length old.places.items ≤ at)
      → HasTakenLines heard s t [] → ServedOnce agrees wants did heard now at old new s t
  once_still same none put = record {
    lines = [];
    put = put;
    turns = subst (λ (x : Seats M S). GiveTurns old.tickets.items old.agenda.given x.tickets.items) (sym same)
        (turns_still old.tickets.items old.agenda.given);
    given = subst (λ (x : Seats M S). old.agenda.given ≤ x.agenda.given) (sym same) (omega arith);
    outside = λ past. (
      ap (λ (x : Seats M S). x.places.items) same,
      ap (λ (x : Seats M S). x.calls.items) same,
      refl,
    );
    served = λ call place is was. by call place is was none;
  }
    where
      by : (call : Option Readiness) (place : Place M S) → slice_get old.calls.items at ≡ Some call
          → slice_get old.places.items at ≡ Some place
          → (slice_get old.calls.items at ≡ Some None) ⊎ (length old.places.items ≤ at)
          → (after : Place M S) × (new.places.items ≡ slice_set old.places.items at after)
          × (new.calls.items ≡ slice_set old.calls.items at None) × IsServed agrees wants did now call place after []
      by call place is was (inr past) = absurd (omega (arith, past, slice_get_within old.places.items at place was))
      by call place is was (inl uncalled) = (
        place,
        ap (λ (x : Seats M S). x.places.items) same ∙ sym (set_same old.places.items at place was),
        ap (λ (x : Seats M S). x.calls.items) same ∙ sym (set_same old.calls.items at None uncalled),
        subst (λ (c : Option Readiness). IsServed agrees wants did now c place place [])
            (same_Some None call (sym uncalled ∙ is)) (refl, refl),
      )

  -- what rests where one that has ended is called no longer
  pub rests_ended : (x : Place M S) → RestsUncalled wants old → AreSeatsSound agrees wants old
      → slice_get old.places.items at ≡ Some x → IsTicketed old.tickets.items at
      → new.places.items ≡ old.places.items → new.calls.items ≡ slice_set old.calls.items at None
      → new.agenda ≡ old.agenda → RestsUncalled wants new
  rests_ended x h standing there ticketed places calls agenda i place here call = by
      (set_cases old.calls.items at None i None
      (subst (λ (l : List (Option Readiness)). slice_get l i ≡ Some None) calls call))
    where
      place_there : slice_get old.places.items i ≡ Some place
      place_there = subst (λ (l : List (Place M S)). slice_get l i ≡ Some place) places here

      through : IsPlaceOver wants place
          → (time : Option ℕ) × (slice_get old.agenda.limits.times.items i ≡ Some time)
          → IsSeenTo wants new.agenda.later.items new.agenda i place
      through over (time, is) = subst (λ (a : Agenda). IsSeenTo wants a.later.items a i place) (sym agenda)
          (inr (inr (time, is, over_rests agrees wants place time over)))

      by : ((i ≡ at) × ◌≡◌ {A = Option Readiness} None None) ⊎ ((i ≡ at → ⊥) × (slice_get old.calls.items i
          ≡ Some None))
          → IsSeenTo wants new.agenda.later.items new.agenda i place
      by (inl (e, _)) = through (standing.has_ended i place place_there
          (subst (λ (n : ℕ). IsTicketed old.tickets.items n) (sym e) ticketed))
          (place_of old.agenda.limits.times.items i
          (omega (arith, standing.limits, slice_get_within old.places.items i place place_there)))
      by (inr (_, none)) = subst (λ (a : Agenda). IsSeenTo wants a.later.items a i place) (sym agenda)
          (h i place place_there none)
