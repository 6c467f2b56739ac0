-- Places that are called, and all that a loop keeps, before they are served and behind it.
use Rattle.std.proofs.Common.{◌≡◌, ◌∙◌, ℕ, ◌+◌, ◌<◌, ◌≤◌, ◌⊎◌, ◌||◌, ◌&&◌, not, Bool, true, false, List, []}
use Rattle.std.specs.Bool.{⊤}
use Rattle.std.proofs.Common.{length, Option, Some, None, slice_set, refl, sym, ap, subst, arith, inl, inr}
use Rattle.std.proofs.lemmas.Bool.{cases_eq, false≢true}
use Rattle.std.specs.List.{slice_get}
use Rattle.std.proofs.lemmas.Option.{none-some, same_Some, slice_get_within}
use Rattle.ws_machines.specs.Told.{Told}
use Rattle.ws_machines.specs.Machines.{Wants}
use Rattle.ws_loops.specs.Deeds.{Deed}
use Rattle.ws_loops.specs.Inside.{AreAllCalled, AreCalledTo, HasMarkedTo, HasServedCalled, HasTurnByCall, IsCalledSo}
use Rattle.ws_loops.specs.Inside.{CoversBoth, HasCalled, HasTurnedOver, IsCalledOnce, IsMarked, StaysCalled}
use Rattle.ws_loops.specs.Paces.{IsBefore, has_ended_by, is_due}
use Rattle.ws_loops.specs.Places.{AreOccupied, StayOfKind, is_empty}
use Rattle.ws_loops.specs.Sinks.{AreLinesOfPlaces, lines_at}
use Rattle.ws_loops.specs.Loops.{AreServed, AtEachPlace, Covers, GiveTurns}
use Rattle.ws_loops.specs.Loops.{HasPlaceTurn, IsAmong, IsFrom, IsServedOrNot, AreSeatsSound}
use Rattle.ws_loops.specs.Loops.{IsLoopSound}
use Rattle.ws_loops.specs.Limits.{ComesLater, IsTree}
use Rattle.ws_loops.specs.Loops.{IsSeenTo, RestsAt, RestsUncalled, RestsUntil}
use Rattle.ws_loops.specs.Watches.{is_watch_due, watched_by}
use Rattle.ws_loops.specs.declared.inside.Door.{Door}
use Rattle.ws_loops.specs.declared.inside.Inside.{Inside}
use Rattle.ws_loops.specs.declared.limits.Limits.{Limits}
use Rattle.ws_loops.specs.declared.places.Agenda.{Agenda}
use Rattle.ws_loops.specs.declared.places.Place.{Place}
use Rattle.ws_loops.specs.declared.places.Place.TheVariants.{Empty, Open, Pending, Broken}
use Rattle.ws_loops.specs.declared.places.Seats.{Seats}
use Rattle.ws_loops.specs.declared.poller.Mark.{Mark}
use Rattle.ws_loops.specs.declared.poller.Mark.TheVariants as mark
use Rattle.ws_loops.specs.declared.poller.Readiness.{Readiness}
use Rattle.ws_loops.specs.declared.poller.Wake.{Wake}
use Rattle.ws_loops.specs.declared.watch.Watch.{Watch}
use Rattle.ws_loops.proofs.PlaceLemmas.{get_set_other, get_set_same, length_set, place_of, set_cases, still_taken}
use Rattle.ws_loops.proofs.RoundLemmas.{still_turn}

-- ---- calls

pub covers_itself : (ready : Readiness) → Covers ready ready
covers_itself ready = (λ e. e, λ e. e)

covers_then : (a b c : Readiness) → Covers a b → Covers b c → Covers a c
covers_then a b c (read, write) (read_on, write_on) = (λ e. read (read_on e), λ e. write (write_on e))

either_true : (a b : Bool) → b ≡ true → (a || b) ≡ true
either_true true b e = refl
either_true false b e = e

first_true : (a b : Bool) → a ≡ true → (a || b) ≡ true
first_true true b e = refl
first_true false b e = absurd (false≢true e)

pub stays_true : (before after : Bool) → (after ≡ before) ⊎ (after ≡ true) → before ≡ true → after ≡ true
stays_true before after (inl e) so = e ∙ so
stays_true before after (inr e) so = e

-- each covers what it is of
pub joined_so : (before ready joined : Readiness)
    → joined ≡ record { read = before.read || ready.read; write = before.write || ready.write }
    → CoversBoth (Some before) ready joined
joined_so before ready joined e = subst (λ (r : Readiness). CoversBoth (Some before) ready r) (sym e) (
  (λ f. first_true before.read ready.read f, λ f. first_true before.write ready.write f),
  (λ f. either_true before.read ready.read f, λ f. either_true before.write ready.write f),
)

stays : (call : Option Readiness) → StaysCalled call call
stays None = tt
stays (Some ready) = covers_itself ready

stays_joined : (before : Option Readiness) (ready joined : Readiness) → CoversBoth before ready joined
    → StaysCalled before (Some joined)
stays_joined None ready joined h = tt
stays_joined (Some before) ready joined h = h.0

pub joined_covers : (before : Option Readiness) (ready joined : Readiness) → CoversBoth before ready joined
    → Covers joined ready
joined_covers None ready joined h = h
joined_covers (Some before) ready joined h = h.1

stays_then : (a b c : Option Readiness) → StaysCalled a b → StaysCalled b c → StaysCalled a c
stays_then None b c h k = tt
stays_then (Some a) None c h k = absurd h
stays_then (Some a) (Some b) None h k = absurd k
stays_then (Some a) (Some b) (Some c) h k = covers_then c b a k h

-- where one place is called
pub stay_called : (old new : List (Option Readiness)) (at : ℕ) (before : Option Readiness) (ready joined : Readiness)
    → slice_get old at ≡ Some before → new ≡ slice_set old at (Some joined) → CoversBoth before ready joined
    → (i : ℕ) (c d : Option Readiness) → slice_get old i ≡ Some c → slice_get new i ≡ Some d → StaysCalled c d
stay_called old new at before ready joined was set join i c d c_is d_is = by (set_cases old at (Some joined) i d
    (subst (λ (l : List (Option Readiness)). slice_get l i ≡ Some d) set d_is))
  where
    by : ((i ≡ at) × (d ≡ Some joined)) ⊎ ((i ≡ at → ⊥) × (slice_get old i ≡ Some d)) → StaysCalled c d
    by (inl (e, is)) = subst (λ (x : Option Readiness). StaysCalled c x) (sym is)
        (subst (λ (x : Option Readiness). StaysCalled x (Some joined))
        (same_Some before c (sym was ∙ subst (λ (n : ℕ). slice_get old n ≡ Some c) e c_is))
        (stays_joined before ready joined join))
    by (inr (_, is)) = subst (λ (x : Option Readiness). StaysCalled c x) (same_Some c d (sym c_is ∙ is)) (stays c)

pub called_so : (old new : List (Option Readiness)) (at : ℕ) (ready joined : Readiness) (before : Option Readiness)
    → slice_get old at ≡ Some before → new ≡ slice_set old at (Some joined) → CoversBoth before ready joined
    → IsCalledSo new at ready
called_so old new at ready joined before was set join = (
  joined,
  subst (λ (l : List (Option Readiness)). slice_get l at ≡ Some (Some joined)) (sym set)
      (get_set_same old at (Some joined) (slice_get_within old at before was)),
  joined_covers before ready joined join,
)

-- a call is one that was there, or new at that place
pub call_is : (old new : List (Option Readiness)) (at : ℕ) (joined : Readiness) → new ≡ slice_set old at (Some joined)
    → (i : ℕ) (ready : Readiness) → slice_get new i ≡ Some (Some ready)
    → (i ≡ at) ⊎ (slice_get old i ≡ Some (Some ready))
call_is old new at joined set i ready is = by (set_cases old at (Some joined) i (Some ready)
    (subst (λ (l : List (Option Readiness)). slice_get l i ≡ Some (Some ready)) set is))
  where
    by : ((i ≡ at) × (Some ready ≡ Some joined)) ⊎ ((i ≡ at → ⊥) × (slice_get old i ≡ Some (Some ready)))
        → (i ≡ at) ⊎ (slice_get old i ≡ Some (Some ready))
    by (inl (e, _)) = inl e
    by (inr (_, e)) = inr e

pub among_all : (list : List ℕ) (i : ℕ) → IsFrom list 0 i → IsAmong list (length list) i
among_all list i (j, le, e) = (j, slice_get_within list j i e, e)

-- the listener is no place
abbrev place_only : Mark → Type 0
place_only mark.Listener = ⊤
place_only (mark.Place at) = ⊥

pub no_place : (m : Mark) (at : ℕ) → m ≡ mark.Listener → m ≡ mark.Place at → ⊥
no_place m at e f = subst (λ (k : Mark). place_only k) (sym e ∙ f) tt

-- there is one place of a mark
abbrev place_number : ℕ → Mark → ℕ
place_number n mark.Listener = n
place_number n (mark.Place at) = at

pub same_mark : (m : Mark) (at i : ℕ) → m ≡ mark.Place at → m ≡ mark.Place i → at ≡ i
same_mark m at i e f = ap (λ (k : Mark). place_number 0 k) (sym e ∙ f)

module _ {M S : Type 0} where
  pub marked_nothing : (a : Inside M S) → IsMarked a a
  marked_nothing a = record {
    places = refl;
    tickets = refl;
    later = refl;
    given = refl;
    ended = refl;
    limits = refl;
    any = inl refl;
    all = refl;
    found = refl;
    free = refl;
    deaf = refl;
    calls = refl;
    listed = λ i h. h;
    stay = λ i c d was is. subst (λ (x : Option Readiness). StaysCalled c x) (same_Some c d (sym was ∙ is)) (stays c);
    called = λ i ready is. inr (ready, is);
  }

  -- where the listener may have clients
  pub marked_door : (a b : Inside M S) → b.seats ≡ a.seats → b.list ≡ a.list → b.all ≡ a.all → b.found ≡ a.found
      → b.free ≡ a.free → b.door.deaf ≡ a.door.deaf → IsMarked a b
  marked_door a b seats list all found free deaf = record {
    places = ap (λ (s : Seats M S). s.places.items) seats;
    tickets = ap (λ (s : Seats M S). s.tickets.items) seats;
    later = ap (λ (s : Seats M S). s.agenda.later.items) seats;
    given = ap (λ (s : Seats M S). s.agenda.given) seats;
    ended = ap (λ (s : Seats M S). s.agenda.ended) seats;
    limits = ap (λ (s : Seats M S). s.agenda.limits) seats;
    any = inl (ap (λ (s : Seats M S). s.agenda.all) seats);
    all = ap (λ l. l.items) all;
    found = ap (λ l. l.items) found;
    free = free;
    deaf = deaf;
    calls = ap (λ (s : Seats M S). length s.calls.items) seats;
    listed = λ i h. subst (λ l. IsFrom l.items 0 i) (sym list) h;
    stay = λ i c d was is. subst (λ (x : Option Readiness). StaysCalled c x)
        (same_Some c d (sym was ∙ subst (λ (s : Seats M S). slice_get s.calls.items i ≡ Some d) seats is)) (stays c);
    called = λ i ready is. inr (
      ready,
      subst (λ (s : Seats M S). slice_get s.calls.items i ≡ Some
          (Some ready)) seats is,
    );
  }

  -- where one place is called, which is listed, or was called before
  pub call_marked : (a b : Inside M S) (at : ℕ) (before : Option Readiness) (ready joined : Readiness)
      → slice_get a.seats.calls.items at ≡ Some before → CoversBoth before ready joined
      → b.seats.calls.items ≡ slice_set a.seats.calls.items at (Some joined) → b.seats.places ≡ a.seats.places
      → b.seats.tickets ≡ a.seats.tickets → b.seats.agenda.later ≡ a.seats.agenda.later
      → b.seats.agenda.given ≡ a.seats.agenda.given → b.seats.agenda.ended ≡ a.seats.agenda.ended
      → b.seats.agenda.limits ≡ a.seats.agenda.limits → b.all ≡ a.all → b.found ≡ a.found → b.free ≡ a.free
      → b.door ≡ a.door → (b.seats.agenda.all ≡ a.seats.agenda.all) ⊎ (b.seats.agenda.all ≡ true)
      → ((i : ℕ) → IsFrom a.list.items 0 i → IsFrom b.list.items 0 i)
      → (IsFrom b.list.items 0 at ⊎ (b.seats.agenda.all ≡ true))
      ⊎ ((found : Readiness) × (slice_get a.seats.calls.items at ≡ Some (Some found)))
      → HasCalled at ready a b
  call_marked a b at before ready joined was join set places tickets later given ended limits all found free door any
      listed own = (
        record {
          places = ap (λ l. l.items) places;
          tickets = ap (λ l. l.items) tickets;
          later = ap (λ l. l.items) later;
          given = given;
          ended = ended;
          limits = limits;
          any = any;
          all = ap (λ l. l.items) all;
          found = ap (λ l. l.items) found;
          free = free;
          deaf = ap (λ (d : Door). d.deaf) door;
          calls = ap (λ (l : List (Option Readiness)). length l) set ∙ length_set a.seats.calls.items at (Some joined);
          listed = listed;
          stay = stay_called a.seats.calls.items b.seats.calls.items at before ready joined was set join;
          called = λ i r is. called_by i r (call_is a.seats.calls.items b.seats.calls.items at joined set i r is);
        },
        λ lt. called_so a.seats.calls.items b.seats.calls.items at ready joined before was set join,
      )
    where
      called_by : (i : ℕ) (r : Readiness) → (i ≡ at) ⊎ (slice_get a.seats.calls.items i ≡ Some (Some r))
          → (IsFrom b.list.items 0 i ⊎ (b.seats.agenda.all ≡ true))
          ⊎ ((found : Readiness) × (slice_get a.seats.calls.items i ≡ Some (Some found)))
      called_by i r (inl e) = subst (λ (n : ℕ). (IsFrom b.list.items 0 n ⊎ (b.seats.agenda.all ≡ true))
          ⊎ ((found : Readiness) × (slice_get a.seats.calls.items n ≡ Some (Some found)))) (sym e) own
      called_by i r (inr is) = inr (r, is)

  pub marked_then : (a b c : Inside M S) → IsMarked a b → IsMarked b c → IsMarked a c
  marked_then a b c h k = record {
    places = k.places ∙ h.places;
    tickets = k.tickets ∙ h.tickets;
    later = k.later ∙ h.later;
    given = k.given ∙ h.given;
    ended = k.ended ∙ h.ended;
    limits = k.limits ∙ h.limits;
    any = any_so h.any k.any;
    all = k.all ∙ h.all;
    found = k.found ∙ h.found;
    free = k.free ∙ h.free;
    deaf = k.deaf ∙ h.deaf;
    calls = k.calls ∙ h.calls;
    listed = λ i l. k.listed i (h.listed i l);
    stay = λ i x z was is. stay_so i x z was is (place_of b.seats.calls.items i
        (omega (arith, h.calls, slice_get_within a.seats.calls.items i x was)));
    called = λ i ready is. called_then i ready (k.called i ready is);
  }
    where
      any_so : (b.seats.agenda.all ≡ a.seats.agenda.all) ⊎ (b.seats.agenda.all ≡ true)
          → (c.seats.agenda.all ≡ b.seats.agenda.all) ⊎ (c.seats.agenda.all ≡ true)
          → (c.seats.agenda.all ≡ a.seats.agenda.all) ⊎ (c.seats.agenda.all ≡ true)
      any_so (inl e) (inl f) = inl (f ∙ e)
      any_so (inr e) (inl f) = inr (f ∙ e)
      any_so x (inr f) = inr f

      stay_so : (i : ℕ) (x z : Option Readiness) → slice_get a.seats.calls.items i ≡ Some x
          → slice_get c.seats.calls.items i ≡ Some z
          → (y : Option Readiness) × (slice_get b.seats.calls.items i ≡ Some y) → StaysCalled x z
      stay_so i x z was is (y, mid) = stays_then x y z (h.stay i x y was mid) (k.stay i y z mid is)

      at_once : (b.seats.agenda.all ≡ true) → (c.seats.agenda.all ≡ b.seats.agenda.all) ⊎ (c.seats.agenda.all ≡ true)
          → c.seats.agenda.all ≡ true
      at_once e (inl f) = f ∙ e
      at_once e (inr f) = f

      from_first : (i : ℕ) → (IsFrom b.list.items 0 i ⊎ (b.seats.agenda.all ≡ true))
          ⊎ ((before : Readiness) × (slice_get a.seats.calls.items i ≡ Some (Some before)))
          → (IsFrom c.list.items 0 i ⊎ (c.seats.agenda.all ≡ true))
          ⊎ ((before : Readiness) × (slice_get a.seats.calls.items i ≡ Some (Some before)))
      from_first i (inl (inl l)) = inl (inl (k.listed i l))
      from_first i (inl (inr e)) = inl (inr (at_once e k.any))
      from_first i (inr was) = inr was

      called_then : (i : ℕ) (ready : Readiness) → (IsFrom c.list.items 0 i ⊎ (c.seats.agenda.all ≡ true))
          ⊎ ((before : Readiness) × (slice_get b.seats.calls.items i ≡ Some (Some before)))
          → (IsFrom c.list.items 0 i ⊎ (c.seats.agenda.all ≡ true))
          ⊎ ((before : Readiness) × (slice_get a.seats.calls.items i ≡ Some (Some before)))
      called_then i ready (inl x) = inl x
      called_then i ready (inr (before, is)) = from_first i (h.called i before is)

  pub marks_none : (found : List Wake) (a : Inside M S) → HasMarkedTo found 0 a a
  marks_none found a = (marked_nothing a, λ k at w lt w_is place within. absurd (omega (arith, lt)))

  -- and one wake more
  pub marks_next : (found : List Wake) (count : ℕ) (a b c : Inside M S) (wake : Wake) → slice_get found count
      ≡ Some wake
      → HasMarkedTo found count a b → IsMarked b c
      → ((at : ℕ) → wake.mark ≡ mark.Place at → at < length b.seats.calls.items
      → IsCalledSo c.seats.calls.items at wake.ready)
      → HasMarkedTo found (count + 1) a c
  marks_next found count a b c wake is (h, all) k one = (
    marked_then a b c h k,
    λ j at w lt w_is place within. by j at w place within w_is (cases_eq j count) lt,
  )
    where
      stays_so : (at : ℕ) (found_so : Readiness) → IsCalledSo b.seats.calls.items at found_so
          → IsCalledSo c.seats.calls.items at found_so
      stays_so at found_so (ready, there, covers) = through (place_of c.seats.calls.items at
          (omega (arith, k.calls, slice_get_within b.seats.calls.items at (Some ready) there)))
        where
          with_call : (call : Option Readiness) → slice_get c.seats.calls.items at ≡ Some call
              → StaysCalled (Some ready) call → IsCalledSo c.seats.calls.items at found_so
          with_call None e s = absurd s
          with_call (Some now) e s = (now, e, covers_then now ready found_so s covers)

          through : (call : Option Readiness) × (slice_get c.seats.calls.items at ≡ Some call)
              → IsCalledSo c.seats.calls.items at found_so
          through (call, e) = with_call call e (k.stay at (Some ready) call there e)

      by : (j at : ℕ) (w : Wake) → w.mark ≡ mark.Place at → at < length a.seats.calls.items
          → slice_get found j ≡ Some w → (j ≡ count) ⊎ (j ≡ count → ⊥) → j < count + 1
          → IsCalledSo c.seats.calls.items at w.ready
      by j at w place within w_is (inl e) lt =
          let same : wake ≡ w = same_Some wake w (sym is ∙ subst (λ (n : ℕ). slice_get found n ≡ Some w) e w_is) in
          subst (λ (v : Wake). IsCalledSo c.seats.calls.items at v.ready) same
          (one at (ap (λ (v : Wake). v.mark) same ∙ place) (omega (arith, within, h.calls)))
      by j at w place within w_is (inr other) lt =
          stays_so at w.ready (all j at w (omega (arith, lt, other)) w_is place within)

-- ---- a connection that is under way, of which nothing is found and whose time has not come

pub still_watch : (watch : Watch) (now : ℕ) → is_watch_due watch now ≡ false
    → watch ≡ watched_by (record { read = false; write = false }) now watch
still_watch watch now h = same (watch.stirred || has_ended_by watch.until now)
    (unstirred watch.stirred (has_ended_by watch.until now) h)
  where
    same : (s : Bool) → s ≡ watch.stirred → watch ≡ record { until = watch.until; stirred = s }
    same s e = subst (λ (b : Bool). watch ≡ record { until = watch.until; stirred = b }) (sym e) refl

    unstirred : (s over : Bool) → (not s && over) ≡ false → (s || over) ≡ s
    unstirred true over e = refl
    unstirred false over e = e

-- ---- all that a loop keeps

module _ {M S : Type 0} (agrees : M → M → List Told → Type 0) (wants : M → Wants) where
  -- what stands so is told by the places, the calls and the numbers alone
  pub standing_same : (old new : Seats M S) → AreSeatsSound agrees wants old → new.places.items ≡ old.places.items
      → length new.calls.items ≡ length old.calls.items → new.tickets.items ≡ old.tickets.items
      → new.agenda.given ≡ old.agenda.given → new.agenda.ended ≡ old.agenda.ended
      → new.agenda.limits ≡ old.agenda.limits → AreSeatsSound agrees wants new
  standing_same old new h places calls tickets given ended limits = record {
    calls = calls ∙ (h.calls ∙ ap (λ (l : List (Place M S)). length l) (sym places));
    tickets = ap (λ (l : List (Option ℕ)). length l) tickets ∙ (h.tickets ∙ ap (λ (l : List (Place M S)). length l)
        (sym places));
    able = λ i place is. h.able i place (subst (λ (l : List (Place M S)). slice_get l i ≡ Some place) places is);
    told = λ i place is over.
        let (t, e) = h.told i place (subst (λ (l : List (Place M S)). slice_get l i ≡ Some place) places is) over in
        (t, subst (λ (l : List (Option ℕ)). slice_get l i ≡ Some (Some t)) (sym tickets) e);
    has_ended = λ i place is (t, e). h.has_ended i place (subst (λ (l : List (Place M S)). slice_get l i
        ≡ Some place) places is)
        (t, subst (λ (l : List (Option ℕ)). slice_get l i ≡ Some (Some t)) tickets e);
    given = λ i t e. omega (
      arith,
      given,
      h.given i t (subst (λ (l : List (Option ℕ)). slice_get l i ≡ Some
          (Some t)) tickets e),
    );
    any = λ e i (t, f). h.any (sym ended ∙ e) i (
      t,
      subst (λ (l : List (Option ℕ)). slice_get l i ≡ Some
          (Some t)) tickets f,
    );
    limits = ap (λ (l : Limits). length l.times.items) limits ∙ (h.limits ∙ ap (λ (l : List (Place M S)). length l)
        (sym places));
    tree = subst (λ (l : Limits). IsTree l) (sym limits) h.tree;
  }

  pub whole_marked : (old new : Inside M S) → IsLoopSound agrees wants old → IsMarked old new
      → IsLoopSound agrees wants new
  whole_marked old new h k = record {
    standing = standing_same old.seats new.seats h.standing k.places k.calls k.tickets k.given k.ended k.limits;
    rests = λ i place is.
        rests_so i place (h.rests i place (subst (λ (l : List (Place M S)). slice_get l i ≡ Some place) k.places is));
    called = λ i ready is. called_so_far i (k.called i ready is);
    all = λ i lt. subst (λ (l : List ℕ). IsFrom l 0 i) (sym k.all)
        (h.all i (subst (λ (l : List (Place M S)). i < length l) k.places lt));
    free = λ i place lt is. h.free i place (subst (λ (n : ℕ). i < n) k.free lt)
        (subst (λ (l : List (Place M S)). slice_get l i ≡ Some place) k.places is);
    within = subst (λ (n : ℕ). n ≤ length new.seats.places.items) (sym k.free)
        (subst (λ (l : List (Place M S)). old.free ≤ length l) (sym k.places) h.within);
  }
    where
      at_once : (old.seats.agenda.all ≡ true)
          → (new.seats.agenda.all ≡ old.seats.agenda.all) ⊎ (new.seats.agenda.all ≡ true)
          → new.seats.agenda.all ≡ true
      at_once e (inl f) = f ∙ e
      at_once e (inr f) = f

      rests_so : (i : ℕ) (place : Place M S) → IsSeenTo wants old.list.items old.seats.agenda i place
          → IsSeenTo wants new.list.items new.seats.agenda i place
      rests_so i place (inl l) = inl (k.listed i l)
      rests_so i place (inr (inl e)) = inr (inl (at_once e k.any))
      rests_so i place (inr (inr r)) =
          inr (inr (subst (λ (l : Limits). RestsAt wants l.times.items i place) (sym k.limits) r))

      from_old : (i : ℕ) → IsFrom old.list.items 0 i ⊎ (old.seats.agenda.all ≡ true)
          → IsFrom new.list.items 0 i ⊎ (new.seats.agenda.all ≡ true)
      from_old i (inl l) = inl (k.listed i l)
      from_old i (inr e) = inr (at_once e k.any)

      called_so_far : (i : ℕ) → (IsFrom new.list.items 0 i ⊎ (new.seats.agenda.all ≡ true))
          ⊎ ((before : Readiness) × (slice_get old.seats.calls.items i ≡ Some (Some before)))
          → IsFrom new.list.items 0 i ⊎ (new.seats.agenda.all ≡ true)
      called_so_far i (inl x) = x
      called_so_far i (inr (before, is)) = from_old i (h.called i before is)

  -- as they are called, what is not called rests: where those are called that are listed
  pub rests_listed : (inside : Inside M S) (seats : Seats M S) → IsLoopSound agrees wants inside
      → AreAllCalled inside.list.items inside.seats.calls.items seats.calls.items
      → inside.seats.agenda.all ≡ false → seats.places.items ≡ inside.seats.places.items
      → seats.agenda ≡ inside.seats.agenda
      → RestsUncalled wants seats
  rests_listed inside seats h called some places agenda i place is call =
      by (h.rests i place (subst (λ (l : List (Place M S)). slice_get l i ≡ Some place) places is))
    where
      by : IsSeenTo wants inside.list.items inside.seats.agenda i place
          → IsSeenTo wants seats.agenda.later.items seats.agenda i place
      by (inl l) = absurd (called.called i (among_all inside.list.items i l) call)
      by (inr (inl e)) = absurd (false≢true (sym some ∙ e))
      by (inr (inr r)) = inr (inr (subst (λ (a : Agenda). RestsAt wants a.limits.times.items i place) (sym agenda) r))

  -- nothing is due in a place by now
  abbrev pub IsStill : ℕ → Place M S → Type 0
  IsStill now Empty = ⊤
  IsStill now (Open slot) = is_due (wants slot.machine) slot.pace now ≡ false
  IsStill now (Pending watch) = is_watch_due watch now ≡ false
  IsStill now Broken = ⊤

  rests_by : (now : ℕ) (time : Option ℕ) (place : Place M S) → IsBefore now time → RestsUntil wants time place
      → IsStill now place
  rests_by now time Empty before rests = tt
  rests_by now time (Open slot) before rests = rests now before
  rests_by now time (Pending watch) before rests = rests now before
  rests_by now time Broken before rests = tt

  -- and nothing is due in it by now, where no time has come
  pub not_due_listed : (inside : Inside M S) (calls : List (Option Readiness)) (now : ℕ)
      → IsLoopSound agrees wants inside
      → AreAllCalled inside.list.items inside.seats.calls.items calls → inside.seats.agenda.all ≡ false
      → ComesLater inside.seats.agenda.limits.times.items now → (i : ℕ) (place : Place M S)
      → slice_get inside.seats.places.items i ≡ Some place → slice_get calls i ≡ Some None → IsStill now place
  not_due_listed inside calls now h called some early i place is call = by (h.rests i place is)
    where
      by : IsSeenTo wants inside.list.items inside.seats.agenda i place → IsStill now place
      by (inl l) = absurd (called.called i (among_all inside.list.items i l) call)
      by (inr (inl e)) = absurd (false≢true (sym some ∙ e))
      by (inr (inr (time, there, rests))) = rests_by now time place (early i time there) rests

  -- and where all are called, none isn't
  pub all_called : (inside : Inside M S) (places : List (Place M S)) (calls : List (Option Readiness))
      → IsLoopSound agrees wants inside → AreAllCalled inside.all.items inside.seats.calls.items calls
      → places ≡ inside.seats.places.items → (i : ℕ) (place : Place M S) → slice_get places i ≡ Some place
      → slice_get calls i ≡ Some None → ⊥
  all_called inside places calls h called same i place is call = called.called i (among_all inside.all.items i (h.all i
      (subst (λ (l : List (Place M S)). i < length l) same (slice_get_within places i place is)))) call

  pub rests_all : (inside : Inside M S) (seats : Seats M S) → IsLoopSound agrees wants inside
      → AreAllCalled inside.all.items inside.seats.calls.items seats.calls.items
      → seats.places.items ≡ inside.seats.places.items → RestsUncalled wants seats
  rests_all inside seats h called places i place is call =
      absurd (all_called inside seats.places.items seats.calls.items h called places i place is call)

  taken_still : (old new : List (Place M S)) (free : ℕ) → AreOccupied old free → StayOfKind old new
      → AreOccupied new free
  taken_still old new free h k i place lt is = by (place_of old i (omega (
    arith,
    k.len,
    slice_get_within new i place
        is,
  )))
    where
      by : (x : Place M S) × (slice_get old i ≡ Some x) → is_empty place ≡ false
      by (x, was) = still_taken x place (k.each i x place was is) (h i x lt was)

  -- all that a loop keeps, where its lines were not taken: something may be due in any place
  pub whole_refused : (old new : Inside M S) (seats : Seats M S) → IsLoopSound agrees wants old
      → AreSeatsSound agrees wants seats → StayOfKind old.seats.places.items seats.places.items
      → new.seats.places.items ≡ seats.places.items → new.seats.calls.items ≡ seats.calls.items
      → new.seats.tickets.items ≡ seats.tickets.items
      → new.seats.agenda.given ≡ seats.agenda.given → new.seats.agenda.ended ≡ seats.agenda.ended
      → new.seats.agenda.limits ≡ seats.agenda.limits → new.seats.agenda.all ≡ true → new.all.items ≡ old.all.items
      → new.free ≡ old.free → IsLoopSound agrees wants new
  whole_refused old new seats h standing taken places calls tickets given ended limits any all free = record {
    standing =
        standing_same seats new.seats standing places (ap (λ (l : List (Option Readiness)). length l) calls) tickets
        given ended limits;
    rests = λ i place is. inr (inl any);
    called = λ i ready is. inr any;
    all = λ i lt. subst (λ (l : List ℕ). IsFrom l 0 i) (sym all)
        (h.all i (omega (arith, taken.len, ap (λ (l : List (Place M S)). length l) places, lt)));
    free = λ i place lt is. taken_still old.seats.places.items seats.places.items old.free h.free taken i place
        (subst (λ (n : ℕ). i < n) free lt) (subst (λ (l : List (Place M S)). slice_get l i ≡ Some place) places is);
    within = omega (arith, free, taken.len, ap (λ (l : List (Place M S)). length l) places, h.within);
  }

  -- and where all that were called were served
  pub whole_served : (old mid new : Inside M S) → IsLoopSound agrees wants old → AreSeatsSound agrees wants mid.seats
      → RestsUncalled wants mid.seats → StayOfKind old.seats.places.items mid.seats.places.items
      → ((i : ℕ) (call : Option Readiness) → slice_get mid.seats.calls.items i ≡ Some call → call ≡ None)
      → mid.all.items ≡ old.all.items → mid.free ≡ old.free → HasTurnedOver mid new → IsLoopSound agrees wants new
  whole_served old mid new h standing rests taken none all free k = record {
    standing = standing_same mid.seats new.seats standing k.places (ap (λ (l : List
        (Option Readiness)). length l) k.calls) k.tickets k.given
        k.ended k.limits;
    rests = λ i place is. rests_so i place (subst (λ (l : List (Place M S)). slice_get l i ≡ Some place) k.places is);
    called = λ i ready is. absurd (none-some ready (sym (none i (Some ready)
        (subst (λ (l : List (Option Readiness)). slice_get l i ≡ Some (Some ready)) k.calls is))));
    all = λ i lt. subst (λ (l : List ℕ). IsFrom l 0 i) (sym (k.all ∙ all))
        (h.all i (omega (arith, taken.len, ap (λ (l : List (Place M S)). length l) k.places, lt)));
    free = λ i place lt is. taken_still old.seats.places.items mid.seats.places.items old.free h.free taken i place
        (subst (λ (n : ℕ). i < n) (k.free ∙ free) lt) (subst (λ (l : List (Place M S)). slice_get l i
        ≡ Some place) k.places is);
    within = omega (arith, k.free ∙ free, taken.len, ap (λ (l : List (Place M S)). length l) k.places, h.within);
  }
    where
      rests_so : (i : ℕ) (place : Place M S) → slice_get mid.seats.places.items i ≡ Some place
          → IsSeenTo wants new.list.items new.seats.agenda i place
      rests_so i place is = through (place_of mid.seats.calls.items i
          (omega (arith, standing.calls, slice_get_within mid.seats.places.items i place is)))
        where
          by : IsSeenTo wants mid.seats.agenda.later.items mid.seats.agenda i place
              → IsSeenTo wants new.list.items new.seats.agenda i place
          by (inl l) = inl (subst (λ (x : List ℕ). IsFrom x 0 i) (sym k.list) l)
          by (inr (inl e)) = inr (inl (k.any ∙ e))
          by (inr (inr r)) = inr (inr (subst (λ (l : Limits). RestsAt wants l.times.items i place) (sym k.limits) r))

          through : (call : Option Readiness) × (slice_get mid.seats.calls.items i ≡ Some call)
              → IsSeenTo wants new.list.items new.seats.agenda i place
          through (call, e) = by (rests i place is
              (subst (λ (o : Option Readiness). slice_get mid.seats.calls.items i ≡ Some o) (none i call e) e))

-- ---- the places that are called have their turn, and the others have one in which nothing is due

module _ {M S K : Type 0} (agrees : M → M → List Told → Type 0) (wants : M → Wants)
    (did : S → S → List Deed → Type 0) (heard : K → K → List (ℕ × List ℕ) → Type 0) where
  -- each that is called is among those that are served
  abbrev pub AllAmong : List ℕ → List (Option Readiness) → Type 0
  AllAmong these calls = (i : ℕ) (ready : Readiness) → slice_get calls i ≡ Some (Some ready)
      → IsAmong these (length these) i

  pub among_listed : (inside : Inside M S) (calls : List (Option Readiness)) (now : ℕ) → IsLoopSound agrees wants inside
      → AreAllCalled inside.list.items inside.seats.calls.items calls
      → inside.seats.agenda.all ≡ false → AllAmong inside.list.items calls
  among_listed inside calls now h called some i ready is = by (called.fresh i ready is)
    where
      from_whole : IsFrom inside.list.items 0 i ⊎ (inside.seats.agenda.all ≡ true)
          → IsAmong inside.list.items (length inside.list.items) i
      from_whole (inl l) = among_all inside.list.items i l
      from_whole (inr e) = absurd (false≢true (sym some ∙ e))

      by : (slice_get inside.seats.calls.items i ≡ Some (Some ready))
          ⊎ IsAmong inside.list.items (length inside.list.items) i
          → IsAmong inside.list.items (length inside.list.items) i
      by (inl was) = from_whole (h.called i ready was)
      by (inr among) = among

  pub among_every : (inside : Inside M S) (calls : List (Option Readiness)) → IsLoopSound agrees wants inside
      → length calls ≡ length inside.seats.places.items → AllAmong inside.all.items calls
  among_every inside calls h len i ready is = among_all inside.all.items i
      (h.all i (omega (arith, len, slice_get_within calls i (Some ready) is)))

  -- none is called behind it
  pub none_called : (now : ℕ) (these : List ℕ) (old new : Seats M S) (s t : K) → length old.calls.items
      ≡ length old.places.items
      → AreServed agrees wants did heard now these old new s t → AllAmong these old.calls.items
      → (i : ℕ) (call : Option Readiness) → slice_get new.calls.items i ≡ Some call → call ≡ None
  none_called now these old new s t len h among i d is = through
      (place_of old.places.items i (omega (arith, len, h.calls, slice_get_within new.calls.items i d is)))
      (place_of new.places.items i (omega (arith, len, h.calls, h.places, slice_get_within new.calls.items i d is)))
      (place_of old.calls.items i (omega (arith, h.calls, slice_get_within new.calls.items i d is)))
    where
      by : (c : Option Readiness) (x y : Place M S) → slice_get old.calls.items i ≡ Some c
          → IsServedOrNot agrees wants did now (IsAmong these (length these) i) c d x y (lines_at i h.all) → d ≡ None
      by c x y was (inl (none, _)) = none
      by None x y was (inr (untouched, same, _, _)) = same
      by (Some ready) x y was (inr (untouched, same, _, _)) = absurd (untouched (among i ready was))

      through : (x : Place M S) × (slice_get old.places.items i ≡ Some x)
          → (y : Place M S) × (slice_get new.places.items i ≡ Some y)
          → (c : Option Readiness) × (slice_get old.calls.items i ≡ Some c) → d ≡ None
      through (x, was) (y, now_is) (c, called) = by c x y called (h.each i x y c d was now_is called is)

  -- a place in which nothing is due, and a turn of it
  pub still_place : (now : ℕ) (x : Place M S) → IsStill agrees wants now x
      → HasPlaceTurn agrees wants did (record { read = false; write = false }) now x x []
  still_place now Empty rests = refl
  still_place now Broken rests = refl
  still_place now (Open slot) rests = still_turn agrees wants did now slot rests
  still_place now (Pending watch) rests = (still_watch watch now rests, refl)

  -- each has had its turn by its call
  pub turns_by_call : (now : ℕ) (these : List ℕ) (first old new : Seats M S) (s t : K)
      → length first.calls.items ≡ length first.places.items → length old.calls.items ≡ length first.calls.items
      → old.places.items ≡ first.places.items
      → ((i : ℕ) (ready : Readiness) → slice_get first.calls.items i ≡ Some (Some ready)
      → slice_get old.calls.items i ≡ Some (Some ready))
      → ((i : ℕ) (place : Place M S) → slice_get old.places.items i ≡ Some place
      → slice_get old.calls.items i ≡ Some None → IsStill agrees wants now place)
      → AreServed agrees wants did heard now these old new s t → AllAmong these old.calls.items
      → AtEachPlace heard (λ i x y lines. (call : Option Readiness) → slice_get first.calls.items i ≡ Some call
      → HasTurnByCall agrees wants did now call x y lines) first.places.items new.places.items s t
  turns_by_call now these first old new s t first_len len places stay rests h among = record {
    len = h.places ∙ ap (λ (l : List (Place M S)). length l) places;
    all = h.all;
    put = h.put;
    within = subst (λ (l : List (Place M S)). AreLinesOfPlaces (length l) h.all) places h.within;
    each = λ i x y was is call called. through i x y (subst (λ (l : List (Place M S)). slice_get l i ≡ Some x)
        (sym places) was) is call
        called (place_of old.calls.items i (omega (arith, len, slice_get_within first.calls.items i call called)))
        (place_of new.calls.items i (omega (arith, len, h.calls, slice_get_within first.calls.items i call called)));
  }
    where
      still : (i : ℕ) (x : Place M S) → slice_get old.places.items i ≡ Some x → slice_get old.calls.items i ≡ Some None
          → HasPlaceTurn agrees wants did (record { read = false; write = false }) now x x []
      still i x was none = still_place now x (rests i x was none)

      -- where it isn't called nothing was found of it
      uncalled : (i : ℕ) (call : Option Readiness) → slice_get first.calls.items i ≡ Some call
          → slice_get old.calls.items i ≡ Some None → (found : Readiness) → call ≡ Some found → ⊥
      uncalled i call called none found e = none-some found (same_Some None (Some found) (sym none ∙ stay i found
          (subst (λ (o : Option Readiness). slice_get first.calls.items i ≡ Some o) e called)))

      same_call : (i : ℕ) (call : Option Readiness) (ready : Readiness) → slice_get first.calls.items i ≡ Some call
          → slice_get old.calls.items i ≡ Some (Some ready) → (found : Readiness) → call ≡ Some found → ready ≡ found
      same_call i call ready called is found e = same_Some ready found (same_Some (Some ready) (Some found) (sym is
          ∙ stay i found (subst (λ (o : Option Readiness). slice_get first.calls.items i ≡ Some o) e called)))

      untouched_so : (i : ℕ) (x y : Place M S) (lines : List (List ℕ)) (call : Option Readiness)
          → slice_get old.places.items i ≡ Some x → slice_get first.calls.items i ≡ Some call
          → slice_get old.calls.items i ≡ Some None → y ≡ x → lines ≡ []
          → HasTurnByCall agrees wants did now call x y lines
      untouched_so i x y lines call was called none same nothing = inr (
        record { read = false; write = false },
        λ found e. absurd (uncalled i call called none found e),
        subst (λ (l : List (List ℕ)). HasPlaceTurn agrees wants did (record { read = false; write = false }) now x y l)
            (sym nothing)
            (subst (λ (p : Place M S). HasPlaceTurn agrees wants did (record { read = false; write = false }) now x p
            [])
            (sym same) (still i x was none)),
      )

      by : (i : ℕ) (x y : Place M S) (lines : List (List ℕ)) (call c d : Option Readiness)
          → slice_get old.places.items i ≡ Some x → slice_get first.calls.items i ≡ Some call
          → slice_get old.calls.items i ≡ Some c
          → IsServedOrNot agrees wants did now (IsAmong these (length these) i) c d x y lines
          → HasTurnByCall agrees wants did now call x y lines
      by i x y lines call None d was called is (inl (_, (same, nothing))) =
          untouched_so i x y lines call was called is same nothing
      by i x y lines call None d was called is (inr (_, _, same, nothing)) =
          untouched_so i x y lines call was called is same nothing
      by i x y lines call (Some ready) d was called is (inl (_, inl turn)) =
          inr (ready, λ found e. same_call i call ready called is found e, turn)
      by i x y lines call (Some ready) d was called is (inl (_, inr ended)) = inl ended
      by i x y lines call (Some ready) d was called is (inr (untouched, _, _, _)) =
          absurd (untouched (among i ready is))

      through : (i : ℕ) (x y : Place M S) → slice_get old.places.items i ≡ Some x → slice_get new.places.items i
          ≡ Some y
          → (call : Option Readiness) → slice_get first.calls.items i ≡ Some call
          → (c : Option Readiness) × (slice_get old.calls.items i ≡ Some c)
          → (d : Option Readiness) × (slice_get new.calls.items i ≡ Some d)
          → HasTurnByCall agrees wants did now call x y (lines_at i h.all)
      through i x y was is call called (c, c_is) (d, d_is) =
          by i x y (lines_at i h.all) call c d was called c_is (h.each i x y c d was is c_is d_is)

  -- so they were served, where those that were kept for later are listed then
  pub served_over : (now : ℕ) (old mid new : Inside M S) (s t : K)
      → AtEachPlace heard (λ i x y lines. (call : Option Readiness) → slice_get old.seats.calls.items i ≡ Some call
      → HasTurnByCall agrees wants did now call x y lines) old.seats.places.items mid.seats.places.items s t
      → GiveTurns old.seats.tickets.items old.seats.agenda.given mid.seats.tickets.items → HasTurnedOver mid new
      → HasServedCalled agrees wants did heard now old new s t
  served_over now old mid new s t places turns k = record {
    places = subst (λ (l : List (Place M S)). AtEachPlace heard (λ i x y lines. (call : Option Readiness)
        → slice_get old.seats.calls.items i ≡ Some call → HasTurnByCall agrees wants did now call x y lines)
        old.seats.places.items l s t) (sym k.places) places;
    turns = subst (λ (l : List (Option ℕ)). GiveTurns old.seats.tickets.items old.seats.agenda.given l) (sym k.tickets)
        turns;
  }

-- ---- the places of a list are called, one after the other

pub calls_none : (these : List ℕ) (calls : List (Option Readiness)) → AreCalledTo these 0 calls calls
calls_none these calls = record {
  len = refl;
  stay = λ i ready is. is;
  called = λ i (j, lt, e) none. omega (arith, lt);
  fresh = λ i ready is. inl is;
}

module _ (these : List ℕ) (count at : ℕ) (first old new : List (Option Readiness))
    (is : slice_get these count ≡ Some at) (h : AreCalledTo these count first old) where
  among_more : (i : ℕ) → IsAmong these count i → IsAmong these (count + 1) i
  among_more i (j, lt, e) = (j, omega (arith, lt), e)

  this_one : IsAmong these (count + 1) at
  this_one = (count, omega arith, is)

  -- a number that is among one more is among these, or the one that was called
  among_cases : (i : ℕ) → IsAmong these (count + 1) i → IsAmong these count i ⊎ (i ≡ at)
  among_cases i (j, lt, e) = by (cases_eq j count)
    where
      by : (j ≡ count) ⊎ (j ≡ count → ⊥) → IsAmong these count i ⊎ (i ≡ at)
      by (inl same) = inr (sym (same_Some at i (sym is
          ∙ subst (λ (n : ℕ). slice_get these n ≡ Some i) same e)))
      by (inr other) = inl (j, omega (arith, lt, other), e)

  -- where it is called already, or there is none of its number
  pub calls_still : new ≡ old → (slice_get old at ≡ Some None → ⊥) → AreCalledTo these (count + 1) first new
  calls_still same some = subst (λ (l : List (Option Readiness)). AreCalledTo these (count + 1) first l) (sym same)
      (record {
        len = h.len;
        stay = h.stay;
        called = λ i among none. by i none (among_cases i among);
        fresh = λ i ready there. wider i (h.fresh i ready there);
      })
    where
      by : (i : ℕ) → slice_get old i ≡ Some None → IsAmong these count i ⊎ (i ≡ at) → ⊥
      by i none (inl among) = h.called i among none
      by i none (inr e) = some (subst (λ (n : ℕ). slice_get old n ≡ Some None) e none)

      wider : (i : ℕ) {ready : Readiness} → (slice_get first i ≡ Some (Some ready)) ⊎ IsAmong these count i
          → (slice_get first i ≡ Some (Some ready)) ⊎ IsAmong these (count + 1) i
      wider i (inl was) = inl was
      wider i (inr among) = inr (among_more i among)

  -- and where it is called now
  pub calls_next : (ready : Readiness) → slice_get old at ≡ Some None → new ≡ slice_set old at (Some ready)
      → AreCalledTo these (count + 1) first new
  calls_next ready none set = record {
    len = ap (λ (l : List (Option Readiness)). length l) set ∙ (length_set old at (Some ready) ∙ h.len);
    stay = λ i found was. stay_so i found (h.stay i found was);
    called = λ i among there. called_by i among (set_cases old at (Some ready) i None
        (subst (λ (l : List (Option Readiness)). slice_get l i ≡ Some None) set there));
    fresh = λ i found there. fresh_so i found (call_is old new at ready set i found there);
  }
    where
      stay_so : (i : ℕ) (found : Readiness) → slice_get old i ≡ Some (Some found) → slice_get new i ≡ Some (Some found)
      stay_so i found was = subst (λ (l : List (Option Readiness)). slice_get l i ≡ Some (Some found)) (sym set)
          (get_set_other old at i (Some ready) (λ e. none-some found (same_Some None (Some found) (sym none
          ∙ subst (λ (n : ℕ). slice_get old n ≡ Some (Some found)) e was))) ∙ was)

      called_by : (i : ℕ) → IsAmong these (count + 1) i
          → ((i ≡ at) × (None ≡ Some ready)) ⊎ ((i ≡ at → ⊥) × (slice_get old i ≡ Some None)) → ⊥
      called_by i among (inl (_, e)) = none-some ready e
      called_by i among (inr (other, was)) = by (among_cases i among)
        where
          by : IsAmong these count i ⊎ (i ≡ at) → ⊥
          by (inl before) = h.called i before was
          by (inr e) = other e

      fresh_so : (i : ℕ) (found : Readiness) → (i ≡ at) ⊎ (slice_get old i ≡ Some (Some found))
          → (slice_get first i ≡ Some (Some found)) ⊎ IsAmong these (count + 1) i
      fresh_so i found (inl e) = inr (subst (λ (n : ℕ). IsAmong these (count + 1) n) (sym e) this_one)
      fresh_so i found (inr was) = by (h.fresh i found was)
        where
          by : (slice_get first i ≡ Some (Some found)) ⊎ IsAmong these count i
              → (slice_get first i ≡ Some (Some found)) ⊎ IsAmong these (count + 1) i
          by (inl e) = inl e
          by (inr among) = inr (among_more i among)

  -- one more of the list
  pub calls_more : IsCalledOnce at old new → AreCalledTo these (count + 1) first new
  calls_more (inl (ready, none, set)) = calls_next ready none set
  calls_more (inr (same, some)) = calls_still same some
