-- One connection in a loop by itself, and what comes of the machine that is run over it.
use Rattle.std.proofs.Common.{◌≡◌, ◌∙◌, ℕ, ◌<◌, ◌≤◌, ◌⊎◌, true, List, [], ◌∷◌, ◌++◌, length, Option, Some, None}
use Rattle.std.proofs.Common.{slice_set}
use Rattle.std.proofs.Common.{refl, sym, ap, subst, arith, inl, inr}
use Rattle.std.specs.Bool.{⊤}
use Rattle.std.proofs.lemmas.Bool.{false≢true}
use Rattle.std.specs.List.{slice_get}
use Rattle.std.proofs.lemmas.Option.{same_Some, slice_get_within}
use Rattle.ws_machines.specs.Told.{Told}
use Rattle.ws_machines.specs.Machines.{Wants}
use Rattle.ws_loops.specs.Deeds.{Deed, all_told}
use Rattle.ws_loops.specs.Loops.{HasGoneOn}
use Rattle.ws_loops.specs.Sinks.{AreLinesOfPlaces, HasTakenLines, lines_at, said_at}
use Rattle.ws_loops.specs.declared.looping.Ending.{Ending}
use Rattle.ws_loops.specs.declared.looping.Ending.TheVariants as ending
use Rattle.ws_loops.specs.declared.places.Place.TheVariants.{Open}
use Rattle.ws_loops.specs.declared.slot.Slot.{Slot}
use Rattle.ws_networks.specs.Connecting.{AllMissed, HasConnected, IfDialled, IsDialled, KeepsTries, OneMade, only_place}
use Rattle.ws_networks.specs.Meetings.{HasEndedShowing, HasMet, HasMetAddresses, HasMetShowing, TakesOnly}
use Rattle.ws_networks.specs.NetworkLoops.{AreFree, AreOfPlaces, HasComeOn, HasBegunFor, HaveComeOn, IsMadeFor}
use Rattle.ws_networks.specs.NetworkLoops.{IsNetworkEnding, IsOverThere}
use Rattle.ws_networks.specs.NetworkLoops.{IsHandedOutAs, IsHandedOut, NetworkValue, Standing, begun_slot, standing_by}
use Rattle.ws_networks.specs.NetworkLoops.Standing.{Broke, Free, Lost, Served, Trying}
use Rattle.ws_networks.specs.Networks.{HasAdded, NetworkDeed, deeds_at}
use Rattle.ws_networks.specs.Networks.NetworkDeed.{Found, NotFound}
use Rattle.ws_networks.specs.declared.bounds.Bounds.{Bounds}
use Rattle.ws_networks.specs.declared.dialing.Dialled.{Dialled}
use Rattle.ws_networks.specs.declared.dialing.Dialled.TheVariants as dialled
use Rattle.ws_networks.specs.declared.dialing.Missed.{Missed}
use Rattle.ws_networks.specs.declared.dialing.Missed.TheVariants as miss
use Rattle.ws_networks.specs.declared.network_loop.Taken.{Taken}
use Rattle.ws_networks.specs.declared.network_loop.Taken.TheVariants as taken
use Rattle.ws_networks.specs.declared.bounds.Limits.{Limits}
use Rattle.ws_networks.specs.Bounds.{bounds_from}
use Rattle.ws_networks.specs.declared.meeting.Met.{Met}
use Rattle.ws_networks.specs.declared.meeting.Met.TheVariants.{Ended, NotMade}
use Rattle.ws_loops.proofs.SinkLemmas.{only_within, put_nothing}
use Rattle.ws_networks.proofs.AddLemmas.{added_then}
use Rattle.ws_networks.proofs.ComeLemmas.{none_last, only_deeds}
use Rattle.ws_networks.proofs.EachLemmas.{missed_until}

module _ {M S A W : Type 0} where
  -- in the only place nothing stands at first
  pub first_free : (standings : List (Standing M S A W)) → length standings ≡ 1 → AreFree standings
      → slice_get standings 0 ≡ Some Free
  first_free [] len none = absurd (omega (arith, len))
  first_free (x ∷ standings) len none = ap (λ (y : Standing M S A W). Some y) (none 0 x refl)

  -- and then what has come of its connection
  pub only_one : (standings after : List (Standing M S A W)) (x : Standing M S A W) → length standings ≡ 1
      → after ≡ slice_set standings 0 x → after ≡ x ∷ []
  only_one [] after x len put = absurd (omega (arith, len))
  only_one (y ∷ []) after x len put = put
  only_one (y ∷ z ∷ standings) after x len put = absurd (omega (arith, len))

-- ---- what came of it

module _ {M S A W N K E : Type 0} (agrees : M → M → List Told → Type 0) (wants : M → Wants)
    (gives : M → List Told → E → Type 0) (did : S → S → List Deed → Type 0)
    (heard : K → K → List (ℕ × List ℕ) → Type 0) (does : N → N → List (NetworkDeed A W) → Type 0) (bounds : Bounds)
    (from now mid to : ℕ) (le : from ≤ now) (same : now ≡ mid) (addresses : List A) (machine : M) (first : List (Standing M S A W))
    (opened : NetworkValue M A S W) (last : NetworkValue M A S W) (n m o : N) (s t : K) (len : length first ≡ 1)
    (begun : HasBegunFor did does only_place addresses bounds machine now first opened.standings n m)
    (ran_on : HaveComeOn agrees wants did heard does mid to opened.standings last.standings s t m o)
    (happened : Ending) (ended : IsNetworkEnding wants None to last happened) where
  abbrev pub ran : HaveComeOn agrees wants did heard does now to opened.standings last.standings s t m o
  ran = subst (λ (k : ℕ). HaveComeOn agrees wants did heard does k to opened.standings last.standings s t m o) (sym same)
      ran_on

  -- how its place stood once it was begun
  abbrev pub start : Standing M S A W
  start = standing_by machine bounds now begun.came

  starts : opened.standings ≡ start ∷ []
  starts = only_one first opened.standings start len begun.stands

  abbrev pub deeds : List (NetworkDeed A W)
  deeds = begun.dialled.deeds ++ ran.deeds

  pub added : HasAdded does n o deeds
  added = added_then does n m o begun.dialled.deeds ran.deeds begun.dialled.added ran.added

  only : deeds_at 0 ran.deeds ≡ ran.deeds
  only = only_deeds ran.deeds (subst (λ (l : List (Standing M S A W)). AreOfPlaces (length l) ran.deeds)
      starts ran.own)

  -- what came of it by the deeds of both, with its lines
  abbrev pub shown : List (List ℕ)
  shown = lines_at 0 ran.lines

  just_these : ran.lines ≡ said_at 0 shown
  just_these = only_within ran.lines (subst (λ (l : List (Standing M S A W)). AreLinesOfPlaces (length l) ran.lines)
      starts ran.within)

  comes : (x : Standing M S A W) → slice_get last.standings 0 ≡ Some x
      → HasComeOn agrees wants did now to 0 start x shown ran.deeds
  comes x is = subst (λ (l : List (NetworkDeed A W)). HasComeOn agrees wants did now to 0 start x shown l) only
      (ran.each 0 start x (ap (λ (l : List (Standing M S A W)). slice_get l 0) starts) is)

  -- the place is there still
  pub last_len : 0 < length last.standings
  last_len = omega (arith, ran.len, ap (λ (l : List (Standing M S A W)). length l) starts)

  -- what was done for it first has brought it so far
  so_far : IsDialled only_place from now bounds addresses begun.came
      begun.dialled.deeds
  so_far = begun.dialled.dialled from [] (le, refl)

  -- something stands there
  not_free : (came : Dialled A S W)
      → HasComeOn agrees wants did now to 0 (standing_by machine bounds now came) Free shown ran.deeds → ⊥
  not_free (dialled.Made stream) h = h
  not_free (dialled.Waits dial) h = h
  not_free (dialled.Missed why) h = h

  there : (x : Standing M S A W) → slice_get last.standings 0 ≡ Some x → x ≡ Free → ⊥
  there x is e = not_free begun.came (subst (λ (y : Standing M S A W). HasComeOn agrees wants did now to 0 start y shown
      ran.deeds) e (comes x is))

  -- and it has ended
  over : (x : Standing M S A W) → slice_get last.standings 0 ≡ Some x → IsOverThere wants x
  over x is = by happened ended
    where
      by : (e : Ending) → IsNetworkEnding wants None to last e → IsOverThere wants x
      by ending.TooLate (late, none) = absurd (false≢true late)
      by ending.NoSlot none = absurd (there x is (none 0 x is))
      by (ending.Ended at) ((y, y_is, done), first_one) =
          let at_0 : at ≡ 0 = omega (
            arith,
            slice_get_within last.standings at y y_is,
            ran.len,
            ap (λ (l : List (Standing M S A W)). length l) starts,
          ) in
          subst (λ (z : Standing M S A W). IsOverThere wants z)
          (same_Some y x (sym (subst (λ (k : ℕ). slice_get last.standings k ≡ Some y) at_0 y_is) ∙ is)) done

  -- what was handed out
  abbrev is_slot : Taken M S W → Type 0
  is_slot (taken.Slot slot) = ⊤
  is_slot _ = ⊥

  abbrev is_missed : Taken M S W → Type 0
  is_missed (taken.Missed why) = ⊤
  is_missed _ = ⊥

  abbrev slot_or : Slot M S → Taken M S W → Slot M S
  slot_or s (taken.Slot slot) = slot
  slot_or s _ = s

  abbrev why_or : Missed W → Taken M S W → Missed W
  why_or w (taken.Missed why) = why
  why_or w _ = w

  slot_is : (x : Standing M S A W) (slot : Slot M S) → IsHandedOutAs agrees wants x (taken.Slot slot) → x ≡ Served slot
  slot_is Free slot e = absurd (subst (λ (t : Taken M S W). is_slot t) e tt)
  slot_is Broke slot e = absurd (subst (λ (t : Taken M S W). is_slot t) e tt)
  slot_is (Trying m dial) slot e = absurd (subst (λ (t : Taken M S W). is_slot t) e tt)
  slot_is (Lost why) slot e = absurd (subst (λ (t : Taken M S W). is_slot t) e tt)
  slot_is (Served other) slot (e, able) = ap (λ (z : Slot M S). Served z)
      (sym (ap (λ (t : Taken M S W). slot_or slot t) e))

  missed_is : (x : Standing M S A W) (why : Missed W) → IsHandedOutAs agrees wants x (taken.Missed why) → x ≡ Lost why
  missed_is Free why e = absurd (subst (λ (t : Taken M S W). is_missed t) e tt)
  missed_is Broke why e = absurd (subst (λ (t : Taken M S W). is_missed t) e tt)
  missed_is (Trying m dial) why e = absurd (subst (λ (t : Taken M S W). is_missed t) e tt)
  missed_is (Served slot) why (e, able) = absurd (subst (λ (t : Taken M S W). is_missed t) e tt)
  missed_is (Lost other) why e = ap (λ (w : Missed W). Lost w) (sym (ap (λ (t : Taken M S W). why_or why t) e))

  pub slot_done : (slot : Slot M S) → IsHandedOut agrees wants last.standings 0 (taken.Slot slot)
      → (wants slot.machine).done ≡ true
  slot_done slot (x, is, took) = over (Served slot) (is ∙ ap (λ (y : Standing M S A W). Some y) (slot_is x slot took))

  -- the machine was run over it since it was made, and its lines were taken
  abbrev IsSince : ℕ → E → S → Type 0
  IsSince made end stream = (since : ℕ) × (made ≤ since)
      × HasEndedShowing heard s t agrees wants gives did bounds since to machine end stream

  ran_so : (made : ℕ) (stream : S) (slot : Slot M S) → did stream stream []
      → HasGoneOn agrees wants did made to (Open (begun_slot machine stream bounds made)) (Open slot) shown
      → (end : E) → agrees machine machine [] → ((first_one : M) (told : List Told)
      → agrees first_one slot.machine told → gives first_one told end) → (wants slot.machine).done ≡ true
      → IsSince made end slot.stream
  ran_so made stream slot fresh (events, run, are_shown) end untold gives_it done = (
    made,
    omega arith,
    record {
      ended = record {
        first = stream;
        happened = events;
        last = slot;
        run = run;
        is_last = refl;
        done = done;
        is_end = gives_it machine (all_told events) (run.told machine [] untold);
        was_done = run.done stream [] fresh;
      };
      takes = subst (λ (l : List (ℕ × List ℕ)). HasTakenLines heard s t l)
          (just_these ∙ ap (λ (l : List (List ℕ)). said_at 0 l) (sym are_shown)) ran.put;
    },
  )

  abbrev WasMet : ℕ → Slot M S → Type 0
  WasMet made slot = OneMade only_place bounds from made addresses deeds
      × ((end : E) → agrees machine machine [] → ((first_one : M) (told : List Told) → agrees first_one slot.machine told
      → gives first_one told end) → (wants slot.machine).done ≡ true → IsSince made end slot.stream)

  slot_by : (came : Dialled A S W) (slot : Slot M S)
      → IsDialled only_place from now bounds addresses came begun.dialled.deeds → KeepsTries bounds addresses came
      → IfDialled came (λ stream. did stream stream [])
      → HasComeOn agrees wants did now to 0 (standing_by machine bounds now came) (Served slot) shown ran.deeds
      → (made : ℕ) × WasMet made slot
  slot_by (dialled.Made stream) slot far kept fresh (gone, none) = (
    now,
    (
      subst (λ (l : List (NetworkDeed A W)). OneMade only_place bounds from now addresses l)
          (sym (none_last begun.dialled.deeds ran.deeds none)) far,
      ran_so now stream slot fresh gone,
    ),
  )
  slot_by (dialled.Waits dial) slot far (same_ones, alike) fresh made = (
    made.made,
    (
      subst (λ (b : Bounds). OneMade only_place b from made.made addresses deeds) alike
          (subst (λ (l : List A). OneMade only_place dial.tries.bounds from made.made l deeds) same_ones
          (made.was_made from begun.dialled.deeds far)),
      ran_so made.made made.stream slot made.fresh (subst (λ (b : Bounds). HasGoneOn agrees wants did made.made to
          (Open (begun_slot machine made.stream b made.made)) (Open slot) shown) alike made.ran),
    ),
  )
  slot_by (dialled.Missed why) slot far kept fresh come = absurd come

  pub met_slot : (slot : Slot M S) → IsHandedOut agrees wants last.standings 0 (taken.Slot slot) → (end : E)
      → agrees machine machine [] → ((first_one : M) (told : List Told) → agrees first_one slot.machine told
      → gives first_one told end)
      → HasMetAddresses heard s t agrees wants gives did does bounds from to n o addresses machine
      (Ended end slot.stream)
  met_slot slot (x, is, took) end untold gives_it =
      let here = is ∙ ap (λ (y : Standing M S A W). Some y) (slot_is x slot took) in
      let (made, (one, since)) = slot_by begun.came slot so_far begun.dialled.kept begun.fresh
      (comes (Served slot) here) in
      (deeds, made, added, one, since end untold gives_it (over (Served slot) here))

  -- none was made
  missed_by : (came : Dialled A S W) (why : Missed W)
      → IsDialled only_place from now bounds addresses came begun.dialled.deeds → KeepsTries bounds addresses came
      → HasComeOn agrees wants did now to 0 (standing_by machine bounds now came) (Lost why) shown ran.deeds
      → (shown ≡ []) × AllMissed only_place bounds from to addresses why deeds
  missed_by (dialled.Made stream) why far kept come = absurd come
  missed_by (dialled.Waits dial) why far (same_ones, alike) (none, missed) = (
    none,
    subst (λ (b : Bounds). AllMissed only_place b from to addresses why deeds) alike
        (subst (λ (l : List A). AllMissed only_place dial.tries.bounds from to l why deeds) same_ones
        (missed from begun.dialled.deeds far)),
  )
  missed_by (dialled.Missed other) why far kept (is, none, nothing) = (
    none,
    subst (λ (w : Missed W). AllMissed only_place bounds from to addresses w deeds) (sym is)
        (subst (λ (l : List (NetworkDeed A W)). AllMissed only_place bounds from to addresses other l)
        (sym (none_last begun.dialled.deeds ran.deeds nothing)) (record {
          misses = far.misses;
          tried = missed_until only_place bounds from now to addresses far.misses begun.dialled.deeds ran.later far.tried;
          first = far.first;
        })),
  )

  pub met_missed : (why : Missed W) → IsHandedOut agrees wants last.standings 0 (taken.Missed why)
      → HasMetAddresses {M = M} {S = S} {A = A} {W = W} {N = N} {E = E} {K = K} heard s t agrees wants gives did does
      bounds from to n o addresses machine (NotMade why)
  met_missed why (x, is, took) =
      let here = is ∙ ap (λ (y : Standing M S A W). Some y) (missed_is x why took) in
      let (none, missed) = missed_by begun.came why so_far begun.dialled.kept (comes (Lost why) here) in (
        subst (λ (l : List (ℕ × List ℕ)). HasTakenLines heard s t l)
            (just_these ∙ ap (λ (l : List (List ℕ)). said_at 0 l) none) ran.put,
        (deeds, added, missed),
      )

  -- nothing else is handed out
  abbrev is_nothing : Taken M S W → Type 0
  is_nothing taken.Nothing = ⊤
  is_nothing _ = ⊥

  abbrev is_under_way : Taken M S W → Type 0
  is_under_way taken.UnderWay = ⊤
  is_under_way _ = ⊥

  pub never_nothing : IsHandedOut agrees wants last.standings 0 taken.Nothing → ⊥
  never_nothing (x, is, took) = by x is took
    where
      by : (x : Standing M S A W) → slice_get last.standings 0 ≡ Some x → IsHandedOutAs agrees wants x taken.Nothing → ⊥
      by Free is e = there Free is refl
      by Broke is e = subst (λ (t : Taken M S W). is_nothing t) e tt
      by (Trying m dial) is e = subst (λ (t : Taken M S W). is_nothing t) e tt
      by (Lost why) is e = subst (λ (t : Taken M S W). is_nothing t) e tt
      by (Served slot) is (e, able) = subst (λ (t : Taken M S W). is_nothing t) e tt

  pub never_under_way : IsHandedOut agrees wants last.standings 0 taken.UnderWay → ⊥
  never_under_way (x, is, took) = by x is took
    where
      by : (x : Standing M S A W) → slice_get last.standings 0 ≡ Some x → IsHandedOutAs agrees wants x taken.UnderWay → ⊥
      by Free is e = there Free is refl
      by Broke is e = subst (λ (t : Taken M S W). is_under_way t) e tt
      by (Trying m dial) is e = over (Trying m dial) is
      by (Lost why) is e = subst (λ (t : Taken M S W). is_under_way t) e tt
      by (Served slot) is (e, able) = subst (λ (t : Taken M S W). is_under_way t) e tt

  pub never_other : (came : Taken M S W) → (came ≡ taken.Nothing) ⊎ (came ≡ taken.UnderWay)
      → IsHandedOut agrees wants last.standings 0 came → ⊥
  never_other came (inl e) h = never_nothing (subst (λ (t : Taken M S W). IsHandedOut agrees wants last.standings 0 t) e h)
  never_other came (inr e) h =
      never_under_way (subst (λ (t : Taken M S W). IsHandedOut agrees wants last.standings 0 t) e h)

-- ---- at a name

-- nothing was taken
pub nothing_taken : {K : Type 0} (heard : K → K → List (ℕ × List ℕ) → Type 0) (s : K) → TakesOnly heard s s []
nothing_taken heard s = put_nothing heard s

module _ {M S A W N E K : Type 0} (agrees : M → M → List Told → Type 0) (wants : M → Wants)
    (gives : M → List Told → E → Type 0) (did : S → S → List Deed → Type 0)
    (does : N → N → List (NetworkDeed A W) → Type 0) (heard : K → K → List (ℕ × List ℕ) → Type 0) (s t : K)
    (bounds : Bounds) (limits : Limits) (from begun to : ℕ) (le : from ≤ begun) (old mid new : N) (name : List ℕ)
    (machine : M) (bound : bounds ≡ bounds_from limits begun) where
  -- its addresses were found, and then tried
  pub met_named : (addresses : List A) (met : Met E S W) → HasAdded does old mid (Found name addresses ∷ [])
      → HasMetAddresses heard s t agrees wants gives did does bounds begun to mid new addresses machine met
      → HasMetShowing heard s t agrees wants gives did does limits from to old new name machine met
  met_named addresses (NotMade why) found (takes, (deeds, added, tried)) = (
    takes,
    (
      begun,
      le,
      subst (λ (b : Bounds). HasConnected does only_place b begun to old new name (Some why)) bound (
        Found name addresses ∷ deeds,
        added_then does old mid new (Found name addresses ∷ []) deeds found added,
        inr (addresses, deeds, refl, tried),
      ),
    ),
  )
  met_named addresses (Ended end stream) found (deeds, made, added, tried, (since, later, ended)) = (
    begun,
    made,
    le,
    subst (λ (b : Bounds). HasConnected does only_place b begun made old new name None) bound (
      Found name addresses ∷ deeds,
      added_then does old mid new (Found name addresses ∷ []) deeds found added,
      inr (addresses, deeds, refl, tried),
    ),
    (
      since,
      later,
      subst (λ (b : Bounds). HasEndedShowing heard s t agrees wants gives did b since to machine end stream) bound ended,
    ),
  )

  -- it has none
  pub met_nameless : (cause : W) → HasAdded does old new (NotFound name cause ∷ []) → TakesOnly heard s t []
      → HasMetShowing {M = M} {S = S} {A = A} {W = W} {N = N} {E = E} {K = K} heard s t agrees wants gives did does limits
      from to old new name machine (NotMade (miss.Failed cause))
  met_nameless cause added takes = (
    takes,
    (
      begun,
      le,
      subst (λ (b : Bounds). HasConnected does only_place b begun to old new name (Some (miss.Failed cause))) bound
          (NotFound name cause ∷ [], added, inl (cause, refl, refl)),
    ),
  )

module _ {M S K : Type 0} (agrees : M → M → List Told → Type 0) (wants : M → Wants) (did : S → S → List Deed → Type 0)
    (heard : K → K → List (ℕ × List ℕ) → Type 0) (old_sink new_sink : K) where
  -- without the lines
  pub met_of : {A W N E : Type 0} (gives : M → List Told → E → Type 0)
      (does : N → N → List (NetworkDeed A W) → Type 0) (limits : Limits) (from to : ℕ) (old new : N) (name : List ℕ)
      (machine : M) (met : Met E S W)
      → HasMetShowing heard old_sink new_sink agrees wants gives did does limits from to old new name machine met
      → HasMet agrees wants gives did does limits from to old new name machine met
  met_of gives does limits from to old new name machine (NotMade why) (takes, h) = h
  met_of gives does limits from to old new name machine (Ended end stream)
      (begun, made, later, connected, (now, after, h)) = (begun, made, later, connected, (now, after, h.ended))
