-- Whatever is read or played goes on in its place, and who is left is seen out.
use Rattle.std.proofs.Common.{◌≡◌, ◌∙◌, ℕ, ◌≤◌, ◌⊎◌, true, false, List, [], ◌++◌, refl, Option, Some, None}
use Rattle.std.proofs.Common.{slice_set, sym, ap, subst, arith, inl, inr, nat_eq, ◌≢◌, IfOk, min, ◌+◌, ◌-◌, ◌^◌}
use Rattle.std.specs.Bool.{⊤}
use Rattle.std.specs.List.{slice_get}
use Rattle.std.specs.Prelude.{Result}
use Rattle.std.proofs.lemmas.Bool.{false≢true, le-leb, leb-true}
use Rattle.std.proofs.lemmas.Bool.Decides.{eqb_tells}
use Rattle.std.proofs.lemmas.Option.{same_Some, slice_get_within}
use Rattle.ws_machines.specs.Told.{Told}
use Rattle.ws_machines.specs.Machines.{Wants}
use Rattle.ws_loops.specs.Deeds.{Deed}
use Rattle.ws_loops.specs.Loops.{AreServedInTime, HasGoneOn, HaveRun}
use Rattle.ws_loops.specs.Looping.{IfRoundMade, IsEnding, LoopValue}
use Rattle.ws_loops.specs.Paces.{has_ended_by, passes_at}
use Rattle.ws_loops.specs.Places.{AreEmpty, IfOpen, IsOverAt, IsPlaceOver}
use Rattle.ws_loops.specs.Sinks.{lines_at}
use Rattle.ws_loops.specs.declared.looping.Ending.{Ending}
use Rattle.ws_loops.specs.declared.looping.Ending.TheVariants as ending
use Rattle.ws_loops.specs.declared.places.Place.{Place}
use Rattle.ws_loops.specs.declared.places.Place.TheVariants.{Broken, Empty, Open, Pending}
use Rattle.ws_loops.specs.declared.slot.Slot.{Slot}
use Rattle.ws_loops.proofs.PlaceLemmas.{get_set_other, place_of}
use Rattle.ws_loops.proofs.RoundLemmas.{gone_then, still_goes_on}
use Rattle.ws_clients.specs.Clients.{AllGoOn, AreSeenOut, BusyStay, ClientsValue, IsBusyOf, IsLeaver, IsSeenOut}
use Rattle.ws_clients.specs.Clients.{IsOverAs, IsServedOn, RestBut, ServesOn, TellsPlace}
use Rattle.ws_clients.specs.Clients.{is_busy}
use Rattle.ws_clients.specs.Talks.{IsTalkOf, agrees_talk, wants_talk}
use Rattle.ws_clients.specs.declared.clients.Event.{Event}
use Rattle.ws_clients.specs.declared.talking.Talk.{Talk}
use Rattle.ws_clients.specs.declared.talking.Talk.TheVariants.{Admits, Leaves, Plays}
use Rattle.ws_clients.proofs.KindLemmas.{SameTalk, talked_on}

-- ---- all other places

module _ {M S : Type 0} where
  pub rest_set : (old new : List (Place M S)) (at : ℕ) (y : Place M S) → new ≡ slice_set old at y → RestBut at old new
  rest_set old new at y set other far =
      ap (λ (l : List (Place M S)). slice_get l other) set ∙ get_set_other old at other y far

  pub rest_same : (at : ℕ) (places : List (Place M S)) → RestBut at places places
  rest_same at places other far = refl

  pub rest_then : (at : ℕ) (a b c : List (Place M S)) → RestBut at a b → RestBut at b c → RestBut at a c
  rest_then at a b c h k other far = k other far ∙ h other far

-- ---- whatever is read or played

-- nothing is told of a place where nothing is told
tells_none : {M S : Type 0} (E W : Type 0) (at : ℕ) (place : Place (Talk M) S)
    → TellsPlace {M = M} {S = S} {E = E} {W = W} at place None → ⊥
tells_none E W at Empty tells = tells
tells_none E W at (Open slot) tells = tells
tells_none E W at (Pending watch) tells = tells
tells_none E W at Broken tells = tells

-- what stood in this place is told
pub tells_at : {M S E W : Type 0} (at : ℕ) (places : List (Place (Talk M) S)) (x : Place (Talk M) S)
    (told : Option (Event E W)) → slice_get places at ≡ Some x → (IsServedOn x → TellsPlace at x told)
    → (was : Place (Talk M) S) → slice_get places at ≡ Some was → IsServedOn was → TellsPlace at was told
tells_at {M} {S} at places x told x_is tells was is on =
    let same : x ≡ was = same_Some x was (sym x_is ∙ is) in
    subst (λ (p : Place (Talk M) S). TellsPlace at p told) same
    (tells (subst (λ (p : Place (Talk M) S). IsServedOn p) (sym same) on))

-- what is read or played in a place stands there still, or it is told what came of it
abbrev pub Settles : {M S E W : Type 0} → List (Place (Talk M) S) → List (Place (Talk M) S) → Option (Event E W)
    → Type 0
Settles {M} {S} old new told = (at : ℕ) (was : Place (Talk M) S) → slice_get old at ≡ Some was → IsServedOn was
    → (slice_get new at ≡ Some was) ⊎ TellsPlace at was told

module _ {M S E W : Type 0} (old new : List (Place (Talk M) S)) (told : Option (Event E W)) where
  pub settles_still : new ≡ old → Settles old new told
  settles_still same at was is on = inl (ap (λ (l : List (Place (Talk M) S)). slice_get l at) same ∙ is)

  -- in one place that is told
  pub settles_ended : (at : ℕ) → RestBut at old new
      → ((was : Place (Talk M) S) → slice_get old at ≡ Some was → IsServedOn was → TellsPlace at was told)
      → Settles old new told
  settles_ended at rest tells other was is on = by (eqb_tells other at)
    where
      by : ((nat_eq other at ≡ true) × (other ≡ at)) ⊎ ((nat_eq other at ≡ false) × (other ≢ at))
          → (slice_get new other ≡ Some was) ⊎ TellsPlace other was told
      by (inr far) = inl (rest other far.1 ∙ is)
      by (inl same) = inr (subst (λ (j : ℕ). TellsPlace j was told) (sym same.1)
          (tells was (subst (λ (j : ℕ). slice_get old j ≡ Some was) same.1 is) on))

  -- in a place that was empty something stands now
  pub settles_filled : (at : ℕ) → slice_get old at ≡ Some Empty → RestBut at old new → Settles old new told
  settles_filled at empty rest = settles_ended at rest
      (tells_at at old Empty told empty (λ on. absurd on))

module _ {M S : Type 0} (agrees : M → M → List Told → Type 0) (wants : M → Wants) (did : S → S → List Deed → Type 0)
  where
    leaver_before : (old new : Talk M) → SameTalk old new → IsLeaver new → IsLeaver old
    leaver_before (Leaves old) (Leaves new) same is = tt
    leaver_before (Admits old) (Leaves new) same is = absurd same
    leaver_before (Plays old) (Leaves new) same is = absurd same
    leaver_before old (Admits new) same is = absurd is
    leaver_before old (Plays new) same is = absurd is

    -- it is still read or played
    on_still : (from to : ℕ) (known : List (List ℕ)) (x y : Place (Talk M) S) (lines : List (List ℕ))
        → HasGoneOn (agrees_talk agrees) (wants_talk wants) did from to x y lines
        → ((slot : Slot (Talk M) S) → x ≡ Open slot → IsTalkOf agrees did known slot) → IsServedOn x → IsServedOn y
    on_still from to known Empty y lines h talks on = absurd on
    on_still from to known (Pending watch) y lines h talks on = absurd on
    on_still from to known Broken Empty lines h talks on = absurd h
    on_still from to known Broken (Open slot) lines h talks on = absurd h
    on_still from to known Broken (Pending watch) lines h talks on = absurd h
    on_still from to known Broken Broken lines h talks on = tt
    on_still from to known (Open slot) Empty lines h talks on = absurd h
    on_still from to known (Open slot) (Pending watch) lines h talks on = absurd h
    on_still from to known (Open slot) Broken lines h talks on = tt
    on_still from to known (Open slot) (Open next) lines h talks on = λ leaver.
        let (old, was, same) = talked_on agrees did (wants_talk wants) from to known (Open slot) next lines h talks in
        subst (λ (p : Place (Talk M) S). IsServedOn p) was on (leaver_before old.machine next.machine same leaver)

    pub all_run : {K : Type 0} (heard : K → K → List (ℕ × List ℕ) → Type 0) (from to : ℕ)
        (old new : List (Place (Talk M) S)) (s t : K)
        → HaveRun (agrees_talk agrees) (wants_talk wants) did heard from to old new s t
        → AllGoOn agrees wants did from to old new
    all_run heard from to old new s t h at was is =
        let (now, now_is) = place_of new at (omega (arith, h.len, slice_get_within old at was is)) in
        (now, lines_at at h.all, now_is, h.each at was now is now_is)

    -- it stands there so, or is told
    there_or_told : {E W : Type 0} (at : ℕ) (now : Place (Talk M) S) (places : List (Place (Talk M) S))
        (told : Option (Event E W)) → IsServedOn now → (slice_get places at ≡ Some now) ⊎ TellsPlace at now told
        → ((slice_get places at ≡ Some now) × IsServedOn now) ⊎ TellsPlace at now told
    there_or_told at now places told on (inl there) = inl (there, on)
    there_or_told at now places told on (inr tells) = inr tells

    -- all go on, and then this has come of one
    pub serves_now : {E W : Type 0} (from mid to : ℕ) (known : List (List ℕ)) (a b c : List (Place (Talk M) S))
        (told : Option (Event E W)) → mid ≤ to → AllGoOn agrees wants did from mid a b
        → ((i : ℕ) (slot : Slot (Talk M) S) → slice_get a i ≡ Some (Open slot) → IsTalkOf agrees did known slot)
        → Settles b c told → ServesOn agrees wants did from to a c told
    serves_now from mid to known a b c told le all talks settles at was is on =
        let (now, lines, now_is, goes) = all at was is in
        let on_now = on_still from mid known was now lines goes
        (λ slot same. talks at slot (is ∙ ap (λ (p : Place (Talk M) S). Some p) same)) on in (
          now,
          lines ++ [],
          gone_then (agrees_talk agrees) (wants_talk wants) did from mid to le was now now lines [] goes
              (still_goes_on (agrees_talk agrees) (wants_talk wants) did mid to now le),
          there_or_told at now c told on_now (settles at now now_is on_now),
        )

    -- and so far, where nothing is told
    abbrev pub StillServed : ℕ → ℕ → List (Place (Talk M) S) → List (Place (Talk M) S) → Type 0
    StillServed from to old new = (at : ℕ) (was : Place (Talk M) S) → slice_get old at ≡ Some was → IsServedOn was
        → (now : Place (Talk M) S) × (lines : List (List ℕ))
        × HasGoneOn (agrees_talk agrees) (wants_talk wants) did from to was now lines
        × (slice_get new at ≡ Some now) × IsServedOn now

    pub served_still : (from : ℕ) (places : List (Place (Talk M) S)) → StillServed from from places places
    served_still from places at was is on = (
      was,
      [],
      still_goes_on (agrees_talk agrees) (wants_talk wants) did from from was (omega arith),
      is,
      on,
    )

    pub served_then : {E W : Type 0} (from mid to : ℕ) (a b c : List (Place (Talk M) S)) (told : Option (Event E W))
        → mid ≤ to → StillServed from mid a b → ServesOn agrees wants did mid to b c told
        → ServesOn agrees wants did from to a c told
    served_then from mid to a b c told le h k at was is on =
        let (mid_place, one, goes, there, on_mid) = h at was is on in
        let (now, other, goes_on, end) = k at mid_place there on_mid in (
          now,
          one ++ other,
          gone_then (agrees_talk agrees) (wants_talk wants) did from mid to le was mid_place now one other goes goes_on,
          end,
        )

    pub served_none : {E W : Type 0} (from to : ℕ) (a b : List (Place (Talk M) S)) (told : Option (Event E W))
        → told ≡ None → ServesOn agrees wants did from to a b told → StillServed from to a b
    served_none {E} {W} from to a b told none h at was is on =
        by (subst (λ (t : Option (Event E W)). ServesOn agrees wants did from to a b t) none h at was is on)
      where
        by : (now : Place (Talk M) S) × (lines : List (List ℕ))
            × HasGoneOn (agrees_talk agrees) (wants_talk wants) did from to was now lines
            × (((slice_get b at ≡ Some now) × IsServedOn now) ⊎ TellsPlace {E = E} {W = W} at now None)
            → (now : Place (Talk M) S) × (lines : List (List ℕ))
            × HasGoneOn (agrees_talk agrees) (wants_talk wants) did from to was now lines
            × (slice_get b at ≡ Some now) × IsServedOn now
        by (now, lines, goes, inl (there, on_now)) = (now, lines, goes, there, on_now)
        by (now, lines, goes, inr tells) = absurd (tells_none E W at now tells)

    -- as it is seen from outside
    pub serves_seen : {E W F : Type 0} (seen value : ClientsValue M S) (places : List (Place (Talk M) S))
        (from to : ℕ) (result : Result (Event E W) F) → seen ≡ value
        → IfOk result (λ event. ServesOn agrees wants did from to seen.places places (Some event))
        → IfOk result (λ event. ServesOn agrees wants did from to value.places places (Some event))
    serves_seen {E} {W} seen value places from to result same h = subst (λ (v : ClientsValue M S).
        IfOk result (λ (event : Event E W). ServesOn agrees wants did from to v.places places (Some event))) same h

    pub ends_seen : {V F : Type 0} (seen value : ClientsValue M S) (from to : ℕ) (result : Result V F) → seen ≡ value
        → IfOk result (λ done. AreSeenOut agrees wants did from to seen.places)
        → IfOk result (λ done. AreSeenOut agrees wants did from to value.places)
    ends_seen {V} seen value from to result same h = subst (λ (v : ClientsValue M S).
        IfOk result (λ (done : V). AreSeenOut agrees wants did from to v.places)) same h

    -- ---- who is seen out

    -- what has ended; the time has come; or nobody is there
    pub over_as : (until : Option ℕ) (now : ℕ) (l : LoopValue (Talk M) S) (tickets : List (Option ℕ)) (e : Ending)
        → IsEnding (wants_talk wants) until now l e
        → IfRoundMade tickets e (AreServedInTime (agrees_talk agrees) (wants_talk wants) did now l.places)
        → IsOverAs agrees wants did until now l.places e
    over_as until now l tickets (ending.Ended at) h made = h.0
    over_as until now l tickets ending.TooLate h made = (h.0, made)
    over_as until now l tickets ending.NoSlot h made = h

    -- each of these has gone on so far, and stands in its place or has ended
    abbrev pub GoesOut : ℕ → ℕ → List (Place (Talk M) S) → List (Place (Talk M) S) → Type 0
    GoesOut from now old new = (at : ℕ) (slot : Slot (Talk M) S) → slice_get old at ≡ Some (Open slot)
        → is_busy slot.machine ≡ true → (place : Place (Talk M) S) × (lines : List (List ℕ)) × (by : ℕ) × (by ≤ now)
        × HasGoneOn (agrees_talk agrees) (wants_talk wants) did from by (Open slot) place lines
        × (IsPlaceOver (wants_talk wants) place ⊎ (slice_get new at ≡ Some place))

    pub out_now : (from now : ℕ) (old new : List (Place (Talk M) S)) → from ≤ now → BusyStay old new
        → GoesOut from now old new
    out_now from now old new le stay at slot is busy = (
      Open slot,
      [],
      from,
      le,
      still_goes_on (agrees_talk agrees) (wants_talk wants) did from from (Open slot) (omega arith),
      inr (stay at slot is busy),
    )

    pub out_run : (from now to : ℕ) (a b c : List (Place (Talk M) S)) → now ≤ to → GoesOut from now a b
        → AllGoOn agrees wants did now to b c → GoesOut from to a c
    out_run from now to a b c le h all at slot is busy = on (h at slot is busy)
      where
        on : (place : Place (Talk M) S) × (lines : List (List ℕ)) × (by : ℕ) × (by ≤ now)
            × HasGoneOn (agrees_talk agrees) (wants_talk wants) did from by (Open slot) place lines
            × (IsPlaceOver (wants_talk wants) place ⊎ (slice_get b at ≡ Some place))
            → (place : Place (Talk M) S) × (lines : List (List ℕ)) × (by : ℕ) × (by ≤ to)
            × HasGoneOn (agrees_talk agrees) (wants_talk wants) did from by (Open slot) place lines
            × (IsPlaceOver (wants_talk wants) place ⊎ (slice_get c at ≡ Some place))
        on (place, lines, by, before, goes, inl over) = (place, lines, by, omega (arith, before, le), goes, inl over)
        on (place, lines, by, before, goes, inr there) =
            let (next, more, next_is, goes_on) = all at place there in (
              next,
              (lines ++ []) ++ more,
              to,
              omega arith,
              gone_then (agrees_talk agrees) (wants_talk wants) did from now to le (Open slot) place next (lines ++ [])
                  more (gone_then (agrees_talk agrees) (wants_talk wants) did from by now before (Open slot) place place
                  lines [] goes (still_goes_on (agrees_talk agrees) (wants_talk wants) did by now place before)) goes_on,
              inr next_is,
            )

    -- it has ended, or stands there still
    over_or_there : (at other : ℕ) (b c : List (Place (Talk M) S)) (last place : Place (Talk M) S)
        → slice_get b at ≡ Some last → IsPlaceOver (wants_talk wants) last → RestBut at b c
        → slice_get b other ≡ Some place
        → ((nat_eq other at ≡ true) × (other ≡ at)) ⊎ ((nat_eq other at ≡ false) × (other ≢ at))
        → IsPlaceOver (wants_talk wants) place ⊎ (slice_get c other ≡ Some place)
    over_or_there at other b c last place last_is over rest there (inr far) = inr (rest other far.1 ∙ there)
    over_or_there at other b c last place last_is over rest there (inl same) =
        inl (subst (λ (p : Place (Talk M) S). IsPlaceOver (wants_talk wants) p)
        (same_Some last place (sym last_is ∙ subst (λ (j : ℕ). slice_get b j ≡ Some place) same.1 there)) over)

    -- one has ended
    pub out_end : (from now to at : ℕ) (a b c : List (Place (Talk M) S)) → now ≤ to → RestBut at b c
        → IsOverAt (wants_talk wants) b at → GoesOut from now a b → GoesOut from to a c
    out_end from now to at a b c le rest (last, last_is, last_over) h other slot is busy = on (h other slot is busy)
      where
        on : (place : Place (Talk M) S) × (lines : List (List ℕ)) × (by : ℕ) × (by ≤ now)
            × HasGoneOn (agrees_talk agrees) (wants_talk wants) did from by (Open slot) place lines
            × (IsPlaceOver (wants_talk wants) place ⊎ (slice_get b other ≡ Some place))
            → (place : Place (Talk M) S) × (lines : List (List ℕ)) × (by : ℕ) × (by ≤ to)
            × HasGoneOn (agrees_talk agrees) (wants_talk wants) did from by (Open slot) place lines
            × (IsPlaceOver (wants_talk wants) place ⊎ (slice_get c other ≡ Some place))
        on (place, lines, by, before, goes, inl over) = (place, lines, by, omega (arith, before, le), goes, inl over)
        on (place, lines, by, before, goes, inr there) = (
          place,
          lines,
          by,
          omega (arith, before, le),
          goes,
          over_or_there at other b c last place last_is last_over rest there (eqb_tells other at),
        )

    -- nobody is there any more
    pub out_all : (from to : ℕ) (old new : List (Place (Talk M) S)) → AreEmpty new → GoesOut from to old new
        → AreSeenOut agrees wants did from to old
    out_all from to old new empty h at slot is busy = on (h at slot is busy)
      where
        gone : (place : Place (Talk M) S) (lines : List (List ℕ)) (by : ℕ)
            → HasGoneOn (agrees_talk agrees) (wants_talk wants) did from by (Open slot) place lines → place ≡ Empty → ⊥
        gone place lines by goes same = subst (λ (p : Place (Talk M) S).
            HasGoneOn (agrees_talk agrees) (wants_talk wants) did from by (Open slot) p lines) same goes

        on : (place : Place (Talk M) S) × (lines : List (List ℕ)) × (by : ℕ) × (by ≤ to)
            × HasGoneOn (agrees_talk agrees) (wants_talk wants) did from by (Open slot) place lines
            × (IsPlaceOver (wants_talk wants) place ⊎ (slice_get new at ≡ Some place))
            → IsSeenOut agrees wants did from to slot
        on (place, lines, by, before, goes, inl over) = (place, lines, by, before, goes, inl over)
        on (place, lines, by, before, goes, inr there) = absurd (gone place lines by goes (empty at place there))

    -- the time has come
    pub out_late : (from since until to : ℕ) (old new : List (Place (Talk M) S)) → from ≤ since
        → until ≡ min (since + 2000) (2 ^ 64 - 1)
        → (has_ended_by (Some until) to ≡ true)
        × AreServedInTime (agrees_talk agrees) (wants_talk wants) did to new → GoesOut from to old new
        → AreSeenOut agrees wants did from to old
    out_late from since until to old new le is_until (late, served) h at slot is busy = on (h at slot is busy)
      where
        passed : has_ended_by (passes_at (Some 2000) from) to ≡ true
        passed = le-leb (min (from + 2000) (2 ^ 64 - 1)) to (omega (arith, le, is_until, leb-true until to late))

        on : (place : Place (Talk M) S) × (lines : List (List ℕ)) × (by : ℕ) × (by ≤ to)
            × HasGoneOn (agrees_talk agrees) (wants_talk wants) did from by (Open slot) place lines
            × (IsPlaceOver (wants_talk wants) place ⊎ (slice_get new at ≡ Some place))
            → IsSeenOut agrees wants did from to slot
        on (place, lines, by, before, goes, inl over) = (place, lines, by, before, goes, inl over)
        on (place, lines, by, before, goes, inr there) =
            (place, lines, by, before, goes, inr (passed, served at place there))

-- ---- who isn't seen out

module _ {M S : Type 0} where
  pub busy_same : (old new : List (Place (Talk M) S)) → new ≡ old → BusyStay old new
  busy_same old new same at slot is busy = ap (λ (l : List (Place (Talk M) S)). slice_get l at) same ∙ is

  -- what stood there was none of these
  pub busy_lost : (old new : List (Place (Talk M) S)) (at : ℕ) (x y : Place (Talk M) S) → slice_get old at ≡ Some x
      → IsBusyOf x None → new ≡ slice_set old at y → BusyStay old new
  busy_lost old new at x y x_is idle set other slot is busy = on (eqb_tells other at)
    where
      none : other ≡ at → ⊥
      none same = false≢true (sym (subst (λ (p : Place (Talk M) S). IfOpen p (λ slot. is_busy slot.machine ≡ false))
          (same_Some x (Open slot) (sym x_is ∙ subst (λ (j : ℕ). slice_get old j ≡ Some (Open slot)) same is)) idle)
          ∙ busy)

      on : ((nat_eq other at ≡ true) × (other ≡ at)) ⊎ ((nat_eq other at ≡ false) × (other ≢ at))
          → slice_get new other ≡ Some (Open slot)
      on (inl same) = absurd (none same.1)
      on (inr far) = rest_set old new at y set other far.1 ∙ is
