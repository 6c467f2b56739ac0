-- The line of errands: one more is begun, all come on, one is over, the first is handed out, and all are given up.
use Rattle.std.proofs.Common.{◌≡◌, ◌∙◌, ℕ, zero, suc, ◌+◌, ◌<◌, ◌≤◌, ◌⊎◌, ◌≢◌, true, false, List, [], ◌∷◌, ◌++◌}
use Rattle.std.specs.Prelude.{⊤}
use Rattle.std.proofs.Common.{Some, length, nat_eq, slice_set, refl, sym, ap, subst, inl, inr, arith}
use Rattle.std.specs.List.{slice_get}
use Rattle.std.proofs.lemmas.Bool.Decides.{eqb_tells}
use Rattle.std.proofs.lemmas.Option.{none-some, same_Some, slice_get_within}
use Rattle.ws_machines.specs.Told.{Told}
use Rattle.ws_machines.specs.Machines.{Wants}
use Rattle.ws_loops.specs.Deeds.{Deed}
use Rattle.ws_loops.proofs.PlaceLemmas.{get_front, get_last, get_set_other, get_set_same, length_set, place_of}
use Rattle.ws_loops.proofs.PlaceLemmas.{push_cases, set_cases}
use Rattle.ws_networks.specs.NetworkLoops.{AreFree, HaveComeOn, NoneIsFree, Standing}
use Rattle.ws_networks.specs.NetworkLoops.Standing.{Broke, Free, Lost, Served, Trying}
use Rattle.ws_networks.specs.Networks.{NetworkDeed}
use Rattle.ws_networks.specs.declared.bounds.Bounds.{Bounds}
use Rattle.ws_networks.specs.declared.dialing.Missed.{Missed}
use Rattle.wst_errands.specs.Errands.{AreGivenUp, HasEndedIn, ErrandsValue, IsErrandEnd, IsInLine, IsLineSound}
use Rattle.wst_errands.specs.Errands.{IsSomething, IsStageFor, IsPlaceTaken, IsUnderWayFor, KeepsLine}
use Rattle.wst_errands.specs.Errands.{IsErrandAt, count_under_way, given_up}
use Rattle.wst_errands.specs.declared.errands.Came.{Came}
use Rattle.wst_errands.specs.declared.errands.Came.TheVariants.{GivenUp, NotMade}
use Rattle.wst_errands.specs.declared.errands.Stage.{Stage}
use Rattle.wst_errands.specs.declared.errands.Stage.TheVariants.{Over, UnderWay}
use Rattle.wst_errands.proofs.WayLemmas.{stays_taken, was_taken, way_is, way_later, way_on, way_over}

-- ---- how many are under way

module _ {E W : Type 0} where
  abbrev going : Stage E W → Type 0
  going (UnderWay at) = ⊤
  going (Over came) = ⊥

  abbrev way : ℕ → Stage E W
  way at = UnderWay at

  -- what is over isn't under way
  pub over_differs : (came : Came E W) (at : ℕ) → Some (Over came) ≡ Some (UnderWay at) → ⊥
  over_differs came at e = subst (λ (s : Stage E W). going s) (sym (same_Some (Over came) (UnderWay at) e)) tt

  abbrev place_in : Stage E W → ℕ
  place_in (UnderWay at) = at
  place_in (Over came) = 0

  pub same_way : (at other : ℕ) → Some (way at) ≡ Some (way other) → at ≡ other
  same_way at other e = ap (λ (s : Stage E W). place_in s) (same_Some (way at) (way other) e)

  pub some_way : (line : List (Stage E W)) (place at : ℕ) → slice_get line place ≡ Some (UnderWay at)
      → 0 < count_under_way line
  some_way [] place at e = absurd (none-some (UnderWay at) e)
  some_way (UnderWay here ∷ line) place at e = omega arith
  some_way (Over came ∷ line) zero at e = absurd (over_differs came at e)
  some_way (Over came ∷ line) (suc place) at e = some_way line place at e

  pub one_fewer : (line : List (Stage E W)) (place at : ℕ) (came : Came E W)
      → slice_get line place ≡ Some (UnderWay at)
      → count_under_way (slice_set line place (Over came)) + 1 ≡ count_under_way line
  one_fewer [] place at came e = absurd (none-some (UnderWay at) e)
  one_fewer (UnderWay here ∷ line) zero at came e = omega arith
  one_fewer (Over other ∷ line) zero at came e = absurd (over_differs other at e)
  one_fewer (UnderWay here ∷ line) (suc place) at came e = omega (arith, one_fewer line place at came e)
  one_fewer (Over other ∷ line) (suc place) at came e = one_fewer line place at came e

  pub one_more_way : (line : List (Stage E W)) (at : ℕ)
      → count_under_way (line ++ UnderWay at ∷ []) ≡ count_under_way line + 1
  one_more_way [] at = omega arith
  one_more_way (UnderWay here ∷ line) at = omega (arith, one_more_way line at)
  one_more_way (Over came ∷ line) at = one_more_way line at

  -- none is, where none is at any place
  pub no_way : (line : List (Stage E W)) → ((place at : ℕ) → slice_get line place ≡ Some (UnderWay at) → ⊥)
      → count_under_way line ≡ 0
  no_way [] none = refl
  no_way (UnderWay at ∷ line) none = absurd (none 0 at refl)
  no_way (Over came ∷ line) none = no_way line (λ place at e. none (suc place) at e)

  pub next_place : (stage : Stage E W) (line : List (Stage E W)) (place : ℕ)
      → slice_get (stage ∷ line) (place + 1) ≡ slice_get line place
  next_place stage line place =
      let next : place + 1 ≡ suc place = omega arith in ap (λ (k : ℕ). slice_get (stage ∷ line) k) next

  given_up_differs : (stage : Stage E W) (at : ℕ) → Some (given_up stage) ≡ Some (UnderWay at) → ⊥
  given_up_differs (UnderWay here) at e = over_differs GivenUp at e
  given_up_differs (Over came) at e = over_differs came at e

  none_goes_on : (before after : List (Stage E W)) → AreGivenUp before after → (place at : ℕ)
      → slice_get after place ≡ Some (UnderWay at) → ⊥
  none_goes_on before after lost place at e =
      let (stage, is) = place_of before place
      (omega (arith, lost.many, slice_get_within after place (UnderWay at) e)) in
      given_up_differs stage at (sym (lost.each place stage is) ∙ e)

  -- nothing is under way where all were given up
  pub none_left : (before after : List (Stage E W)) → AreGivenUp before after → count_under_way after ≡ 0
  none_left before after lost = no_way after (none_goes_on before after lost)

module _ {M S A W E : Type 0} (agrees : M → M → List Told → Type 0) (wants : M → Wants)
    (gives : M → List Told → E → Type 0) (did : S → S → List Deed → Type 0) where
  abbrev value : ℕ → List (Standing M S A W) → List (Stage E W) → ErrandsValue M A S W E
  value at_once standings line = record { at_once = at_once; standings = standings; line = line }

  -- a free place is not taken
  pub free_untaken : (standings : List (Standing M S A W)) (at : ℕ) → slice_get standings at ≡ Some Free
      → IsPlaceTaken standings at → ⊥
  free_untaken standings at free (x, is, something) =
      subst (λ (y : Standing M S A W). IsSomething y) (same_Some x Free (sym is ∙ free)) something

  taken_or_free : (x : Standing M S A W) → (x ≡ Free → ⊥) → IsSomething x
  taken_or_free Free not_free = not_free refl
  taken_or_free (Served slot) not_free = tt
  taken_or_free Broke not_free = tt
  taken_or_free (Trying machine dial) not_free = tt
  taken_or_free (Lost why) not_free = tt

  -- where no place is free, one at least is under way
  pub all_busy : (standings : List (Standing M S A W)) (line : List (Stage E W)) → IsLineSound standings line
      → NoneIsFree standings → 0 < length standings → 0 < count_under_way line
  all_busy standings line sound none lt =
      let (x, is) = place_of standings 0 lt in
      let (place, there) = sound.listed 0 (
        x,
        is,
        taken_or_free x
            (λ free. none 0 (is ∙ ap (λ (y : Standing M S A W). Some y) free)),
      ) in
      some_way line place 0 there

  -- where nothing stands in any place, nothing is under way
  pub none_under_way : (standings : List (Standing M S A W)) (line : List (Stage E W)) → IsLineSound standings line
      → AreFree standings → count_under_way line ≡ 0
  none_under_way standings line sound free = no_way line (λ place at e. none at (sound.taken place at e))
    where
      none : (at : ℕ) → IsPlaceTaken standings at → ⊥
      none at (x, is, something) = subst (λ (y : Standing M S A W). IsSomething y) (free at x is) something

  -- nothing stands in any place, and none is in the line
  pub none_sound : (standings : List (Standing M S A W)) (line : List (Stage E W)) → AreFree standings → line ≡ []
      → IsLineSound standings line
  none_sound standings line free empty = record {
    taken = λ place at e. absurd (nowhere place at e);
    listed = λ at h. absurd (nothing at h);
    one = λ place other at e f. absurd (nowhere place at e);
  }
    where
      nowhere : (place at : ℕ) → slice_get line place ≡ Some (UnderWay at) → ⊥
      nowhere place at e = none-some (UnderWay at) (sym (ap (λ (l : List (Stage E W)). slice_get l place) empty) ∙ e)

      nothing : (at : ℕ) → IsPlaceTaken standings at → ⊥
      nothing at (x, is, something) = subst (λ (y : Standing M S A W). IsSomething y) (free at x is) something

  -- ---- one more is begun

  module _ (at : ℕ) (x : Standing M S A W) (something : IsSomething x) (old : List (Standing M S A W))
      (line : List (Stage E W)) (free : slice_get old at ≡ Some Free) (sound : IsLineSound old line) where
    abbrev standings_then : List (Standing M S A W)
    standings_then = slice_set old at x

    abbrev line_then : List (Stage E W)
    line_then = line ++ UnderWay at ∷ []

    -- no other place is this one
    taken_elsewhere : (here : ℕ) → IsPlaceTaken old here → here ≡ at → ⊥
    taken_elsewhere here h same =
        free_untaken old here (ap (λ (k : ℕ). slice_get old k) same ∙ free) h

    there_now : slice_get standings_then at ≡ Some x
    there_now = get_set_same old at x (slice_get_within old at Free free)

    -- which of them is under way in which place
    begun_cases : (place here : ℕ) → slice_get line_then place ≡ Some (UnderWay here)
        → (slice_get line place ≡ Some (UnderWay here)) ⊎ ((here ≡ at) × (place ≡ length line))
    begun_cases place here e = last_or_front line place here e
      where
        last_or_front : (l : List (Stage E W)) (place here : ℕ)
            → slice_get (l ++ UnderWay at ∷ []) place ≡ Some (UnderWay here)
            → (slice_get l place ≡ Some (UnderWay here)) ⊎ ((here ≡ at) × (place ≡ length l))
        last_or_front [] zero here e = inr (sym (same_way at here e), refl)
        last_or_front [] (suc place) here e = absurd (none-some (UnderWay here) e)
        last_or_front (stage ∷ l) zero here e = inl e
        last_or_front (stage ∷ l) (suc place) here e = one_on (last_or_front l place here e)
          where
            one_on : (slice_get l place ≡ Some (UnderWay here)) ⊎ ((here ≡ at) × (place ≡ length l))
                → (slice_get l place ≡ Some (UnderWay here)) ⊎ ((here ≡ at) × (suc place ≡ suc (length l)))
            one_on (inl front) = inl front
            one_on (inr (same, last)) = inr (same, ap (λ (k : ℕ). suc k) last)

    pub begun_sound : IsLineSound standings_then line_then
    begun_sound = record {
      taken = λ place here e. taken place here (begun_cases place here e);
      listed = λ here h. listed here h;
      one = λ place other here e f. one place other here (begun_cases place here e) (begun_cases other here f);
    }
      where
        taken : (place here : ℕ)
            → (slice_get line place ≡ Some (UnderWay here)) ⊎ ((here ≡ at) × (place ≡ length line))
            → IsPlaceTaken standings_then here
        taken place here (inl front) =
            let (y, is, some) = sound.taken place here front in
            (y, get_set_other old at here x (taken_elsewhere here (y, is, some)) ∙ is, some)
        taken place here (inr (same, last)) =
            (x, ap (λ (k : ℕ). slice_get standings_then k) same ∙ there_now, something)

        listed_by : (here : ℕ) (y : Standing M S A W) → IsSomething y
            → ((here ≡ at) × (y ≡ x)) ⊎ ((here ≡ at → ⊥) × (slice_get old here ≡ Some y)) → IsInLine line_then here
        listed_by here y some (inl (same, is)) =
            (length line, get_last line (UnderWay at) ∙ ap (λ (k : ℕ). Some (UnderWay k)) (sym same))
        listed_by here y some (inr (other, is)) =
            let (place, there) = sound.listed here (y, is, some) in
            (place, get_front line (UnderWay at) place (UnderWay here) there)

        listed : (here : ℕ) → IsPlaceTaken standings_then here → IsInLine line_then here
        listed here (y, is, some) = listed_by here y some (set_cases old at x here y is)

        one : (place other here : ℕ)
            → (slice_get line place ≡ Some (UnderWay here)) ⊎ ((here ≡ at) × (place ≡ length line))
            → (slice_get line other ≡ Some (UnderWay here)) ⊎ ((here ≡ at) × (other ≡ length line)) → place ≡ other
        one place other here (inl e) (inl f) = sound.one place other here e f
        one place other here (inl e) (inr (same, last)) =
            absurd (taken_elsewhere here (sound.taken place here e) same)
        one place other here (inr (same, last)) (inl f) =
            absurd (taken_elsewhere here (sound.taken other here f) same)
        one place other here (inr (same, last)) (inr (also, here_too)) = last ∙ sym here_too

  module _ (at : ℕ) (x : Standing M S A W) (something : IsSomething x) (old new : ErrandsValue M A S W E)
      (free : slice_get old.standings at ≡ Some Free) (set : new.standings ≡ slice_set old.standings at x)
      (more : new.line ≡ old.line ++ UnderWay at ∷ []) where
    pub begun_stands : (start : M) (bounds : Bounds) (now : ℕ) → agrees start start []
        → IsUnderWayFor agrees wants did start bounds now now x
        → IsErrandAt agrees wants gives did new (length old.line) start bounds now now
    begun_stands start bounds now untold way_so = record {
      stage = UnderWay at;
      stands = ap (λ (l : List (Stage E W)). slice_get l (length old.line)) more ∙ get_last old.line (UnderWay at);
      untold = untold;
      came_so_far = (
        x,
        ap (λ (l : List (Standing M S A W)). slice_get l at) set
            ∙ get_set_same old.standings at x (slice_get_within old.standings at Free free),
        way_so,
      );
    }

    stage_beside : (start : M) (bounds : Bounds) (begun now : ℕ) (stage : Stage E W)
        → IsStageFor agrees wants gives did start bounds begun now old.standings stage
        → IsStageFor agrees wants gives did start bounds begun now new.standings stage
    stage_beside start bounds begun now (Over came) h = h
    stage_beside start bounds begun now (UnderWay here) (y, is, way_so) = (
      y,
      ap (λ (l : List (Standing M S A W)). slice_get l here) set
          ∙ get_set_other old.standings at here x (λ same. free_untaken old.standings at free (
            y,
            ap (λ (k : ℕ). slice_get old.standings k) (sym same) ∙ is,
            way_is agrees wants gives did start bounds begun now y way_so,
          ))
          ∙ is,
      way_so,
    )

    pub begun_keeps : (now : ℕ) → KeepsLine agrees wants gives did now now old new
    begun_keeps now place start bounds begun h = record {
      stage = h.stage;
      stands = ap (λ (l : List (Stage E W)). slice_get l place) more
          ∙ get_front old.line (UnderWay at) place h.stage h.stands;
      untold = h.untold;
      came_so_far = stage_beside start bounds begun now h.stage h.came_so_far;
    }

  -- ---- one more that is over

  module _ (standings : List (Standing M S A W)) (line : List (Stage E W)) (came : Came E W)
      (sound : IsLineSound standings line) where
    missed_front : (place here : ℕ) → slice_get (line ++ Over came ∷ []) place ≡ Some (UnderWay here)
        → slice_get line place ≡ Some (UnderWay here)
    missed_front place here e = by (push_cases line (Over came) place (UnderWay here) e)
      where
        by : (slice_get line place ≡ Some (UnderWay here)) ⊎ (UnderWay here ≡ Over came)
            → slice_get line place ≡ Some (UnderWay here)
        by (inl front) = front
        by (inr is) = absurd (over_differs came here (ap (λ (x : Stage E W). Some x) (sym is)))

    pub missed_sound : IsLineSound standings (line ++ Over came ∷ [])
    missed_sound = record {
      taken = λ place here e. sound.taken place here (missed_front place here e);
      listed = λ here h. listed here (sound.listed here h);
      one = λ place other here e f. sound.one place other here (missed_front place here e)
          (missed_front other here f);
    }
      where
        listed : (here : ℕ) → IsInLine line here → IsInLine (line ++ Over came ∷ []) here
        listed here (place, e) = (place, get_front line (Over came) place (UnderWay here) e)

  module _ (old new : ErrandsValue M A S W E) (why : Missed W) (same : new.standings ≡ old.standings)
      (more : new.line ≡ old.line ++ Over (NotMade why) ∷ []) where
    pub missed_stands : (start : M) (bounds : Bounds) (begun now : ℕ) → agrees start start []
        → IsErrandAt agrees wants gives did new (length old.line) start bounds begun now
    missed_stands start bounds begun now untold = record {
      stage = Over (NotMade why);
      stands = ap (λ (l : List (Stage E W)). slice_get l (length old.line)) more
          ∙ get_last old.line (Over (NotMade why));
      untold = untold;
      came_so_far = tt;
    }

    pub missed_keeps : (now : ℕ) → KeepsLine agrees wants gives did now now old new
    missed_keeps now place start bounds begun h = record {
      stage = h.stage;
      stands = ap (λ (l : List (Stage E W)). slice_get l place) more
          ∙ get_front old.line (Over (NotMade why)) place h.stage h.stands;
      untold = h.untold;
      came_so_far = subst (λ (l : List (Standing M S A W)).
          IsStageFor agrees wants gives did start bounds begun now l h.stage) (sym same) h.came_so_far;
    }

  -- ---- the first is handed out

  -- the others move up
  pub first_moves : (old new : ErrandsValue M A S W E) (came : Came E W) → old.line ≡ Over came ∷ new.line
      → new.standings ≡ old.standings → (place : ℕ) (start : M) (bounds : Bounds) (begun now : ℕ)
      → IsErrandAt agrees wants gives did old (place + 1) start bounds begun now
      → IsErrandAt agrees wants gives did new place start bounds begun now
  first_moves old new came first same place start bounds begun now h = record {
    stage = h.stage;
    stands = sym (next_place (Over came) new.line place)
        ∙ ap (λ (l : List (Stage E W)). slice_get l (place + 1)) (sym first) ∙ h.stands;
    untold = h.untold;
    came_so_far = subst (λ (l : List (Standing M S A W)).
        IsStageFor agrees wants gives did start bounds begun now l h.stage) (sym same) h.came_so_far;
  }

  -- and this came of it, however it was begun
  pub first_end : (old : ErrandsValue M A S W E) (came : Came E W) (line : List (Stage E W))
      → old.line ≡ Over came ∷ line → (start : M) (bounds : Bounds) (begun now : ℕ)
      → IsErrandAt agrees wants gives did old 0 start bounds begun now
      → IsErrandEnd {S = S} agrees wants gives did start bounds begun came
  first_end old came line first start bounds begun now h =
      let is : h.stage ≡ Over came = same_Some h.stage (Over came) (sym h.stands
      ∙ ap (λ (l : List (Stage E W)). slice_get l 0) first) in
      subst (λ (x : Stage E W). IsStageFor agrees wants gives did start bounds begun now old.standings x) is
      h.came_so_far

  module _ (standings : List (Standing M S A W)) (came : Came E W) (before line : List (Stage E W))
      (first : before ≡ Over came ∷ line) where
    pub first_sound : IsLineSound standings before → IsLineSound standings line
    first_sound whole = record {
      taken = λ place at e. whole.taken (suc place) at (back place at e);
      listed = λ at h. listed at (whole.listed at h);
      one = λ place other at e f. minus_one place other
          (whole.one (suc place) (suc other) at (back place at e) (back other at f));
    }
      where
        back : (place at : ℕ) → slice_get line place ≡ Some (UnderWay at)
            → slice_get before (suc place) ≡ Some (UnderWay at)
        back place at e = ap (λ (l : List (Stage E W)). slice_get l (suc place)) first ∙ e

        listed : (at : ℕ) → IsInLine before at → IsInLine line at
        listed at (zero, e) =
            absurd (over_differs came at (sym (ap (λ (l : List (Stage E W)). slice_get l 0) first) ∙ e))
        listed at (suc place, e) = (place, sym (ap (λ (l : List (Stage E W)). slice_get l (suc place)) first) ∙ e)

        minus_one : (a b : ℕ) → suc a ≡ suc b → a ≡ b
        minus_one a b e = omega (arith, e)

  -- ---- all come on

  module _ {K N : Type 0} (heard : K → K → List (ℕ × List ℕ) → Type 0)
      (does : N → N → List (NetworkDeed A W) → Type 0) (from to : ℕ) (old new : List (Standing M S A W)) (s t : K)
      (n o : N) (come : HaveComeOn agrees wants did heard does from to old new s t n o) where
    there_then : (at : ℕ) (x : Standing M S A W) → slice_get old at ≡ Some x
        → (y : Standing M S A W) × (slice_get new at ≡ Some y)
    there_then at x is = place_of new at (omega (arith, come.len, slice_get_within old at x is))

    there_before : (at : ℕ) (y : Standing M S A W) → slice_get new at ≡ Some y
        → (x : Standing M S A W) × (slice_get old at ≡ Some x)
    there_before at y is = place_of old at (omega (arith, come.len, slice_get_within new at y is))

    pub sound_comes : (line : List (Stage E W)) → IsLineSound old line → IsLineSound new line
    sound_comes line sound = record {
      taken = λ place at e. taken at (sound.taken place at e);
      listed = λ at h. listed at h;
      one = sound.one;
    }
      where
        taken : (at : ℕ) → IsPlaceTaken old at → IsPlaceTaken new at
        taken at (x, is, something) =
            let (y, there) = there_then at x is in
            (y, there, stays_taken agrees wants gives did from to at x y _ _ (come.each at x y is there) something)

        listed : (at : ℕ) → IsPlaceTaken new at → IsInLine line at
        listed at (y, there, something) =
            let (x, is) = there_before at y there in
            sound.listed at (
              x,
              is,
              was_taken agrees wants gives did from to at x y _ _ (come.each at x y is there)
                  something,
            )

    stage_comes : (start : M) (bounds : Bounds) (begun : ℕ) (stage : Stage E W)
        → IsStageFor agrees wants gives did start bounds begun from old stage
        → IsStageFor agrees wants gives did start bounds begun to new stage
    stage_comes start bounds begun (Over came) h = h
    stage_comes start bounds begun (UnderWay at) (x, is, h) =
        let (y, there) = there_then at x is in (
          y,
          there,
          way_on agrees wants gives did start bounds begun from to at x y _ _ come.later
              (come.each at x y is there) h,
        )

    pub line_comes : (at_once : ℕ) (line : List (Stage E W))
        → KeepsLine agrees wants gives did from to (value at_once old line) (value at_once new line)
    line_comes at_once line place start bounds begun h = record {
      stage = h.stage;
      stands = h.stands;
      untold = h.untold;
      came_so_far = stage_comes start bounds begun h.stage h.came_so_far;
    }

  -- one step after the other
  pub keeps_then : (from mid to : ℕ) (a b c : ErrandsValue M A S W E) → KeepsLine agrees wants gives did from mid a b
      → KeepsLine agrees wants gives did mid to b c → KeepsLine agrees wants gives did from to a c
  keeps_then from mid to a b c h k place start bounds begun x =
      k place start bounds begun (h place start bounds begun x)

  -- time passes
  pub line_later : (now then : ℕ) (x : ErrandsValue M A S W E) → now ≤ then
      → KeepsLine agrees wants gives did now then x x
  line_later now then x le place start bounds begun h = record {
    stage = h.stage;
    stands = h.stands;
    untold = h.untold;
    came_so_far = later h.stage h.came_so_far;
  }
    where
      later : (stage : Stage E W) → IsStageFor agrees wants gives did start bounds begun now x.standings stage
          → IsStageFor agrees wants gives did start bounds begun then x.standings stage
      later (Over came) so = so
      later (UnderWay at) (y, is, so) = (y, is, way_later agrees wants gives did start bounds begun now then y le so)

  -- ---- one is over

  module _ (at : ℕ) (old new : List (Standing M S A W)) (before after : List (Stage E W))
      (sound : IsLineSound old before) (ends : HasEndedIn agrees wants gives did at old new before after) where
    pub one_over : count_under_way after < count_under_way before
    one_over =
        let (place, there, noted) = ends.noted in
        let fewer = one_fewer before place at ends.came there in
        let same = ap (λ (l : List (Stage E W)). count_under_way l) noted in
        omega (arith, fewer, same)

    pub over_len : length after ≡ length before
    over_len =
        let (place, there, noted) = ends.noted in
        ap (λ (l : List (Stage E W)). length l) noted ∙ length_set before place (Over ends.came)

    pub over_places : length new ≡ length old
    over_places = ap (λ (l : List (Standing M S A W)). length l) ends.free ∙ length_set old at Free

    -- another place stands as before
    elsewhere : (here : ℕ) (x : Standing M S A W) → (here ≡ at → ⊥) → slice_get old here ≡ Some x
        → slice_get new here ≡ Some x
    elsewhere here x other is = ap (λ (l : List (Standing M S A W)). slice_get l here) ends.free
        ∙ get_set_other old at here Free other ∙ is

    -- and so does another errand
    others : (place : ℕ) (stage : Stage E W) → (slice_get before place ≡ Some (UnderWay at) → ⊥)
        → slice_get before place ≡ Some stage → slice_get after place ≡ Some stage
    others place stage other is =
        let (p, there, noted) = ends.noted in
        ap (λ (l : List (Stage E W)). slice_get l place) noted
        ∙ get_set_other before p place (Over ends.came) (λ e. other (ap (λ (k : ℕ). slice_get before k) e ∙ there)) ∙ is

    here_over : (place : ℕ) → slice_get before place ≡ Some (UnderWay at)
        → slice_get after place ≡ Some (Over ends.came)
    here_over place is =
        let (p, there, noted) = ends.noted in
        let same = sound.one place p at is there in
        let within = slice_get_within before p (UnderWay at) there in
        ap (λ (l : List (Stage E W)). slice_get l place) noted
        ∙ ap (λ (k : ℕ). slice_get (slice_set before p (Over ends.came)) k) same
        ∙ get_set_same before p (Over ends.came) within

    stage_kept : (now : ℕ) (place : ℕ) (start : M) (bounds : Bounds) (begun : ℕ) (stage : Stage E W)
        → slice_get before place ≡ Some stage → agrees start start []
        → IsStageFor agrees wants gives did start bounds begun now old stage
        → (next : Stage E W) × (slice_get after place ≡ Some next)
        × IsStageFor agrees wants gives did start bounds begun now new next
    stage_kept now place start bounds begun (Over came) is untold so =
        (Over came, others place (Over came) (λ e. over_differs came at (sym is ∙ e)) is, so)
    stage_kept now place start bounds begun (UnderWay here) is untold (x, there, so) = by (eqb_tells here at)
      where
        by : ((nat_eq here at ≡ true) × (here ≡ at)) ⊎ ((nat_eq here at ≡ false) × (here ≢ at))
            → (next : Stage E W) × (slice_get after place ≡ Some next)
            × IsStageFor agrees wants gives did start bounds begun now new next
        by (inl (b, same)) =
            let (y, is_y, handed) = ends.handed_out in
            let x_is : x ≡ y = same_Some x y (sym there ∙ ap (λ (k : ℕ). slice_get old k) same ∙ is_y) in (
              Over ends.came,
              here_over place (is ∙ ap (λ (k : ℕ). Some (UnderWay k)) same),
              way_over agrees wants gives did start bounds begun now y ends.taken ends.came handed ends.is untold
                  (subst (λ (z : Standing M S A W). IsUnderWayFor agrees wants did start bounds begun now z) x_is so),
            )
        by (inr (b, other)) = (
          UnderWay here,
          others place (UnderWay here) (λ e. other (same_way here at (sym is ∙ e))) is,
          (x, elsewhere here x other there, so),
        )

    pub over_keeps : (now at_once : ℕ)
        → KeepsLine agrees wants gives did now now (value at_once old before) (value at_once new after)
    over_keeps now at_once place start bounds begun h =
        let (next, there, so) = stage_kept now place start bounds begun h.stage h.stands h.untold h.came_so_far in
        record { stage = next; stands = there; untold = h.untold; came_so_far = so }

    -- what is under way then was so before, and elsewhere
    was_under_way : (place here : ℕ) → slice_get after place ≡ Some (UnderWay here)
        → (slice_get before place ≡ Some (UnderWay here)) × (here ≡ at → ⊥)
    was_under_way place here e = by (set_cases before ends.noted.0 (Over ends.came) place (UnderWay here)
        (sym (ap (λ (l : List (Stage E W)). slice_get l place) ends.noted.2) ∙ e))
      where
        by : ((place ≡ ends.noted.0) × (UnderWay here ≡ Over ends.came))
            ⊎ ((place ≡ ends.noted.0 → ⊥) × (slice_get before place ≡ Some (UnderWay here)))
            → (slice_get before place ≡ Some (UnderWay here)) × (here ≡ at → ⊥)
        by (inl (same, is)) =
            absurd (over_differs ends.came here (ap (λ (x : Stage E W). Some x) (sym is)))
        by (inr (other, is)) = (
          is,
          λ same. other (sound.one place ends.noted.0 at (is ∙ ap (λ (k : ℕ). Some (UnderWay k)) same) ends.noted.1),
        )

    pub over_sound : IsLineSound new after
    over_sound = record {
      taken = λ place here e. taken here (was_under_way place here e).1
          (sound.taken place here (was_under_way place here e).0);
      listed = λ here h. listed here h;
      one = λ place other here e f. sound.one place other here (was_under_way place here e).0
          (was_under_way other here f).0;
    }
      where
        taken : (here : ℕ) → (here ≡ at → ⊥) → IsPlaceTaken old here → IsPlaceTaken new here
        taken here other (x, is, something) = (x, elsewhere here x other is, something)

        listed_by : (here : ℕ) (x : Standing M S A W) → IsSomething x
            → ((here ≡ at) × (x ≡ Free)) ⊎ ((here ≡ at → ⊥) × (slice_get old here ≡ Some x)) → IsInLine after here
        listed_by here x something (inl (same, is)) =
            absurd (subst (λ (y : Standing M S A W). IsSomething y) is something)
        listed_by here x something (inr (other, is)) =
            let (place, there) = sound.listed here (x, is, something) in
            (place, others place (UnderWay here) (λ e. other (same_way here at (sym there ∙ e))) there)

        listed : (here : ℕ) → IsPlaceTaken new here → IsInLine after here
        listed here (x, is, something) = listed_by here x something
            (set_cases old at Free here x (sym (ap (λ (l : List (Standing M S A W)). slice_get l here) ends.free) ∙ is))

  -- ---- all are given up

  module _ (before after : List (Stage E W)) (lost : AreGivenUp before after) where
    pub lost_sound : (standings : List (Standing M S A W)) → AreFree standings → IsLineSound standings after
    lost_sound standings free = record {
      taken = λ place at e. absurd (none_goes_on before after lost place at e);
      listed = λ at h. absurd (none at h);
      one = λ place other at e f. absurd (none_goes_on before after lost place at e);
    }
      where
        none : (at : ℕ) → IsPlaceTaken standings at → ⊥
        none at (x, is, something) = subst (λ (y : Standing M S A W). IsSomething y) (free at x is) something

    lost_stage : (start : M) (bounds : Bounds) (begun from to : ℕ) (old new : List (Standing M S A W))
        (stage : Stage E W) → IsStageFor agrees wants gives did start bounds begun from old stage
        → IsStageFor agrees wants gives did start bounds begun to new (given_up stage)
    lost_stage start bounds begun from to old new (UnderWay at) h = tt
    lost_stage start bounds begun from to old new (Over came) h = h

    pub lost_keeps : (from to at_once : ℕ) (old new : List (Standing M S A W))
        → KeepsLine agrees wants gives did from to (value at_once old before) (value at_once new after)
    lost_keeps from to at_once old new place start bounds begun h = record {
      stage = given_up h.stage;
      stands = lost.each place h.stage h.stands;
      untold = h.untold;
      came_so_far = lost_stage start bounds begun from to old new h.stage h.came_so_far;
    }
