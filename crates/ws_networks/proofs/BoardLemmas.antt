-- All that a loop over a network keeps: what goes on beside each place fits what stands in it, the numbers of those that
-- have ended, and its places come on.
use Rattle.std.proofs.Common.{◌≡◌, ◌∙◌, ℕ, zero, suc, ◌<◌, ◌≤◌, ◌⊎◌, Bool, true, false, List, [], ◌∷◌, ◌++◌, length}
use Rattle.std.proofs.Common.{◌||◌, ◌&&◌, min, nat_le, not, refl}
use Rattle.std.proofs.Common.{◌↔◌, Option, Some, None, slice_set, sym, ap, subst, arith, inl, inr, MatchOption}
use Rattle.std.specs.Bool.{⊤}
use Rattle.std.specs.List.{slice_get}
use Rattle.std.proofs.lemmas.Bool.{false≢true}
use Rattle.std.proofs.lemmas.Bool.Decides.{leb_tells}
use Rattle.std.proofs.lemmas.Option.{none-some, same_Some, slice_get_within}
use Rattle.ws_machines.specs.Told.{Told}
use Rattle.ws_machines.specs.Machines.{Wants}
use Rattle.ws_loops.specs.Deeds.{Deed}
use Rattle.ws_loops.specs.Looping.{IfRoundMade, IsEnding, LoopValue}
use Rattle.ws_loops.specs.declared.looping.Ending.{Ending}
use Rattle.ws_loops.specs.declared.looping.Ending.TheVariants as ending
use Rattle.ws_loops.specs.Loops.{AreServedInTime, HaveRun, IsServedInTime}
use Rattle.ws_loops.specs.Paces.{has_ended_by, passes_at, sooner}
use Rattle.ws_loops.specs.Places.{AreEmpty, AreOccupied, IsFirstFree, IsFirstToEnd, IsOverAt, IsPlaceOver, KeepTurns}
use Rattle.ws_loops.specs.Places.{Kind}
use Rattle.ws_loops.specs.Places.{NoneHasEnded, NoneIsOver}
use Rattle.ws_loops.specs.Places.{IsSlotless, IsSlotlessAt, StayOfKind, is_empty, is_stirred, place_kind}
use Rattle.ws_loops.specs.Places.Kind.{Nothing, Slotted, UnderWay}
use Rattle.ws_loops.specs.Sinks.{AreLinesOfPlaces, lines_at}
use Rattle.ws_loops.specs.Slots.{IsAble}
use Rattle.ws_loops.specs.declared.slot.Slot.{Slot}
use Rattle.ws_loops.specs.declared.places.Place.{Place}
use Rattle.ws_loops.specs.declared.places.Place.TheVariants.{Broken, Empty, Open, Pending}
use Rattle.ws_loops.proofs.PlaceLemmas.{get_set_other, get_set_same, length_set, place_of, set_cases, set_same}
use Rattle.ws_loops.proofs.SinkLemmas.{lines_then, put_nothing, put_then, within_then}
use Rattle.ws_networks.specs.Connecting.{HasDialled, IfDialled, IsDialling, HasNextAddress}
use Rattle.ws_networks.specs.NetworkLoops.{AreFree, AreIdle, AreOfPlaces, HasAskedAt, HasComeOn, HaveComeOn}
use Rattle.ws_networks.specs.Bounds.{gives_up_at, is_given_up}
use Rattle.ws_networks.specs.NetworkLoops.{AreStandingsServed, IfTooLate, IsFirstOfFree, IsStandingServed}
use Rattle.ws_networks.specs.NetworkLoops.{IsNetworkEnding, IsNetworkSound, IsOutboundSound, IsOverThere}
use Rattle.ws_networks.specs.NetworkLoops.{IsStandingOver, IsTryingAt, NoneIsFree, NoneIsOverThere}
use Rattle.ws_networks.specs.NetworkLoops.{IsHandedOut, IsHandedOutAs, Standing, network_value, outbound_by, own_ticket}
use Rattle.ws_networks.specs.NetworkLoops.{place_by, standing_by, standing_of, handed_out, zip_by}
use Rattle.ws_networks.specs.NetworkLoops.Standing.{Broke, Free, Lost, Served, Trying}
use Rattle.ws_networks.specs.Networks.{NetworkDeed, deeds_at}
use Rattle.ws_networks.specs.declared.bounds.Bounds.{Bounds}
use Rattle.ws_networks.specs.declared.dialing.Dial.{Dial}
use Rattle.ws_networks.specs.declared.dialing.Dialled.{Dialled}
use Rattle.ws_networks.specs.declared.dialing.Dialled.TheVariants as dialled
use Rattle.ws_networks.specs.declared.dialing.Missed.{Missed}
use Rattle.ws_networks.specs.declared.network_loop.Taken.{Taken}
use Rattle.ws_loops.specs.declared.watch.Watch.{Watch}
use Rattle.ws_networks.specs.declared.network_loop.Outbound.{Outbound}
use Rattle.ws_networks.specs.declared.network_loop.Outbound.TheVariants as outbound
use Rattle.ws_networks.proofs.AddLemmas.{added_none, added_then}
use Rattle.ws_networks.proofs.ComeLemmas.{asked_comes, come_then, deeds_other, deeds_own, deeds_then, gone_comes}
use Rattle.ws_networks.proofs.ComeLemmas.{places_own, places_then, still_comes}
use Rattle.ws_networks.proofs.ZipLemmas.{zip_alike, zip_get, zip_len, zip_of, zip_set}

abbrev is_under : Kind → Type 0
is_under Nothing = ⊥
is_under Slotted = ⊥
is_under (UnderWay until) = ⊤

abbrev until_of : Kind → Option ℕ
until_of Nothing = None
until_of Slotted = None
until_of (UnderWay until) = until

-- ---- the numbers of those that have ended

module _ {M A S W : Type 0} where
  -- where it counts, it is the number
  counts : (k : Option ℕ) (b : Outbound M A S W) (n : ℕ) → own_ticket k b ≡ Some n
      → (k ≡ Some n) × ((o : Option ℕ) → own_ticket o b ≡ o)
  counts k outbound.Idle n e = (e, λ o. refl)
  counts k (outbound.Trying machine dial) n e = absurd (none-some n e)
  counts k (outbound.Missed why) n e = (e, λ o. refl)

  -- what it is at a place where it counts
  number_at : (tickets : List (Option ℕ)) (beside : List (Outbound M A S W)) (i n : ℕ)
      → slice_get (zip_by own_ticket tickets beside) i ≡ Some (Some n)
      → (b : Outbound M A S W) × (slice_get beside i ≡ Some b) × (slice_get tickets i ≡ Some (Some n))
      × ((o : Option ℕ) → own_ticket o b ≡ o)
  number_at tickets beside i n e =
      let (k, b, k_is, b_is, so) = zip_of own_ticket tickets beside i (Some n) e in
      let (same, counted) = counts k b n (sym so) in
      (b, b_is, k_is ∙ ap (λ (o : Option ℕ). Some o) same, counted)

  number_so : (tickets : List (Option ℕ)) (beside : List (Outbound M A S W)) (i n : ℕ) (b : Outbound M A S W)
      → slice_get tickets i ≡ Some (Some n) → slice_get beside i ≡ Some b → ((o : Option ℕ) → own_ticket o b ≡ o)
      → slice_get (zip_by own_ticket tickets beside) i ≡ Some (Some n)
  number_so tickets beside i n b k_is b_is counted = zip_get own_ticket tickets beside i (Some n) b k_is b_is
      ∙ ap (λ (o : Option ℕ). Some o) (counted (Some n))

  -- a run, in which what goes on beside stays as it is
  pub turns_run : (t u : List (Option ℕ)) (beside : List (Outbound M A S W)) → KeepTurns t u
      → KeepTurns (zip_by own_ticket t beside) (zip_by own_ticket u beside)
  turns_run t u beside h = record {
    len = zip_alike own_ticket t u beside beside h.len refl;
    kept = λ i n e.
        let (b, b_is, k_is, counted) = number_at t beside i n e in
        number_so u beside i n b (h.kept i n k_is) b_is counted;
    later = λ i j n m was none is.
        let (b, b_is, k_is, counted) = number_at t beside i n was in
        let (c, c_is, v_is, counts_so) = number_at u beside j m is in
        let (k, d, kj_is, d_is, so) = zip_of own_ticket t beside j None none in
        let same : d ≡ c = same_Some d c (sym d_is ∙ c_is) in
        let none_there : slice_get t j ≡ Some None = kj_is ∙ ap (λ (o : Option ℕ). Some o)
        (sym (counts_so k) ∙ (ap (λ (x : Outbound M A S W). own_ticket k x) (sym same) ∙ sym so)) in
        h.later i j n m k_is none_there v_is;
  }

  -- one place gets something else beside it, and a new number, or none
  pub turns_set : (t u : List (Option ℕ)) (beside : List (Outbound M A S W)) (at : ℕ) (next : Outbound M A S W)
      → KeepTurns (slice_set t at None) u
      → KeepTurns (zip_by own_ticket (slice_set t at None) beside)
      (zip_by own_ticket u (slice_set beside at next))
  turns_set t u beside at next h = record {
    len = zip_alike own_ticket (slice_set t at None) u beside (slice_set beside at next) h.len
        (length_set beside at next);
    kept = λ i n e.
        let (b, b_is, k_is, counted) = number_at (slice_set t at None) beside i n e in
        kept_so i n b b_is k_is counted (set_cases t at None i (Some n) k_is);
    later = λ i j n m was none is.
        let (b, b_is, k_is, counted) = number_at (slice_set t at None) beside i n was in
        let (c, c_is, v_is, counts_so) = number_at u (slice_set beside at next) j m is in
        let (k, d, kj_is, d_is, so) = zip_of own_ticket (slice_set t at None) beside j None none in
        h.later i j n m k_is (none_so j k c d kj_is d_is so c_is counts_so (set_cases t at None j k kj_is)) v_is;
  }
    where
      kept_so : (i n : ℕ) (b : Outbound M A S W) → slice_get beside i ≡ Some b → slice_get (slice_set t at None) i ≡ Some (Some n)
          → ((o : Option ℕ) → own_ticket o b ≡ o)
          → ((i ≡ at) × (Some n ≡ None)) ⊎ ((i ≡ at → ⊥) × (slice_get t i ≡ Some (Some n)))
          → slice_get (zip_by own_ticket u (slice_set beside at next)) i ≡ Some (Some n)
      kept_so i n b b_is k_is counted (inl (_, e)) = absurd (none-some n (sym e))
      kept_so i n b b_is k_is counted (inr (other, _)) = number_so u (slice_set beside at next) i n b (h.kept i n k_is)
          (get_set_other beside at i next other ∙ b_is) counted

      none_so : (j : ℕ) (k : Option ℕ) (c d : Outbound M A S W) → slice_get (slice_set t at None) j ≡ Some k
          → slice_get beside j ≡ Some d → None ≡ own_ticket k d → slice_get (slice_set beside at next) j ≡ Some c
          → ((o : Option ℕ) → own_ticket o c ≡ o)
          → ((j ≡ at) × (k ≡ None)) ⊎ ((j ≡ at → ⊥) × (slice_get t j ≡ Some k))
          → slice_get (slice_set t at None) j ≡ Some None
      none_so j k c d kj_is d_is so c_is counted (inl (_, none)) = kj_is ∙ ap (λ (o : Option ℕ). Some o) none
      none_so j k c d kj_is d_is so c_is counted (inr (other, _)) =
          let same : d ≡ c = same_Some d c (sym d_is ∙ (sym (get_set_other beside at j next other) ∙ c_is)) in
          kj_is ∙ ap (λ (o : Option ℕ). Some o)
          (sym (counted k) ∙ (ap (λ (x : Outbound M A S W). own_ticket k x) (sym same) ∙ sym so))

  -- a connection that is under way has no number that counts
  pub masked_same : (t : List (Option ℕ)) (beside : List (Outbound M A S W)) (at : ℕ) (machine : M) (dial : Dial A S W)
      → slice_get beside at ≡ Some (outbound.Trying machine dial)
      → zip_by own_ticket (slice_set t at None) beside ≡ zip_by own_ticket t beside
  masked_same [] beside at machine dial e = refl
  masked_same (x ∷ t) [] zero machine dial e = refl
  masked_same (x ∷ t) [] (suc at) machine dial e = refl
  masked_same (x ∷ t) (b ∷ beside) zero machine dial e = ap (λ (o : Option ℕ). o ∷ zip_by own_ticket t beside)
      (subst (λ (c : Outbound M A S W). own_ticket None c ≡ own_ticket x c)
      (sym (same_Some b (outbound.Trying machine dial) e)) refl)
  masked_same (x ∷ t) (b ∷ beside) (suc at) machine dial e =
      ap (λ (l : List (Option ℕ)). own_ticket x b ∷ l) (masked_same t beside at machine dial e)

  pub none_new : (t : List (Option ℕ)) (beside : List (Outbound M A S W)) → NoneHasEnded t
      → NoneHasEnded (zip_by own_ticket t beside)
  none_new t beside none i n e =
      let (b, b_is, k_is, counted) = number_at t beside i n e in
      none i n k_is

  -- one has no number any more
  pub unnumbered : (t u : List (Option ℕ)) (beside after : List (Outbound M A S W)) (at : ℕ) → u ≡ slice_set t at None
      → after ≡ slice_set beside at outbound.Idle
      → zip_by own_ticket u after ≡ slice_set (zip_by own_ticket t beside) at None
  unnumbered t u beside after at taken set = ap (λ (o : List (Option ℕ)). zip_by own_ticket o after) taken
      ∙ (ap (λ (o : List (Outbound M A S W)). zip_by own_ticket (slice_set t at None) o) set
      ∙ zip_set own_ticket t beside at None outbound.Idle)

  -- numbers where a connection was asked for, and where one was begun
  pub turns_asked : (t u : List (Option ℕ)) (beside after : List (Outbound M A S W)) (at : ℕ) (machine : M)
      (dial : Dial A S W) (next : Outbound M A S W) → slice_get beside at ≡ Some (outbound.Trying machine dial)
      → after ≡ slice_set beside at next → KeepTurns (slice_set t at None) u
      → KeepTurns (zip_by own_ticket t beside) (zip_by own_ticket u after)
  turns_asked t u beside after at machine dial next is set h =
      subst (λ (o : List (Outbound M A S W)). KeepTurns (zip_by own_ticket t beside) (zip_by own_ticket u o)) (sym set)
      (subst (λ (l : List (Option ℕ)). KeepTurns l (zip_by own_ticket u (slice_set beside at next)))
      (masked_same t beside at machine dial is) (turns_set t u beside at next h))

  pub turns_opened : (t u : List (Option ℕ)) (beside after : List (Outbound M A S W)) (at : ℕ)
      (next : Outbound M A S W) → slice_get t at ≡ Some None → after ≡ slice_set beside at next
      → KeepTurns (slice_set t at None) u → KeepTurns (zip_by own_ticket t beside) (zip_by own_ticket u after)
  turns_opened t u beside after at next none set h =
      subst (λ (o : List (Outbound M A S W)). KeepTurns (zip_by own_ticket t beside) (zip_by own_ticket u o)) (sym set)
      (subst (λ (l : List (Option ℕ)). KeepTurns (zip_by own_ticket l beside)
      (zip_by own_ticket u (slice_set beside at next))) (set_same t at None none) (turns_set t u beside at next h))

  -- whether a connection is under way
  abbrev pub trying_of : Outbound M A S W → Bool
  trying_of outbound.Idle = false
  trying_of (outbound.Trying machine dial) = true
  trying_of (outbound.Missed why) = false

  pub trying_iff : (beside : List (Outbound M A S W)) (at : ℕ) (o : Outbound M A S W) → slice_get beside at ≡ Some o
      → (trying_of o ≡ true) ↔ IsTryingAt beside at
  trying_iff beside at outbound.Idle is = (
    λ e. absurd (false≢true e),
    λ (machine, dial, there). ap trying_of (same_Some outbound.Idle (outbound.Trying machine dial) (sym is ∙ there)),
  )
  trying_iff beside at (outbound.Trying machine dial) is = (λ e. (machine, dial, is), λ there. refl)
  trying_iff beside at (outbound.Missed why) is = (
    λ e. absurd (false≢true e),
    λ (machine, dial, there). ap trying_of
        (same_Some (outbound.Missed why) (outbound.Trying machine dial) (sym is ∙ there)),
  )

  pub not_trying : (beside : List (Outbound M A S W)) (at : ℕ) (o : Outbound M A S W) → slice_get beside at ≡ Some o
      → (o ≡ outbound.Idle) ⊎ ((why : Missed W) × (o ≡ outbound.Missed why)) → (false ≡ true) ↔ IsTryingAt beside at
  not_trying beside at o is (inl e) = subst (λ (x : Outbound M A S W). (trying_of x ≡ true) ↔ IsTryingAt beside at) e
      (trying_iff beside at o is)
  not_trying beside at o is (inr (why, e)) =
      subst (λ (x : Outbound M A S W). (trying_of x ≡ true) ↔ IsTryingAt beside at) e (trying_iff beside at o is)

  -- which has ended first
  pub first_counts : (t : List (Option ℕ)) (beside : List (Outbound M A S W)) (at : ℕ) (b : Outbound M A S W) → slice_get beside at ≡ Some b
      → ((o : Option ℕ) → own_ticket o b ≡ o) → IsFirstToEnd t at → IsFirstToEnd (zip_by own_ticket t beside) at
  first_counts t beside at b b_is counted (n, is, least) = (
    n,
    number_so t beside at n b is b_is counted,
    λ i m e.
        let (c, c_is, k_is, _) = number_at t beside i m e in
        least i m k_is,
  )

-- ---- when one is given up

not_sooner : (one other : Option ℕ) (now : ℕ) → has_ended_by (sooner one other) now ≡ false
    → (has_ended_by other now || has_ended_by one now) ≡ false
not_sooner None None now h = refl
not_sooner (Some x) None now h = h
not_sooner None (Some y) now h = ap (λ (b : Bool). b || false) h
not_sooner (Some x) (Some y) now h = by (leb_tells (min x y) now) (leb_tells x now) (leb_tells y now)
  where
    by : ((nat_le (min x y) now ≡ true) × (min x y ≤ now)) ⊎ ((nat_le (min x y) now ≡ false) × (now < min x y))
        → ((nat_le x now ≡ true) × (x ≤ now)) ⊎ ((nat_le x now ≡ false) × (now < x))
        → ((nat_le y now ≡ true) × (y ≤ now)) ⊎ ((nat_le y now ≡ false) × (now < y))
        → (nat_le y now || nat_le x now) ≡ false
    by (inl so) a b = absurd (false≢true (sym h ∙ so.0))
    by (inr less) (inl a) b = absurd (omega (arith, less.1, a.1))
    by (inr less) (inr a) (inl b) = absurd (omega (arith, less.1, b.1))
    by (inr less) (inr a) (inr b) = ap (λ (c : Bool). c || nat_le x now) b.0 ∙ a.0

not_given_up : (bounds : Bounds) (since now : ℕ) → has_ended_by (gives_up_at bounds since) now ≡ false
    → is_given_up bounds since now ≡ false
not_given_up bounds since now h = not_sooner bounds.until (passes_at bounds.limit since) now h

early : (stirred come : Bool) → (stirred ≡ true → ⊥) → (not stirred && come) ≡ false → come ≡ false
early true come h k = absurd (h refl)
early false come h k = k

-- ---- what goes on beside each place

-- one that is empty is slotless
pub empty_slotless : {M S : Type 0} (places : List (Place M S)) (at : ℕ) → slice_get places at ≡ Some Empty
    → IsSlotlessAt places at
empty_slotless places at is = (Empty, is, tt)

module _ {M S A W : Type 0} (agrees : M → M → List Told → Type 0) (wants : M → Wants)
    (did : S → S → List Deed → Type 0) where
  abbrev Sound : LoopValue M S → List (Outbound M A S W) → Type 0
  Sound l beside = IsNetworkSound agrees wants did l beside

  -- what stands in a place is of the same kind
  sound_kind : (p q : Place M S) (o : Outbound M A S W) → place_kind q ≡ place_kind p
      → (is_stirred p ≡ true → is_stirred q ≡ true)
      → IsOutboundSound agrees wants did p o → IsOutboundSound agrees wants did q o
  sound_kind p q outbound.Idle same stays h = λ until e. h until (sym same ∙ e)
  sound_kind p q (outbound.Trying machine dial) same stays (under, able, fresh, within) =
      (same ∙ under, able, fresh, within)
  sound_kind p q (outbound.Missed why) same stays (under, stirred) = (same ∙ under, stays stirred)

  pub sound_run : (l m : LoopValue M S) (beside : List (Outbound M A S W)) → StayOfKind l.places m.places
      → Sound l beside → Sound m beside
  sound_run l m beside k h = record {
    len = h.len ∙ sym k.len;
    each = λ i q o q_is o_is. through i q o q_is o_is
        (place_of l.places i (omega (arith, k.len, slice_get_within m.places i q q_is)));
  }
    where
      through : (i : ℕ) (q : Place M S) (o : Outbound M A S W) → slice_get m.places i ≡ Some q
          → slice_get beside i ≡ Some o → (p : Place M S) × (slice_get l.places i ≡ Some p)
          → IsOutboundSound agrees wants did q o
      through i q o q_is o_is (p, p_is) = sound_kind p q o (k.each i p q p_is q_is) (k.stirred i p q p_is q_is)
          (h.each i p o p_is o_is)

  -- what has come of a connection is put there
  fits : (machine : M) (bounds : Bounds) (now : ℕ) (came : Dialled A S W) → IsAble agrees wants machine
      → IfDialled came (λ stream. did stream stream []) → HasNextAddress came
      → IsOutboundSound agrees wants did (place_by machine bounds now came) (outbound_by machine came)
  fits machine bounds now (dialled.Made stream) able fresh within = λ until e. subst (λ (k : Kind). is_under k) (sym e) tt
  fits machine bounds now (dialled.Waits dial) able fresh within = (refl, able, fresh, within)
  fits machine bounds now (dialled.Missed why) able fresh within = (refl, refl)

  pub sound_settled : (l m : LoopValue M S) (beside after : List (Outbound M A S W)) (at : ℕ) (machine : M)
      (bounds : Bounds) (now : ℕ) (came : Dialled A S W) → length beside ≡ length l.places
      → ((i : ℕ) (p : Place M S) (o : Outbound M A S W) → (i ≡ at → ⊥) → slice_get l.places i ≡ Some p
      → slice_get beside i ≡ Some o → IsOutboundSound agrees wants did p o)
      → m.places ≡ slice_set l.places at (place_by machine bounds now came)
      → after ≡ slice_set beside at (outbound_by machine came) → IsAble agrees wants machine
      → IfDialled came (λ stream. did stream stream []) → HasNextAddress came → Sound m after
  sound_settled l m beside after at machine bounds now came len others placed set able fresh within = record {
    len = ap (λ (o : List (Outbound M A S W)). length o) set ∙ (length_set beside at (outbound_by machine came)
        ∙ (len ∙ (sym (length_set l.places at (place_by machine bounds now came))
        ∙ ap (λ (p : List (Place M S)). length p) (sym placed))));
    each = λ i p o p_is o_is. by i p o
        (set_cases l.places at (place_by machine bounds now came) i p
        (subst (λ (x : List (Place M S)). slice_get x i ≡ Some p) placed p_is))
        (set_cases beside at (outbound_by machine came) i o
        (subst (λ (x : List (Outbound M A S W)). slice_get x i ≡ Some o) set o_is));
  }
    where
      by : (i : ℕ) (p : Place M S) (o : Outbound M A S W)
          → ((i ≡ at) × (p ≡ place_by machine bounds now came)) ⊎ ((i ≡ at → ⊥) × (slice_get l.places i ≡ Some p))
          → ((i ≡ at) × (o ≡ outbound_by machine came)) ⊎ ((i ≡ at → ⊥) × (slice_get beside i ≡ Some o))
          → IsOutboundSound agrees wants did p o
      by i p o (inl (_, is_p)) (inl (_, is_o)) =
          subst (λ (x : Place M S). IsOutboundSound agrees wants did x o) (sym is_p)
          (subst (λ (x : Outbound M A S W). IsOutboundSound agrees wants did (place_by machine bounds now came) x)
          (sym is_o) (fits machine bounds now came able fresh within))
      by i p o (inl (e, _)) (inr (other, _)) = absurd (other e)
      by i p o (inr (other, _)) (inl (e, _)) = absurd (other e)
      by i p o (inr (other, p_is)) (inr (_, o_is)) = others i p o other p_is o_is

  -- something is there beside which nothing goes on
  sound_idle : (l m : LoopValue M S) (beside after : List (Outbound M A S W)) (at : ℕ) (x : Place M S)
      → IsOutboundSound {A = A} {W = W} agrees wants did x outbound.Idle → Sound l beside
      → m.places ≡ slice_set l.places at x
      → after ≡ slice_set beside at outbound.Idle → Sound m after
  sound_idle l m beside after at y idle_fits h placed set = record {
    len = ap (λ (o : List (Outbound M A S W)). length o) set ∙ (length_set beside at outbound.Idle
        ∙ (h.len ∙ (sym (length_set l.places at y) ∙ ap (λ (p : List (Place M S)). length p) (sym placed))));
    each = λ i p o p_is o_is. by i p o
        (set_cases l.places at y i p (subst (λ (x : List (Place M S)). slice_get x i ≡ Some p) placed p_is))
        (set_cases beside at outbound.Idle i o
        (subst (λ (x : List (Outbound M A S W)). slice_get x i ≡ Some o) set o_is));
  }
    where
      by : (i : ℕ) (p : Place M S) (o : Outbound M A S W)
          → ((i ≡ at) × (p ≡ y)) ⊎ ((i ≡ at → ⊥) × (slice_get l.places i ≡ Some p))
          → ((i ≡ at) × (o ≡ outbound.Idle)) ⊎ ((i ≡ at → ⊥) × (slice_get beside i ≡ Some o))
          → IsOutboundSound agrees wants did p o
      by i p o (inl (_, is_p)) (inl (_, is_o)) =
          subst (λ (x : Place M S). IsOutboundSound agrees wants did x o) (sym is_p)
          (subst (λ (x : Outbound M A S W). IsOutboundSound agrees wants did y x) (sym is_o) idle_fits)
      by i p o (inl (e, _)) (inr (other, _)) = absurd (other e)
      by i p o (inr (other, _)) (inl (e, _)) = absurd (other e)
      by i p o (inr (other, p_is)) (inr (_, o_is)) = h.each i p o p_is o_is

  -- nothing is there any more
  pub sound_taken : (l m : LoopValue M S) (beside after : List (Outbound M A S W)) (at : ℕ) → Sound l beside
      → m.places ≡ slice_set l.places at Empty → after ≡ slice_set beside at outbound.Idle → Sound m after
  sound_taken l m beside after at h placed set = sound_idle l m beside after at Empty
      (λ until e. subst (λ (k : Kind). is_under k) (sym e) tt) h placed set

  -- a slot is put there
  pub sound_put : (l m : LoopValue M S) (beside after : List (Outbound M A S W)) (at : ℕ) (slot : Slot M S)
      → Sound l beside → m.places ≡ slice_set l.places at (Open slot) → after ≡ slice_set beside at outbound.Idle
      → Sound m after
  sound_put l m beside after at slot h placed set = sound_idle l m beside after at (Open slot)
      (λ until e. subst (λ (k : Kind). is_under k) (sym e) tt) h placed set

  pub sound_new : (l : LoopValue M S) (beside : List (Outbound M A S W)) (len : ℕ) → length l.places ≡ len
      → AreEmpty l.places → AreIdle len beside → Sound l beside
  sound_new l beside len places empty idle = record {
    len = idle.places ∙ sym places;
    each = λ i p o p_is o_is. subst (λ (x : Place M S). IsOutboundSound agrees wants did x o) (sym (empty i p p_is))
        (subst (λ (x : Outbound M A S W). IsOutboundSound agrees wants did Empty x) (sym (idle.idle i o o_is))
        (λ until e. subst (λ (k : Kind). is_under k) (sym e) tt));
  }

  -- ---- how a place stands

  abbrev is_taken : Standing M S A W → Type 0
  is_taken Free = ⊥
  is_taken (Served slot) = ⊤
  is_taken Broke = ⊤
  is_taken (Trying machine dial) = ⊤
  is_taken (Lost why) = ⊤

  not_free : (x : Standing M S A W) → is_taken x → x ≡ Free → ⊥
  not_free x taken e = subst (λ (y : Standing M S A W). is_taken y) e taken

  -- one in which nothing stands is empty
  pub free_is : (p : Place M S) (o : Outbound M A S W) → IsOutboundSound agrees wants did p o → standing_of p o ≡ Free
      → p ≡ Empty
  free_is Empty o h e = refl
  free_is (Open slot) o h e = absurd (not_free (Served slot) tt e)
  free_is Broken o h e = absurd (not_free Broke tt e)
  free_is (Pending watch) outbound.Idle h e = absurd (h watch.until refl)
  free_is (Pending watch) (outbound.Trying machine dial) h e = absurd (not_free (Trying machine dial) tt e)
  free_is (Pending watch) (outbound.Missed why) h e = absurd (not_free (Lost why) tt e)

  pub free_place : (l : LoopValue M S) (beside : List (Outbound M A S W)) (at : ℕ) → Sound l beside
      → slice_get (zip_by standing_of l.places beside) at ≡ Some Free → slice_get l.places at ≡ Some Empty
  free_place l beside at h e =
      let (p, o, p_is, o_is, so) = zip_of standing_of l.places beside at Free e in
      p_is ∙ ap (λ (x : Place M S). Some x) (free_is p o (h.each at p o p_is o_is) (sym so))

  -- the first one is
  pub first_free : (l : LoopValue M S) (beside : List (Outbound M A S W)) (found : Option ℕ) → Sound l beside
      → MatchOption found (AreOccupied l.places (length l.places))
      (λ at. IsFirstFree l.places at × (slice_get l.places at ≡ Some Empty))
      → MatchOption found (NoneIsFree (zip_by standing_of l.places beside))
      (IsFirstOfFree (zip_by standing_of l.places beside))
  first_free l beside None h occupied = λ i e.
      let empty = free_place l beside i h e in
      false≢true (sym (occupied i Empty (slice_get_within l.places i Empty empty) empty))
  first_free l beside (Some at) h (first, is) =
      let (o, o_is) = place_of beside at (omega (arith, h.len, slice_get_within l.places at Empty is)) in (
        zip_get standing_of l.places beside at Empty o is o_is,
        λ i lt e. false≢true (sym (first.first i Empty lt (free_place l beside i h e))),
      )

  pub all_free : (l : LoopValue M S) (beside : List (Outbound M A S W)) → AreEmpty l.places
      → AreFree (zip_by standing_of l.places beside)
  all_free l beside empty i x e =
      let (p, o, p_is, o_is, so) = zip_of standing_of l.places beside i x e in
      so ∙ ap (λ (q : Place M S). standing_of q o) (empty i p p_is)

  -- what has ended there
  over_so : (p : Place M S) (o : Outbound M A S W) → IsOutboundSound agrees wants did p o
      → ((machine : M) (dial : Dial A S W) → o ≡ outbound.Trying machine dial → ⊥) → IsPlaceOver wants p
      → IsOverThere wants (standing_of p o)
  over_so Empty o h not_trying over = absurd over
  over_so (Open slot) o h not_trying over = over
  over_so Broken o h not_trying over = tt
  over_so (Pending watch) outbound.Idle h not_trying over = absurd (h watch.until refl)
  over_so (Pending watch) (outbound.Trying machine dial) h not_trying over = absurd (not_trying machine dial refl)
  over_so (Pending watch) (outbound.Missed why) h not_trying over = tt

  pub ended_so : (l : LoopValue M S) (beside : List (Outbound M A S W)) (at : ℕ) → Sound l beside
      → (IsTryingAt beside at → ⊥) → IsOverAt wants l.places at → IsFirstToEnd l.tickets at
      → IsStandingOver wants (zip_by standing_of l.places beside) at
      × IsFirstToEnd (zip_by own_ticket l.tickets beside) at
  ended_so l beside at h not_trying (p, p_is, over) first =
      let (o, o_is) = place_of beside at (omega (arith, h.len, slice_get_within l.places at p p_is)) in
      let not_so : (machine : M) (dial : Dial A S W) → o ≡ outbound.Trying machine dial → ⊥ =
      λ machine dial e. not_trying (machine, dial, o_is ∙ ap (λ (x : Outbound M A S W). Some x) e) in (
        (
          standing_of p o,
          zip_get standing_of l.places beside at p o p_is o_is,
          over_so p o (h.each at p o p_is o_is) not_so over,
        ),
        first_counts l.tickets beside at o o_is (counted o not_so) first,
      )
    where
      counted : (o : Outbound M A S W) → ((machine : M) (dial : Dial A S W) → o ≡ outbound.Trying machine dial → ⊥)
          → (k : Option ℕ) → own_ticket k o ≡ k
      counted outbound.Idle h k = refl
      counted (outbound.Trying machine dial) h k = absurd (h machine dial refl)
      counted (outbound.Missed why) h k = refl

  -- where no place is over, nothing has ended: one that was missed was stirred
  none_over : (l : LoopValue M S) (beside : List (Outbound M A S W)) → Sound l beside → NoneIsOver wants l.places
      → NoneIsOverThere wants (zip_by standing_of l.places beside)
  none_over l beside h none i (x, x_is, over) =
      let (p, o, p_is, o_is, so) = zip_of standing_of l.places beside i x x_is in
      by p o p_is (h.each i p o p_is o_is) (subst (λ (y : Standing M S A W). IsOverThere wants y) so over)
    where
      by : (p : Place M S) (o : Outbound M A S W) → slice_get l.places i ≡ Some p
          → IsOutboundSound agrees wants did p o → IsOverThere wants (standing_of p o) → ⊥
      by Empty o p_is fits there = there
      by (Open slot) o p_is fits there = none i (Open slot, p_is, there)
      by Broken o p_is fits there = none i (Broken, p_is, tt)
      by (Pending watch) outbound.Idle p_is fits there = there
      by (Pending watch) (outbound.Trying machine dial) p_is fits there = there
      by (Pending watch) (outbound.Missed why) p_is (under, stirred) there = none i (Pending watch, p_is, stirred)

  -- no more time, or nothing is there
  pub by_other : (l : LoopValue M S) (beside : List (Outbound M A S W)) (until : Option ℕ) (now : ℕ) (happened : Ending)
      → Sound l beside → (happened ≡ ending.TooLate) ⊎ (happened ≡ ending.NoSlot) → IsEnding wants until now l happened
      → IsNetworkEnding wants until now (network_value l beside) happened
  by_other l beside until now happened sound (inl e) h =
      let (come, none) = subst (λ (x : Ending). IsEnding wants until now l x) e h in
      subst (λ (x : Ending). IsNetworkEnding wants until now (network_value l beside) x) (sym e)
      (come, none_over l beside sound none)
  by_other l beside until now happened sound (inr e) h = subst (λ (x : Ending). IsNetworkEnding wants until now
      (network_value l beside) x) (sym e)
      (all_free l beside (subst (λ (x : Ending). IsEnding wants until now l x) e h))

  -- each was served by the time that has come
  standings_served : (l : LoopValue M S) (beside : List (Outbound M A S W)) (now : ℕ) → Sound l beside
      → NoneIsOver wants l.places → AreServedInTime agrees wants did now l.places
      → AreStandingsServed agrees wants did now (zip_by standing_of l.places beside)
  standings_served l beside now h none served i x is =
      let (p, o, p_is, o_is, so) = zip_of standing_of l.places beside i x is in
      subst (λ (y : Standing M S A W). IsStandingServed agrees wants did now y) (sym so)
      (by p o p_is o_is (served i p p_is))
    where
      by : (p : Place M S) (o : Outbound M A S W) → slice_get l.places i ≡ Some p → slice_get beside i ≡ Some o
          → IsServedInTime agrees wants did now p → IsStandingServed agrees wants did now (standing_of p o)
      by Empty o p_is o_is in_time = tt
      by Broken o p_is o_is in_time = tt
      by (Open slot) o p_is o_is in_time = in_time
      by (Pending watch) outbound.Idle p_is o_is in_time = tt
      by (Pending watch) (outbound.Missed why) p_is o_is in_time = tt
      by (Pending watch) (outbound.Trying machine dial) p_is o_is in_time =
          not_given_up dial.tries.bounds dial.since now (subst (λ (t : Option ℕ). has_ended_by t now ≡ false)
          (ap until_of (h.each i (Pending watch) (outbound.Trying machine dial) p_is o_is).0)
          (early watch.stirred (has_ended_by watch.until now) (λ e. none i (Pending watch, p_is, e)) in_time))

  pub served_there : (l : LoopValue M S) (beside : List (Outbound M A S W)) (until : Option ℕ) (now : ℕ)
      (tickets : List (Option ℕ)) (happened : Ending) → (happened ≡ ending.TooLate) ⊎ (happened ≡ ending.NoSlot)
      → Sound l beside → IsEnding wants until now l happened
      → IfRoundMade tickets happened (AreServedInTime agrees wants did now l.places)
      → IfTooLate happened (AreStandingsServed agrees wants did now (zip_by standing_of l.places beside))
  served_there l beside until now tickets happened (inl e) h ends served = subst (λ (x : Ending). IfTooLate x
      (AreStandingsServed agrees wants did now (zip_by standing_of l.places beside))) (sym e)
      (standings_served l beside now h (subst (λ (x : Ending). IsEnding wants until now l x) e ends).1
      (subst (λ (x : Ending). IfRoundMade tickets x (AreServedInTime agrees wants did now l.places)) e served))
  served_there l beside until now tickets happened (inr e) h ends served = subst (λ (x : Ending). IfTooLate x
      (AreStandingsServed agrees wants did now (zip_by standing_of l.places beside))) (sym e) tt

  -- what has come of a connection, as its place stands then
  pub settles : (machine : M) (bounds : Bounds) (now : ℕ) (came : Dialled A S W)
      → standing_of (place_by machine bounds now came) (outbound_by machine came)
      ≡ standing_by machine bounds now came
  settles machine bounds now (dialled.Made stream) = refl
  settles machine bounds now (dialled.Waits dial) = refl
  settles machine bounds now (dialled.Missed why) = refl

  pub stands_so : (places after : List (Place M S)) (beside next : List (Outbound M A S W)) (at : ℕ) (machine : M)
      (bounds : Bounds) (now : ℕ) (came : Dialled A S W)
      → after ≡ slice_set places at (place_by machine bounds now came)
      → next ≡ slice_set beside at (outbound_by machine came)
      → zip_by standing_of after next
      ≡ slice_set (zip_by standing_of places beside) at (standing_by machine bounds now came)
  stands_so places after beside next at machine bounds now came placed set =
      ap (λ (p : List (Place M S)). zip_by standing_of p next) placed
      ∙ (ap (λ (o : List (Outbound M A S W)). zip_by standing_of (slice_set places at
      (place_by machine bounds now came)) o) set
      ∙ (zip_set standing_of places beside at (place_by machine bounds now came) (outbound_by machine came)
      ∙ ap (λ (x : Standing M S A W). slice_set (zip_by standing_of places beside) at x)
      (settles machine bounds now came)))

  -- a connection that is under way fits its place
  pub trying_fits : (l : LoopValue M S) (beside : List (Outbound M A S W)) (at : ℕ) (machine : M) (dial : Dial A S W)
      → Sound l beside → slice_get beside at ≡ Some (outbound.Trying machine dial)
      → IsAble agrees wants machine × did dial.stream dial.stream []
      × ((address : A) × (slice_get dial.tries.addresses.items dial.tries.missed ≡ Some address))
  trying_fits l beside at machine dial h is =
      let (p, p_is) = place_of l.places at
      (omega (arith, h.len, slice_get_within beside at (outbound.Trying machine dial) is)) in
      let (under, able, fresh, within) = h.each at p (outbound.Trying machine dial) p_is is in (able, fresh, within)

  -- there is something beside each place
  pub within_beside : (l : LoopValue M S) (beside : List (Outbound M A S W)) (at : ℕ) → Sound l beside
      → at < length (zip_by standing_of l.places beside) → at < length beside
  within_beside l beside at h lt = omega (arith, lt, zip_len standing_of l.places beside h.len, h.len)

  pub within_places : (l : LoopValue M S) (beside : List (Outbound M A S W)) (at : ℕ) → Sound l beside
      → at < length (zip_by standing_of l.places beside) → at < length l.places
  within_places l beside at h lt = omega (arith, lt, zip_len standing_of l.places beside h.len)

  -- what is handed out of it
  pub taken_so : (l : LoopValue M S) (beside : List (Outbound M A S W)) (at : ℕ) (p : Place M S) (o : Outbound M A S W)
      (came : Taken M S W) → slice_get l.places at ≡ Some p → slice_get beside at ≡ Some o
      → IsHandedOutAs agrees wants (standing_of p o) came
      → IsHandedOut agrees wants (zip_by standing_of l.places beside) at came
  taken_so l beside at p o came p_is o_is took =
      (standing_of p o, zip_get standing_of l.places beside at p o p_is o_is, took)

  pub taken_pending : (l : LoopValue M S) (beside : List (Outbound M A S W)) (at : ℕ) (watch : Watch)
      (o : Outbound M A S W) → Sound l beside → slice_get l.places at ≡ Some (Pending watch)
      → slice_get beside at ≡ Some o
      → IsHandedOutAs agrees wants (standing_of (Pending watch) o) (handed_out o)
  taken_pending l beside at watch o h p_is o_is = by o (h.each at (Pending watch) o p_is o_is)
    where
      by : (b : Outbound M A S W) → IsOutboundSound agrees wants did (Pending watch) b
          → IsHandedOutAs agrees wants (standing_of (Pending watch) b) (handed_out b)
      by outbound.Idle fits = absurd (fits watch.until refl)
      by (outbound.Trying machine dial) fits = refl
      by (outbound.Missed why) fits = refl

  -- something stands in a place beside which nothing goes on: nothing any more, or a slot that was put there
  stands_idle : (l : LoopValue M S) (beside after : List (Outbound M A S W)) (at : ℕ) (places : List (Place M S))
      (x : Place M S) → places ≡ slice_set l.places at x → after ≡ slice_set beside at outbound.Idle
      → zip_by standing_of places after
      ≡ slice_set (zip_by standing_of l.places beside) at (standing_of x outbound.Idle)
  stands_idle l beside after at places x placed set =
      ap (λ (p : List (Place M S)). zip_by standing_of p after) placed
      ∙ (ap (λ (o : List (Outbound M A S W)). zip_by standing_of (slice_set l.places at x) o) set
      ∙ zip_set standing_of l.places beside at x outbound.Idle)

  pub freed : (l : LoopValue M S) (beside after : List (Outbound M A S W)) (at : ℕ) (places : List (Place M S))
      → places ≡ slice_set l.places at Empty → after ≡ slice_set beside at outbound.Idle
      → zip_by standing_of places after ≡ slice_set (zip_by standing_of l.places beside) at Free
  freed l beside after at places placed set = stands_idle l beside after at places Empty placed set

  pub put_there : (l : LoopValue M S) (beside after : List (Outbound M A S W)) (at : ℕ) (places : List (Place M S))
      (slot : Slot M S) → places ≡ slice_set l.places at (Open slot) → after ≡ slice_set beside at outbound.Idle
      → zip_by standing_of places after ≡ slice_set (zip_by standing_of l.places beside) at (Served slot)
  put_there l beside after at places slot placed set = stands_idle l beside after at places (Open slot) placed set

  -- a connection that is under way is in a place in which no slot stands
  pub trying_slotless : (l : LoopValue M S) (beside : List (Outbound M A S W)) (at : ℕ) → Sound l beside
      → IsTryingAt beside at → IsSlotlessAt l.places at
  trying_slotless l beside at h (machine, dial, is) =
      let (p, p_is) = place_of l.places at
      (omega (arith, h.len, slice_get_within beside at (outbound.Trying machine dial) is)) in
      (p, p_is, by p (h.each at p (outbound.Trying machine dial) p_is is).0)
    where
      until : Option ℕ
      until = gives_up_at dial.tries.bounds dial.since

      by : (p : Place M S) → place_kind p ≡ UnderWay until → IsSlotless p
      by Empty e = tt
      by (Open slot) e = subst (λ (k : Kind). is_under k) (sym e) tt
      by (Pending watch) e = tt
      by Broken e = subst (λ (k : Kind). is_under k) (sym e) tt

-- ---- its places come on

module _ {M S A W K N : Type 0} (agrees : M → M → List Told → Type 0) (wants : M → Wants)
    (did : S → S → List Deed → Type 0) (heard : K → K → List (ℕ × List ℕ) → Type 0)
    (does : N → N → List (NetworkDeed A W) → Type 0) where
  abbrev Come : ℕ → ℕ → List (Standing M S A W) → List (Standing M S A W) → K → K → N → N → Type 0
  Come from to old new s t n m = HaveComeOn agrees wants did heard does from to old new s t n m

  -- nothing happens
  pub comes_still : (from to : ℕ) (standings : List (Standing M S A W)) (s : K) (n : N) → from ≤ to
      → Come from to standings standings s s n n
  comes_still from to standings s n le = record {
    later = le;
    len = refl;
    lines = [];
    put = put_nothing heard s;
    within = tt;
    deeds = [];
    added = added_none does n;
    own = tt;
    each = λ i x y x_is y_is. subst (λ (z : Standing M S A W). HasComeOn agrees wants did from to i x z [] [])
        (same_Some x y (sym x_is ∙ y_is)) (still_comes agrees wants did i from to x le);
  }

  -- one thing after the other
  pub comes_then : (from mid to : ℕ) (a b c : List (Standing M S A W)) (s t u : K) (n m o : N)
      → Come from mid a b s t n m → Come mid to b c t u m o → Come from to a c s u n o
  comes_then from mid to a b c s t u n m o h k = record {
    later = omega (arith, h.later, k.later);
    len = k.len ∙ h.len;
    lines = h.lines ++ k.lines;
    put = put_then heard s t u h.lines k.lines h.put k.put;
    within = within_then (length a) h.lines k.lines h.within
        (subst (λ (l : ℕ). AreLinesOfPlaces l k.lines) h.len k.within);
    deeds = h.deeds ++ k.deeds;
    added = added_then does n m o h.deeds k.deeds h.added k.added;
    own = places_then (length a) h.deeds k.deeds h.own
        (subst (λ (l : ℕ). AreOfPlaces l k.deeds) h.len k.own);
    each = λ i x z x_is z_is. through i x z x_is z_is
        (place_of b i (omega (arith, h.len, slice_get_within a i x x_is)));
  }
    where
      through : (i : ℕ) (x z : Standing M S A W) → slice_get a i ≡ Some x → slice_get c i ≡ Some z
          → (y : Standing M S A W) × (slice_get b i ≡ Some y)
          → HasComeOn agrees wants did from to i x z (lines_at i (h.lines ++ k.lines)) (deeds_at i (h.deeds ++ k.deeds))
      through i x z x_is z_is (y, y_is) =
          subst (λ (l : List (List ℕ)). HasComeOn agrees wants did from to i x z l (deeds_at i (h.deeds ++ k.deeds)))
          (sym (lines_then i h.lines k.lines))
          (subst (λ (l : List (NetworkDeed A W)). HasComeOn agrees wants did from to i x z
          (lines_at i h.lines ++ lines_at i k.lines) l) (sym (deeds_then i h.deeds k.deeds))
          (come_then agrees wants did i from mid to h.later k.later x y z (lines_at i h.lines) (lines_at i k.lines)
          (deeds_at i h.deeds) (deeds_at i k.deeds) (h.each i x y x_is y_is) (k.each i y z y_is z_is)))

  -- rounds, in which nobody is asked for
  pub run_comes : (from to : ℕ) (l m : LoopValue M S) (beside : List (Outbound M A S W)) (s t : K) (n : N) → from ≤ to
      → length beside ≡ length l.places → HaveRun agrees wants did heard from to l.places m.places s t
      → Come from to (zip_by standing_of l.places beside) (zip_by standing_of m.places beside) s t n n
  run_comes from to l m beside s t n le beside_len h = record {
    later = le;
    len = zip_alike standing_of l.places m.places beside beside h.len refl;
    lines = h.all;
    put = h.put;
    within = subst (λ (c : ℕ). AreLinesOfPlaces c h.all) (sym (zip_len standing_of l.places beside beside_len)) h.within;
    deeds = [];
    added = added_none does n;
    own = tt;
    each = λ i x y x_is y_is.
        let (p, o, p_is, o_is, x_so) = zip_of standing_of l.places beside i x x_is in
        let (q, o2, q_is, o2_is, y_so) = zip_of standing_of m.places beside i y y_is in
        let same : o2 ≡ o = same_Some o2 o (sym o2_is ∙ o_is) in
        subst (λ (z : Standing M S A W). HasComeOn agrees wants did from to i z y (lines_at i h.all) []) (sym x_so)
        (subst (λ (z : Standing M S A W). HasComeOn agrees wants did from to i (standing_of p o) z (lines_at i h.all) [])
        (sym (y_so ∙ ap (λ (b : Outbound M A S W). standing_of q b) same))
        (gone_comes agrees wants did i from to p q o (lines_at i h.all) (h.each i p q p_is q_is)));
  }

  -- a connection is asked for
  pub ask_comes : (at now : ℕ) (l : LoopValue M S) (new : List (Place M S)) (before after : List (Outbound M A S W))
      (s : K) (n m : N) (h : HasAskedAt did does at now l.places new before after n m)
      → IsNetworkSound agrees wants did l before
      → Come now now (zip_by standing_of l.places before) (zip_by standing_of new after) s s n m
  ask_comes at now l new before after s n m h sound =
      let (p, p_is) = place_of old at
      (omega (arith, sound.len, slice_get_within before at (outbound.Trying h.machine h.dial) h.trying)) in
      with_place p p_is
    where
      old : List (Place M S)
      old = l.places

      bounds : Bounds
      bounds = h.dial.tries.bounds

      parts : zip_by standing_of new after
          ≡ slice_set (zip_by standing_of old before) at (standing_by h.machine bounds now h.came)
      parts = stands_so agrees wants did old new before after at h.machine bounds now h.came h.places h.beside

      under : (p : Place M S) → place_kind p ≡ UnderWay (gives_up_at h.dial.tries.bounds h.dial.since)
          → standing_of p (outbound.Trying h.machine h.dial) ≡ Trying h.machine h.dial
      under Empty e = absurd (subst (λ (k : Kind). is_under k) (sym e) tt)
      under (Open slot) e = absurd (subst (λ (k : Kind). is_under k) (sym e) tt)
      under (Pending watch) e = refl
      under Broken e = absurd (subst (λ (k : Kind). is_under k) (sym e) tt)

      with_place : (p : Place M S) → slice_get old at ≡ Some p
          → Come now now (zip_by standing_of old before) (zip_by standing_of new after) s s n m
      with_place p p_is = record {
        later = omega arith;
        len = ap (λ (l : List (Standing M S A W)). length l) parts
            ∙ length_set (zip_by standing_of old before) at (standing_by h.machine bounds now h.came);
        lines = [];
        put = put_nothing heard s;
        within = tt;
        deeds = h.dialled.deeds;
        added = h.dialled.added;
        own = places_own (length (zip_by standing_of old before)) at h.dialled.deeds
            (slice_get_within (zip_by standing_of old before) at (Trying h.machine h.dial) there) h.dialled.own;
        each = λ i x y x_is y_is. by i x y x_is (set_cases (zip_by standing_of old before) at
            (standing_by h.machine bounds now h.came) i y
            (subst (λ (l : List (Standing M S A W)). slice_get l i ≡ Some y) parts y_is));
      }
        where
          there : slice_get (zip_by standing_of old before) at ≡ Some (Trying h.machine h.dial)
          there = zip_get standing_of old before at p (outbound.Trying h.machine h.dial) p_is h.trying
              ∙ ap (λ (x : Standing M S A W). Some x)
              (under p (sound.each at p (outbound.Trying h.machine h.dial) p_is h.trying).0)

          by : (i : ℕ) (x y : Standing M S A W) → slice_get (zip_by standing_of old before) i ≡ Some x
              → ((i ≡ at) × (y ≡ standing_by h.machine bounds now h.came))
              ⊎ ((i ≡ at → ⊥) × (slice_get (zip_by standing_of old before) i ≡ Some y))
              → HasComeOn agrees wants did now now i x y [] (deeds_at i h.dialled.deeds)
          by i x y x_is (inl (e, is_y)) =
              let is_x : Trying h.machine h.dial ≡ x = same_Some (Trying h.machine h.dial) x
              (sym there ∙ subst (λ (k : ℕ). slice_get (zip_by standing_of old before) k ≡ Some x) e x_is) in
              subst (λ (k : ℕ). HasComeOn agrees wants did now now k x y [] (deeds_at k h.dialled.deeds)) (sym e)
              (subst (λ (l : List (NetworkDeed A W)). HasComeOn agrees wants did now now at x y [] l)
              (sym (deeds_own at h.dialled.deeds h.dialled.own))
              (subst (λ (z : Standing M S A W). HasComeOn agrees wants did now now at z y [] h.dialled.deeds) is_x
              (subst (λ (z : Standing M S A W). HasComeOn agrees wants did now now at (Trying h.machine h.dial) z []
              h.dialled.deeds) (sym is_y)
              (asked_comes agrees wants did does at now h.machine h.dial h.came n m h.dialled h.fresh))))
          by i x y x_is (inr (other, y_is)) =
              subst (λ (l : List (NetworkDeed A W)). HasComeOn agrees wants did now now i x y [] l)
              (sym (deeds_other at i h.dialled.deeds h.dialled.own other))
              (subst (λ (z : Standing M S A W). HasComeOn agrees wants did now now i x z [] [])
              (same_Some x y (sym x_is ∙ y_is)) (still_comes agrees wants did i now now x (omega arith)))
