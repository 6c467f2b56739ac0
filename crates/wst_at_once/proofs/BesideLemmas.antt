-- Each case stands beside its machine: one more is begun, time passes, and the oldest is told of.
use Rattle.std.proofs.Common.{◌≡◌, ◌∙◌, ℕ, zero, suc, ◌+◌, ◌<◌, ◌⊎◌, List, [], ◌∷◌, ◌++◌, Some}
use Rattle.std.proofs.Common.{length, refl, sym, ap, subst, inl, inr, arith, Bool, false, true}
use Rattle.std.specs.List.{slice_get}
use Rattle.std.proofs.lemmas.Option.{none-some, same_Some}
use Rattle.std.proofs.lemmas.List.{length-append}
use Rattle.ws_loops.specs.Deeds.{Deed, all_done}
use Rattle.ws_networks.specs.Bounds.{bounds_from}
use Rattle.ws_connection.specs.Probing.{BeginsProbe, bytes_by_turn}
use Rattle.ws_handshake.specs.Probes.{ProbeGives, ProbeValue, WasProbed, wanted_of}
use Rattle.ws_handshake.specs.declared.probe_end.Probe.{Probe}
use Rattle.ws_scripts.specs.declared.script.Case.{Case}
use Rattle.wst_network.specs.declared.connector.ConnectMiss.{ConnectMiss}
use Rattle.wst_errands.specs.Errands.{ErrandsValue, HasItsPlaces, IsErrandEnd, KeepsLine}
use Rattle.wst_errands.specs.Errands.{count_under_way, is_stage_over}
use Rattle.wst_errands.specs.declared.errands.Came.{Came}
use Rattle.wst_errands.specs.declared.errands.Came.TheVariants.{Ended, GivenUp, NotMade}
use Rattle.wst_errands.specs.declared.errands.Stage.{Stage}
use Rattle.wst_errands.specs.declared.errands.Stage.TheVariants.{Over, UnderWay}
use Rattle.wst_errands.proofs.LineLemmas.{first_end, first_moves, some_way}
use Rattle.wst_sockets.specs.Meetings.{probe_of}
use Rattle.wst_sockets.specs.declared.meeting.Meeting.{Meeting}
use Rattle.wst_testing.specs.Servers.{AddressValue, IsProbedSo, MeetsAtAddress, limits_of_server, plan_at}
use Rattle.wst_testing.specs.Servers.{reason_of_end}
use Rattle.wst_testing.proofs.LoopLemmas.{ended_listed, probe_at}
use Rattle.wst_at_once.specs.Crowds.{AreUnderWay, HasConnectedFor, IsBegunFor, IsMeetingOf, IsNewLine}

-- what stands at a place of a list and one more
more_cases : {X : Type 0} (xs : List X) (y : X) (i : ℕ) (x : X) → slice_get (xs ++ y ∷ []) i ≡ Some x
    → (slice_get xs i ≡ Some x) ⊎ ((i ≡ length xs) × (x ≡ y))
more_cases {X} [] y zero x e = inr (refl, sym (same_Some y x e))
more_cases {X} [] y (suc i) x e = absurd (none-some x e)
more_cases {X} (z ∷ xs) y zero x e = inl e
more_cases {X} (z ∷ xs) y (suc i) x e = one_on (more_cases xs y i x e)
  where
    one_on : (slice_get xs i ≡ Some x) ⊎ ((i ≡ length xs) × (x ≡ y))
        → (slice_get xs i ≡ Some x) ⊎ ((suc i ≡ suc (length xs)) × (x ≡ y))
    one_on (inl front) = inl front
    one_on (inr (last, same)) = inr (ap (λ (k : ℕ). suc k) last, same)

-- one is under way, where the first isn't over
pub first_waits : (line : List (Stage Probe ConnectMiss)) → 0 < length line → is_stage_over (slice_get line 0) ≡ false
    → 0 < count_under_way line
first_waits [] lt e = absurd (omega (arith, lt))
first_waits (UnderWay at ∷ line) lt e = some_way (UnderWay at ∷ line) 0 at refl
first_waits (Over came ∷ line) lt e = absurd (cc)

-- or none was begun, and more can be
pub one_waits : {J : Type 0} (more : Bool) (items : List J) (line : List (Stage Probe ConnectMiss))
    → length items ≡ length line → is_stage_over (slice_get line 0) ≡ false
    → (more ≡ true → length items ≡ 0 → 0 < count_under_way line) → (more ≡ true) ⊎ (0 < length items)
    → 0 < count_under_way line
one_waits more [] line many e busy (inl on) = busy on refl
one_waits more [] line many e busy (inr some) = absurd (omega (arith, some))
one_waits more (x ∷ items) line many e busy goes = first_waits line (omega (arith, many)) e

-- ---- what comes of a case

module _ {S : Type 0} (did : S → S → List Deed → Type 0) (server : AddressValue) (key : List ℕ) (case : Case) where
  pub meets_by : (start : ProbeValue) (begun : ℕ)
      → BeginsProbe (plan_at server) (bytes_by_turn case (Some key)) server.request server.budget start
      → (came : Came Probe ConnectMiss) (meeting : Meeting)
      → IsErrandEnd {S = S} WasProbed (λ (x : ProbeValue). wanted_of x) ProbeGives did start
      (bounds_from (limits_of_server server) begun) begun came → IsMeetingOf came meeting
      → MeetsAtAddress server key case meeting
  meets_by start begun begins (Ended probe how) meeting (made, to, later, (stream, ended)) is =
      let told = ap (λ (m : Meeting). probe_of m) is ∙ probe_at probe (reason_of_end how) in
      inr (subst (λ (p : Probe). IsProbedSo server key case p) (sym told) (record {
        start = start;
        begins = begins;
        begun = begun;
        made = made;
        in_order = later;
        to = to;
        did = all_done ended.happened;
        ended = ended_listed WasProbed (λ (v : ProbeValue). wanted_of v) did ProbeGives
            (bounds_from (limits_of_server server) begun) made to start probe stream ended;
      }))
  meets_by start begun begins (NotMade why) meeting ended is = inl (ap (λ (m : Meeting). probe_of m) is)
  meets_by start begun begins GivenUp meeting ended is = inl (ap (λ (m : Meeting). probe_of m) is)

-- ---- the line beside the cases

module _ {S A I J : Type 0} (did : S → S → List Deed → Type 0) (case_of : I → Case) (kept_item : J → I)
    (server : AddressValue) (key : List ℕ) where
  -- none was begun
  pub none_stands : (most now : ℕ) (errands : ErrandsValue ProbeValue A S ConnectMiss Probe) (items : List J)
      → 0 < most → IsNewLine most errands → items ≡ []
      → AreUnderWay did case_of kept_item server key errands items now
  none_stands most now errands items some new none = record {
    many = ap (λ (l : List J). length l) none ∙ sym (ap (λ (l : List (Stage Probe ConnectMiss)). length l) new.none);
    each = λ place item e. absurd (none-some item (sym (ap (λ (l : List J). slice_get l place) none) ∙ e));
    places = new.places;
    some = omega (arith, some, new.at_once);
  }

  -- all have come on
  pub stand_on : (from to : ℕ) (old new : ErrandsValue ProbeValue A S ConnectMiss Probe) (items : List J)
      → AreUnderWay did case_of kept_item server key old items from
      → KeepsLine WasProbed (λ (x : ProbeValue). wanted_of x) ProbeGives did from to old new
      → length new.line ≡ length old.line → HasItsPlaces new → new.at_once ≡ old.at_once
      → AreUnderWay did case_of kept_item server key new items to
  stand_on from to old new items h keeps len places at_once = record {
    many = h.many ∙ sym len;
    each = λ place item e. each (case_of (kept_item item)) place (h.each place item e);
    places = places;
    some = omega (arith, h.some, at_once);
  }
    where
      each : (case : Case) (place : ℕ) → IsBegunFor did server key case old place from
          → IsBegunFor did server key case new place to
      each case place (start, begun, begins, stands) =
          (start, begun, begins, keeps place start (bounds_from (limits_of_server server) begun) begun stands)

  -- one more was begun
  pub stand_more : (from to : ℕ) (old new : ErrandsValue ProbeValue A S ConnectMiss Probe) (items : List J) (item : J)
      (machine : ProbeValue)
      → AreUnderWay did case_of kept_item server key old items from
      → BeginsProbe (plan_at server) (bytes_by_turn (case_of (kept_item item)) (Some key)) server.request server.budget
      machine → HasConnectedFor did server old new from to machine
      → AreUnderWay did case_of kept_item server key new (items ++ item ∷ []) to
  stand_more from to old new items item machine h begins connected = record {
    many = omega (arith, h.many, connected.len, length-append items (item ∷ []));
    each = λ place it e. each place it (more_cases items item place it e);
    places = connected.places ∙ h.places ∙ sym connected.at_once;
    some = omega (arith, h.some, connected.at_once);
  }
    where
      each : (place : ℕ) (it : J)
          → (slice_get items place ≡ Some it) ⊎ ((place ≡ length items) × (it ≡ item))
          → IsBegunFor did server key (case_of (kept_item it)) new place to
      each place it (inl front) =
          let (start, begun, first, stands) = h.each place it front in
          (start, begun, first, connected.others place start (bounds_from (limits_of_server server) begun) begun stands)
      each place it (inr (last, same)) =
          subst (λ (x : J). IsBegunFor did server key (case_of (kept_item x)) new place to) (sym same)
          (subst (λ (k : ℕ). IsBegunFor did server key (case_of (kept_item item)) new k to)
          (sym (last ∙ h.many)) (machine, to, begins, connected.stands))

  -- the oldest was handed out
  pub stand_less : (now : ℕ) (old new : ErrandsValue ProbeValue A S ConnectMiss Probe) (before after : List J)
      (item : J) (came : Came Probe ConnectMiss) → AreUnderWay did case_of kept_item server key old before now
      → before ≡ item ∷ after → old.line ≡ Over came ∷ new.line → new.standings ≡ old.standings
      → new.at_once ≡ old.at_once → AreUnderWay did case_of kept_item server key new after now
  stand_less now old new before after item came h first over standings at_once = record {
    many = omega (
      arith,
      h.many,
      ap (λ (l : List (Stage Probe ConnectMiss)). length l) over,
      ap (λ (l : List J). length l) first,
    );
    each = λ place it e. each place it (h.each (place + 1) it (next place it e));
    places = ap (λ l. length l) standings ∙ h.places ∙ sym at_once;
    some = omega (arith, h.some, at_once);
  }
    where
      next : (place : ℕ) (it : J) → slice_get after place ≡ Some it → slice_get before (place + 1) ≡ Some it
      next place it e =
          let after_one : place + 1 ≡ suc place = omega arith in
          ap (λ (l : List J). slice_get l (place + 1)) first
          ∙ ap (λ (k : ℕ). slice_get (item ∷ after) k) after_one ∙ e

      each : (place : ℕ) (it : J) → IsBegunFor did server key (case_of (kept_item it)) old (place + 1) now
          → IsBegunFor did server key (case_of (kept_item it)) new place now
      each place it (start, begun, begins, stands) = (
        start,
        begun,
        begins,
        first_moves WasProbed (λ (x : ProbeValue). wanted_of x) ProbeGives did old new came over standings place start
            (bounds_from (limits_of_server server) begun) begun now stands,
      )

  -- and what came of it may come of its case
  pub oldest_meets : (now : ℕ) (old : ErrandsValue ProbeValue A S ConnectMiss Probe) (before after : List J) (item : J)
      (came : Came Probe ConnectMiss) (line : List (Stage Probe ConnectMiss)) (meeting : Meeting)
      → AreUnderWay did case_of kept_item server key old before now → before ≡ item ∷ after
      → old.line ≡ Over came ∷ line → IsMeetingOf came meeting
      → MeetsAtAddress server key (case_of (kept_item item)) meeting
  oldest_meets now old before after item came line meeting h first over is =
      let (start, begun, begins, stands) = h.each 0 item (ap (λ (l : List J). slice_get l 0) first) in
      let bounds = bounds_from (limits_of_server server) begun in
      meets_by did server key (case_of (kept_item item)) start begun begins came meeting
      (first_end WasProbed (λ (x : ProbeValue). wanted_of x) ProbeGives did old came line over start bounds begun now
      stands) is
