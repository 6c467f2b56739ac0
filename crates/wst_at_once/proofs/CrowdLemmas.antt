-- A run of cases, several at a time: what was begun, and what a sink was told so far.
use Rattle.std.proofs.Common.{◌≡◌, ◌∙◌, ℕ, zero, suc, ◌+◌, ◌<◌, ◌≤◌, ◌⊎◌, ◌^◌, Bool, true, false, List, [], ◌∷◌, ◌++◌}
use Rattle.std.proofs.Common.{Option, None, Some, Ok, Err, length, take, append-nil, append_assoc, refl, sym, ap, subst}
use Rattle.std.proofs.Common.{IsErrAnd, ◌*◌, if◌then◌else◌, inl, inr, arith, map, Result}
use Rattle.std.proofs.Math.Seq.{take-append_seam}
use Rattle.std.proofs.lemmas.Bool.{false≢true}
use Rattle.std.proofs.lemmas.List.{length-append, length-map}
use Rattle.ws_handshake.specs.declared.probe_end.Probe.{Probe}
use Rattle.ws_scripts.specs.declared.script.Case.{Case}
use Rattle.wst_errands.specs.Errands.{count_under_way}
use Rattle.wst_errands.specs.declared.errands.Stage.{Stage}
use Rattle.wst_network.specs.declared.connector.ConnectMiss.{ConnectMiss}
use Rattle.wst_sockets.specs.declared.meeting.Meeting.{Meeting}
use Rattle.wst_testing.specs.Runner.{AwaitsCase, Giving, Hearing, RunsEach, Stopping, StopsRun}
use Rattle.wst_testing.specs.Runner.{items_of}
use Rattle.wst_testing.specs.declared.runner.RunStop.{RunStop}
use Rattle.wst_testing.specs.declared.runner.RunStop.TheVariants as stop
use Rattle.wst_testing.proofs.RunnerLemmas.{one_more_came, one_more_item}
use Rattle.wst_at_once.specs.Crowds.{BeginsNext, GaveEach, GaveSo, HasRunSoFar, IsOldest, LacksMemoryFor, TellsFirst}
use Rattle.wst_at_once.specs.Crowds.{TellsOldest}

-- ---- the first ones of a list

abbrev nil : (X : Type 0) → List X
nil X = []

take_nothing : (X : Type 0) (n : ℕ) → take n (nil X) ≡ nil X
take_nothing X zero = refl
take_nothing X (suc n) = refl

-- the first n of a list and one more: of the list, or all
front_or_all : {X : Type 0} (xs : List X) (x : X) (n : ℕ) → n ≤ length (xs ++ x ∷ [])
    → ((n ≤ length xs) × (take n (xs ++ x ∷ []) ≡ take n xs)) ⊎ (take n (xs ++ x ∷ []) ≡ xs ++ x ∷ [])
front_or_all {X} [] x zero le = inl (omega arith, refl)
front_or_all {X} [] x (suc n) le = inr (ap (λ (l : List X). x ∷ l) (take_nothing X n))
front_or_all {X} (y ∷ xs) x zero le = inl (omega arith, refl)
front_or_all {X} (y ∷ xs) x (suc n) le = one_on (front_or_all xs x n (omega (arith, le)))
  where
    one_on : ((n ≤ length xs) × (take n (xs ++ x ∷ []) ≡ take n xs)) ⊎ (take n (xs ++ x ∷ []) ≡ xs ++ x ∷ [])
        → ((suc n ≤ length (y ∷ xs)) × (take (suc n) (y ∷ (xs ++ x ∷ [])) ≡ take (suc n) (y ∷ xs)))
        ⊎ (take (suc n) (y ∷ (xs ++ x ∷ [])) ≡ y ∷ (xs ++ x ∷ []))
    one_on (inl (within, same)) = inl (omega (arith, within), ap (λ (l : List X). y ∷ l) same)
    one_on (inr all) = inr (ap (λ (l : List X). y ∷ l) all)

-- each of the first ones was given, and then one more
gave_more : {I S : Type 0} (gave : Giving I S) (source last : S) (items : List I) (item : I)
    → GaveEach gave source items → gave source last (items ++ item ∷ []) → GaveEach gave source (items ++ item ∷ [])
gave_more {I} {S} gave source last items item each one n le = by (front_or_all items item n le)
  where
    by : ((n ≤ length items) × (take n (items ++ item ∷ []) ≡ take n items))
        ⊎ (take n (items ++ item ∷ []) ≡ items ++ item ∷ [])
        → (s : S) × gave source s (take n (items ++ item ∷ []))
    by (inl (within, same)) =
        let (s, given) = each n within in
        (s, subst (λ (l : List I). gave source s l) (sym same) given)
    by (inr all) = (last, subst (λ (l : List I). gave source last l) (sym all) one)

module _ {I S K : Type 0} (case_of : I → Case) (Meets : Case → Meeting → Type 0) (gave gave_all : Giving I S)
    (left : S → ℕ) (heard : Hearing I K) (stopped : Stopping I K) (source : S) (start : K) where
  abbrev So : S → K → List I → Bool → Type 0
  So last now items more = HasRunSoFar case_of Meets gave gave_all heard source last start now items more

  -- nothing was run
  pub none_so_far : gave source source [] → heard start start [] None → So source start [] true
  none_so_far unused fresh = record {
    came = [];
    met = tt;
    given = unused;
    gave_each = λ n le. (source, subst (λ (l : List I). gave source source l) (sym (take_nothing I n)) unused);
    few = omega arith;
    told = fresh;
  }

  -- the next one was begun
  pub begun_so_far : (old new : S) (now : K) (before after : List I) (given : Bool) → So old now before true
      → BeginsNext gave gave_all left case_of old new before after given → So new now after given
  begun_so_far old new now before after true h (item, is, (runs, fewer, gives)) =
      let (given, fits) = gives source (items_of h.came ++ before) h.given in
      let all : (items_of h.came ++ before) ++ item ∷ [] ≡ items_of h.came ++ after =
      append_assoc (items_of h.came) before (item ∷ []) ∙ ap (λ (l : List I). items_of h.came ++ l) (sym is) in
      record {
        came = h.came;
        met = h.met;
        given = subst (λ (l : List I). gave source new l) all given;
        gave_each = subst (λ (l : List I). GaveEach gave source l) all
            (gave_more gave source new (items_of h.came ++ before) item h.gave_each given);
        few = omega (
          arith,
          fits,
          length-append (items_of h.came) before,
          length-map h.came (λ (r : I × Meeting). r.0),
          ap (λ (l : List I). length l) is,
          length-append before (item ∷ []),
        );
        told = h.told;
      }
  begun_so_far old new now before after false h (same, all) = record {
    came = h.came;
    met = h.met;
    given = subst (λ (l : List I). gave_all source new (items_of h.came ++ l)) (sym same)
        (all source (items_of h.came ++ before) h.given);
    gave_each = subst (λ (l : List I). GaveEach gave source (items_of h.came ++ l)) (sym same) h.gave_each;
    few = subst (λ (l : List I). length h.came + length l < 2 ^ 64) (sym same) h.few;
    told = h.told;
  }

  -- a sink may be told of the oldest
  pub may_be_told : (last : S) (now : K) (items : List I) (more : Bool) → So last now items more → 0 < length items
      → AwaitsCase heard now
  may_be_told last now items more h some = (start, h.came, omega (arith, h.few, some), h.told)

  moved : (came : List (I × Meeting)) (item : I) (meeting : Meeting) (items : List I)
      → items_of came ++ item ∷ items ≡ items_of (came ++ (item, meeting) ∷ []) ++ items
  moved came item meeting items = sym (append_assoc (items_of came) (item ∷ []) items)
      ∙ ap (λ (l : List I). l ++ items) (one_more_item came item meeting)

  -- it was told of the oldest
  pub told_so_far : (last : S) (old new : K) (before after : List I) (more : Bool) (done : Unit {0})
      → So last old before more → TellsFirst case_of Meets heard stopped old new before after (Ok done)
      → So last new after more
  told_so_far last old new before after more done h t =
      let all : items_of h.came ++ before ≡ items_of (h.came ++ (t.item, t.meeting) ∷ []) ++ after =
      ap (λ (l : List I). items_of h.came ++ l) t.first ∙ moved h.came t.item t.meeting after in
      record {
        came = h.came ++ (t.item, t.meeting) ∷ [];
        met = one_more_came case_of Meets h.came t.item t.meeting h.met t.met;
        given = subst (λ (l : List I). GaveSo gave gave_all source last l more) all h.given;
        gave_each = subst (λ (l : List I). GaveEach gave source l) all h.gave_each;
        few = omega (
          arith,
          h.few,
          length-append h.came ((t.item, t.meeting) ∷ []),
          ap (λ (l : List I). length l) t.first,
        );
        told = t.told start h.came (t.begins start h.came h.told);
      }

  -- ---- the end of a run

  pub all_told : (last : S) (now : K) (items : List I) (more : Bool) → So last now items more → more ≡ false
      → length items ≡ 0 → RunsEach case_of Meets gave gave_all heard stopped source start now (Ok tt)
  all_told last now [] false h off none = record {
    came = h.came;
    met = h.met;
    last = last;
    given = subst (λ (l : List I). gave_all source last l) (append-nil (items_of h.came)) h.given;
    told = h.told;
  }
  all_told last now [] true h off none = absurd (false≢true (sym off))
  all_told last now (item ∷ items) more h off none = absurd (omega (arith, none))

  -- the source had given just those that came, and perhaps the next
  had_given : (came : List (I × Meeting)) (items : List I) → GaveEach gave source (items_of came ++ items)
      → (s : S) × gave source s (items_of came ++ [])
  had_given came items each =
      let (s, given) = each (length (items_of came)) (omega (arith, length-append (items_of came) items)) in (
        s,
        subst (λ (l : List I). gave source s l) (take-append_seam (items_of came) items
            ∙ sym (append-nil (items_of came))) given,
      )

  had_given_one : (came : List (I × Meeting)) (item : I) (items : List I)
      → GaveEach gave source (items_of came ++ item ∷ items) → (s : S) × gave source s (items_of came ++ item ∷ [])
  had_given_one came item items each =
      let all = sym (append_assoc (items_of came) (item ∷ []) items) in
      let front = items_of came ++ item ∷ [] in
      let within : length front ≤ length (items_of came ++ item ∷ items) =
      omega (arith, ap (λ (l : List I). length l) all, length-append front items) in
      let (s, given) = each (length front) within in (
        s,
        subst (λ (l : List I). gave source s l)
            (ap (λ (l : List I). take (length front) l) all ∙ take-append_seam front items) given,
      )

  had_given_told : (came : List (I × Meeting)) (item : I) (meeting : Meeting) (before after : List I)
      → GaveEach gave source (items_of came ++ before) → before ≡ item ∷ after
      → (s : S) × gave source s (items_of (came ++ (item, meeting) ∷ []))
  had_given_told came item meeting before after each first =
      let (s, given) = had_given_one came item after
      (subst (λ (l : List I). GaveEach gave source (items_of came ++ l)) first each) in
      (s, subst (λ (l : List I). gave source s l) (one_more_item came item meeting) given)

  -- memory ran out
  pub lacks_memory : (last : S) (old new : K) (items : List I) (more : Bool) (why : RunStop) → So last old items more
      → LacksMemoryFor heard old new items → why ≡ stop.NoMemory
      → RunsEach case_of Meets gave gave_all heard stopped source start new (Err why)
  lacks_memory last old new items more why h lacks is =
      subst (λ (w : RunStop). StopsRun case_of Meets gave heard stopped source start new w) (sym is)
      (by (lacks start h.came h.told))
    where
      by : (next : Option I) × IsOldest items next × heard start new h.came next
          → StopsRun case_of Meets gave heard stopped source start new stop.NoMemory
      by (None, first, told) =
          let (s, given) = had_given h.came items h.gave_each in
          record { came = h.came; met = h.met; last = s; stops = ([], None, given, tt, told) }
      by (Some item, first, told) = stops items h.gave_each first
        where
          stops : (l : List I) → GaveEach gave source (items_of h.came ++ l) → IsOldest l (Some item)
              → StopsRun case_of Meets gave heard stopped source start new stop.NoMemory
          stops [] each none = absurd none
          stops (x ∷ l) each same =
              let (s, given) = had_given_one h.came x l each in
              record {
                came = h.came;
                met = h.met;
                last = s;
                stops = (
                  item ∷ [],
                  Some item,
                  subst (λ (y : I). gave source s (items_of h.came ++ y ∷ [])) (sym same) given,
                  refl,
                  told,
                );
              }

  -- nothing was told since
  pub quiet : (now : K) (items : List I) → LacksMemoryFor heard now now items
  quiet now items begun told h = (None, tt, h)

  -- the sink ended the run with the oldest
  pub sink_ends : (last : S) (old new : K) (before after : List I) (more : Bool) (why : RunStop)
      → So last old before more → TellsOldest case_of Meets heard stopped old new before after (Err why)
      → RunsEach case_of Meets gave gave_all heard stopped source start new (Err why)
  sink_ends last old new before after more stop.NoMemory h t =
      lacks_memory last old new before more stop.NoMemory h t refl
  sink_ends last old new before after more stop.Enough h t =
      let (s, given) = had_given_told h.came t.item t.meeting before after h.gave_each t.first in
      record {
        came = h.came ++ (t.item, t.meeting) ∷ [];
        met = one_more_came case_of Meets h.came t.item t.meeting h.met t.met;
        last = s;
        stops = (given, t.told start h.came (t.begins start h.came h.told));
      }
  sink_ends last old new before after more stop.Output h t =
      let (s, given) = had_given_told h.came t.item t.meeting before after h.gave_each t.first in
      record {
        came = h.came ++ (t.item, t.meeting) ∷ [];
        met = one_more_came case_of Meets h.came t.item t.meeting h.met t.met;
        last = s;
        stops = (given, t.told start h.came (t.begins start h.came h.told));
      }
  sink_ends last old new before after more (stop.NoConnection miss) h t =
      let (s, given) = had_given_told h.came t.item t.meeting before after h.gave_each t.first in
      record {
        came = h.came ++ (t.item, t.meeting) ∷ [];
        met = one_more_came case_of Meets h.came t.item t.meeting h.met t.met;
        last = s;
        stops = (given, t.told start h.came (t.begins start h.came h.told));
      }

  -- and it is the end of the run
  pub run_stops : (last : S) (old new : K) (before after : List I) (more : Bool) (why : RunStop)
      (result : Result (Unit {0}) RunStop) → So last old before more
      → TellsOldest case_of Meets heard stopped old new before after (Err why) → IsErrAnd result (λ given. given ≡ why)
      → RunsEach case_of Meets gave gave_all heard stopped source start new result
  run_stops last old new before after more why (Ok done) h t is = absurd is
  run_stops last old new before after more why (Err given) h t is =
      subst (λ (w : RunStop). RunsEach case_of Meets gave gave_all heard stopped source start new (Err w)) (sym is)
      (sink_ends last old new before after more why h t)

  -- memory ran out beside the sink
  pub run_lacks : (last : S) (now : K) (items : List I) (more : Bool) (result : Result (Unit {0}) RunStop)
      → So last now items more → IsErrAnd result (λ given. given ≡ stop.NoMemory)
      → RunsEach case_of Meets gave gave_all heard stopped source start now result
  run_lacks last now items more (Ok done) h is = absurd is
  run_lacks last now items more (Err given) h is =
      lacks_memory last now now items more given h (quiet now items) is

-- ---- how long a run can go on

module _ {I J S : Type 0} (case_of : I → Case) (kept_item : J → I) (gave gave_all : Giving I S) (left : S → ℕ) where
  abbrev to_come : S → Bool → ℕ
  to_come source more = if more then 3 * left source + 1 else 0

  -- one that was left was begun, or none is left
  pub begun_less : (old new : S) (before after : List J) (more given : Bool)
      (line now : List (Stage Probe ConnectMiss)) → more ≡ true
      → BeginsNext gave gave_all left case_of old new (map kept_item before) (map kept_item after) given
      → count_under_way now + length before ≤ count_under_way line + length after
      → to_come new given + count_under_way now + length after
      < to_come old more + count_under_way line + length before
  begun_less old new before after more true line now on (item, is, (runs, fewer, gives)) few =
      subst (λ (b : Bool). to_come new true + count_under_way now + length after
      < to_come old b + count_under_way line + length before) (sym on)
      (omega (
        arith,
        few,
        fewer,
        length-map before kept_item,
        length-map after kept_item,
        ap (λ (l : List I). length l) is,
        length-append (map kept_item before) (item ∷ []),
      ))
  begun_less old new before after more false line now on (same, all) few =
      subst (λ (b : Bool). to_come new false + count_under_way now + length after
      < to_come old b + count_under_way line + length before) (sym on)
      (omega (
        arith,
        few,
        length-map before kept_item,
        length-map after kept_item,
        ap (λ (l : List I). length l) same,
      ))
