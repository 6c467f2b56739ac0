-- What was run one after the other, and what a sink was told of it.
use Rattle.std.specs.Prelude.{⊤}
use Rattle.std.proofs.Common.{◌≡◌, ◌∙◌, ◌+◌, ◌<◌, ◌^◌, ℕ, Bool, true, List, [], ◌∷◌, ◌++◌, Option, None, Some, Result, Ok, Err}
use Rattle.std.proofs.Common.{IsErrAnd, append_assoc, ap, arith, length, refl, sym, subst, take}
use Rattle.std.proofs.Math.Seq.{take-append-add, take-append_seam}
use Rattle.std.proofs.lemmas.List.{length-append, length-map, map-append}
use Rattle.ws_wire.proofs.Splits.{all-append}
use Rattle.wst_testing.specs.Runner.{CameOf, GaveOfList, GivesNext, Giving, HearsMeeting, Hearing, IsGivenNext, MovesOn, RunsEach}
use Rattle.wst_testing.specs.Runner.{ListValue, Stopping, StopsRun, items_of}
use Rattle.ws_scripts.specs.Scripts.{CanBeRun}
use Rattle.ws_scripts.specs.declared.script.Case.{Case}
use Rattle.wst_sockets.specs.declared.meeting.Meeting.{Meeting}
use Rattle.wst_testing.specs.declared.runner.RunStop.{RunStop}
use Rattle.wst_testing.specs.declared.runner.RunStop.TheVariants as stop

-- ---- one more

-- what came of one more
pub one_more_came : {I : Type 0} (case_of : I → Case) (Meets : Case → Meeting → Type 0) (came : List (I × Meeting))
    (item : I) (meeting : Meeting) → CameOf case_of Meets came → Meets (case_of item) meeting
    → CameOf case_of Meets (came ++ (item, meeting) ∷ [])
one_more_came {I} case_of Meets came item meeting before met =
    all-append (λ (r : I × Meeting). Meets (case_of r.0) r.1) came ((item, meeting) ∷ []) before (met, tt)

-- it was run
pub one_more_item : {I : Type 0} (came : List (I × Meeting)) (item : I) (meeting : Meeting)
    → items_of came ++ item ∷ [] ≡ items_of (came ++ (item, meeting) ∷ [])
one_more_item {I} came item meeting = sym (map-append (λ (r : I × Meeting). r.0) came ((item, meeting) ∷ []))

-- there are as many of them
pub few_came : {I : Type 0} (came : List (I × Meeting)) → length (items_of came) + 1 < 2 ^ 64
    → length came + 1 < 2 ^ 64
few_came {I} came few = omega (arith, length-map came (λ (r : I × Meeting). r.0), few)

-- the one that is given next
pub next_given : {I S : Type 0} (gave gave_all : Giving I S) (last : S → Option I) (left : S → ℕ) (case_of : I → Case)
    (first old new : S) (moved : Bool) (items : List I) (item : I)
    → MovesOn gave gave_all last left case_of old new moved → moved ≡ true → last new ≡ Some item
    → gave first old items → CanBeRun (case_of item) × (left new < left old)
    × (gave first new (items ++ item ∷ []) × (length items + 1 < 2 ^ 64))
next_given {I} gave gave_all last left case_of first old new moved items item moves on is given =
    let gives = subst (λ (o : Option I). GivesNext gave left case_of old new o) is
    (subst (λ (b : Bool). MovesOn gave gave_all last left case_of old new b) on moves) in
    (gives.0, gives.1, gives.2 first items given)

-- ---- a run

-- These were run so far, and the sink was told of them.
pub record HasRun {I S K : Type 0} (case_of : I → Case) (Meets : Case → Meeting → Type 0) (gave : Giving I S)
    (heard : Hearing I K) (source last : S) (start now : K) : Type 0 where
  pub came : List (I × Meeting)
  pub met : CameOf case_of Meets came
  pub given : gave source last (items_of came)
  pub told : heard start now came None

module _ {I S K : Type 0} (case_of : I → Case) (Meets : Case → Meeting → Type 0) (gave gave_all : Giving I S)
    (heard : Hearing I K) (stopped : Stopping I K) (source : S) (start : K) where
  -- memory ran out
  pub run_lacks_memory : (came : List (I × Meeting)) (more : List I) (next : Option I) (last : S) (new : K)
      (ended : Result (Unit {0}) RunStop) → CameOf case_of Meets came → gave source last (items_of came ++ more)
      → IsGivenNext more next → heard start new came next → IsErrAnd ended (λ given. given ≡ stop.NoMemory)
      → RunsEach case_of Meets gave gave_all heard stopped source start new ended
  run_lacks_memory came more next last new (Ok _) met given is_next told is = absurd is
  run_lacks_memory came more next last new (Err why) met given is_next told is =
      subst (λ (w : RunStop). StopsRun case_of Meets gave heard stopped source start new w) (sym is)
      (record { came = came; met = met; last = last; stops = (more, next, given, is_next, told) })

  -- the sink ends the run, or has no memory to be told of what came
  stops_there : (came : List (I × Meeting)) (last : S) (old new : K) (item : I) (meeting : Meeting) (why : RunStop)
      → CameOf case_of Meets came → Meets (case_of item) meeting → gave source last (items_of came ++ item ∷ [])
      → heard start old came (Some item) → HearsMeeting heard stopped old new item meeting (Err why)
      → StopsRun case_of Meets gave heard stopped source start new why
  stops_there came last old new item meeting stop.Enough before met given told h = record {
    came = came ++ (item, meeting) ∷ [];
    met = one_more_came case_of Meets came item meeting before met;
    last = last;
    stops = (subst (λ (l : List I). gave source last l) (one_more_item came item meeting) given, h start came told);
  }
  stops_there came last old new item meeting stop.Output before met given told h = record {
    came = came ++ (item, meeting) ∷ [];
    met = one_more_came case_of Meets came item meeting before met;
    last = last;
    stops = (subst (λ (l : List I). gave source last l) (one_more_item came item meeting) given, h start came told);
  }
  stops_there came last old new item meeting (stop.NoConnection why) before met given told h = record {
    came = came ++ (item, meeting) ∷ [];
    met = one_more_came case_of Meets came item meeting before met;
    last = last;
    stops = (subst (λ (l : List I). gave source last l) (one_more_item came item meeting) given, h start came told);
  }
  stops_there came last old new item meeting stop.NoMemory before met given told h = record {
    came = came;
    met = before;
    last = last;
    stops = (item ∷ [], Some item, given, refl, subst (λ (k : K). heard start k came (Some item)) (sym h) told);
  }

  pub run_stops_there : (came : List (I × Meeting)) (last : S) (old new : K) (item : I) (meeting : Meeting)
      (why : RunStop) (ended : Result (Unit {0}) RunStop) → CameOf case_of Meets came → Meets (case_of item) meeting
      → gave source last (items_of came ++ item ∷ []) → heard start old came (Some item)
      → HearsMeeting heard stopped old new item meeting (Err why) → IsErrAnd ended (λ given. given ≡ why)
      → RunsEach case_of Meets gave gave_all heard stopped source start new ended
  run_stops_there came last old new item meeting why (Ok _) before met given told h is = absurd is
  run_stops_there came last old new item meeting why (Err w) before met given told h is =
      subst (λ (x : RunStop). StopsRun case_of Meets gave heard stopped source start new x) (sym is)
      (stops_there came last old new item meeting why before met given told h)

  -- what holds of a sink whatever it was told holds when a run has ended
  pub holds_at_the_end : (new : K) (ended : Result (Unit {0}) RunStop) (So : Type 0)
      → ((came : List (I × Meeting)) (next : Option I) → heard start new came next → So)
      → ((came : List (I × Meeting)) (w : RunStop) → stopped start new came w → So)
      → RunsEach case_of Meets gave gave_all heard stopped source start new ended → So
  holds_at_the_end new (Ok _) So hears stops h = hears h.came None h.told
  holds_at_the_end new (Err stop.Enough) So hears stops h = stops h.came stop.Enough h.stops.1
  holds_at_the_end new (Err stop.Output) So hears stops h = stops h.came stop.Output h.stops.1
  holds_at_the_end new (Err (stop.NoConnection why)) So hears stops h = stops h.came (stop.NoConnection why) h.stops.1
  holds_at_the_end new (Err stop.NoMemory) So hears stops h =
      let (more, next, given, is_next, told) = h.stops in hears h.came next told

-- ---- the cases of a list

-- the case behind the first n runs next, or none needs to
abbrev pub IsNextCase : List Case → ℕ → Option Case → Type 0
IsNextCase cases n None = ⊤
IsNextCase cases n (Some case) = take (n + 1) cases ≡ take n cases ++ case ∷ []

-- these stand at its front
pub front_is : (cases front rest : List Case) → cases ≡ front ++ rest → front ≡ take (length front) cases
front_is cases front rest e =
    sym (ap (λ (l : List Case). take (length front) l) e ∙ take-append_seam front rest)

pub next_is : (cases front more rest : List Case) (next : Option Case) → cases ≡ (front ++ more) ++ rest
    → IsGivenNext more next → IsNextCase cases (length front) next
next_is cases front more rest None e is = tt
next_is cases front more rest (Some case) e is =
    let whole : cases ≡ front ++ (case ∷ rest) =
    e ∙ ap (λ (l : List Case). (front ++ l) ++ rest) is ∙ append_assoc front (case ∷ []) rest in
    ap (λ (l : List Case). take (length front + 1) l) whole ∙ take-append-add front (case ∷ rest) 1
    ∙ ap (λ (l : List Case). l ++ case ∷ []) (front_is cases front (case ∷ rest) whole)

-- one more of them is given
pub list_gives : (start now : ListValue) (items : List Case) (case : Case) (rest : List Case)
    → now.rest ≡ case ∷ rest → GaveOfList start now items
    → (start.rest ≡ (items ++ case ∷ []) ++ rest × length start.rest + 1 < 2 ^ 64) × (length items + 1 < 2 ^ 64)
list_gives start now items case rest e (given, few) =
    let whole : start.rest ≡ items ++ (case ∷ rest) = given ∙ ap (λ (l : List Case). items ++ l) e in (
      (whole ∙ sym (append_assoc items (case ∷ []) rest), few),
      omega (arith, ap (λ (l : List Case). length l) whole ∙ length-append items (case ∷ rest), few),
    )
