-- The turns of clients under test: who passed by, and that those who come stay those who are tested.
use Rattle.std.proofs.Common.{◌≡◌, ◌∙◌, ℕ, Bool, true, List, [], ◌∷◌, ◌++◌, Option, Some, None, ap, inl, inr, refl}
use Rattle.std.proofs.Common.{Err, Ok, OnErr, Result, ◌⊎◌, ◌-◌, ◌<◌, append-nil, append_assoc, arith, length, subst, suc}
use Rattle.std.proofs.Common.{sym, zero}
use Rattle.std.specs.Prelude.{slice_get}
use Rattle.std.proofs.lemmas.Grind.{flat_map-append}
use Rattle.std.proofs.lemmas.List.Elements.{All-append, All-cons, All-nil}
use Rattle.std.proofs.lemmas.Option.{none-some, same_Some}
use Rattle.std.specs.Io.KnownBytes.{Keeps}
use Rattle.ws_frame.specs.Devices.{Device}
use Rattle.ws_loops.specs.Deeds.{Deed, Happened, HasDone, all_done, all_told}
use Rattle.ws_loops.specs.declared.places.Place.{Place}
use Rattle.ws_loops.specs.declared.places.Place.TheVariants.{Pending}
use Rattle.ws_machines.specs.Told.{Told}
use Rattle.ws_clients.specs.Clients.{IsAwaitedAt, IsPlayEnd, IsPlaying, KeepsPlays, PlaysOn, PlaysThere, StandsWhere}
use Rattle.ws_clients.specs.Talks.{IsAdmission}
use Rattle.ws_clients.specs.declared.clients.Event.{Event}
use Rattle.ws_clients.specs.declared.clients.Event.TheVariants.{Played}
use Rattle.ws_clients.specs.declared.talking.Talk.{Talk}
use Rattle.ws_handshake.specs.declared.admission.Admission.{Admission}
use Rattle.ws_paths.specs.Standings.{StandingValue}
use Rattle.ws_scripts.specs.declared.script.Case.{Case}
use Rattle.wst_testing.specs.Notes.{TellsEach}
use Rattle.wst_testing.specs.Servers.{DidThese}
use Rattle.wst_testing.proofs.NoteLemmas.{each_on, each_then}
use Rattle.ws_handshake.specs.declared.admission.AcceptedRequest.{AcceptedRequest}
use Rattle.ws_paths.specs.Paths.{AsksWithin, IsPurpose, number_to_run}
use Rattle.ws_paths.specs.declared.purpose.Purpose.{Purpose}
use Rattle.ws_paths.specs.declared.purpose.Purpose.TheVariants.{CaseCount, CaseInfo, CaseStatus, NextCase, NoCase}
use Rattle.ws_paths.specs.declared.purpose.Purpose.TheVariants.{RunCase, UpdateReports}
use Rattle.ws_scripts.specs.declared.transcript.Transcript.{Transcript}
use Rattle.ws_tester.specs.Following.{TesterValue, WasTold}
use Rattle.ws_tester.specs.Records.{IsRecorded}
use Rattle.ws_tester.specs.RunStates.{RunState}
use Rattle.wst_clients.specs.Turns.{AsksForCase, IsTakenIn, IsTurn, RunsFrom, RunsTurn, TellsThere, WaitsOrHears}
use Rattle.wst_clients.specs.Turns.{met_clients}
use Rattle.wst_clients.specs.declared.visiting.NoVisit.{NoVisit}
use Rattle.wst_clients.specs.declared.visiting.Turn.{Turn}
use Rattle.wst_clients.specs.declared.visiting.Turn.TheVariants as turn
use Rattle.wst_clients.specs.Visitors.{AsksNow, ending_for}
use Rattle.wst_clients.specs.declared.visitors.Visitors.{Visitors}
use Rattle.wst_clients.specs.Visits.{BeginsScript, BreaksTurn, HavePassed, IsAsked, IsPlayed, IsRunOver, IsToldAtOnce}
use Rattle.wst_clients.specs.Visits.{IsTurnTaken, Met, Passes, Passing, begun_notes, case_for, case_notes}
use Rattle.wst_clients.specs.Visits.{notes_of_passing, passing_notes, visit_plan}
use Rattle.wst_clients.specs.declared.visiting.Visit.TheVariants as visit
use Rattle.wst_clients.specs.declared.visiting.VisitRules.{VisitRules}

-- what holds, whatever was answered
pub on_err : {A E : Type 0} (ended : Result A E) (P : Type 0) → P → OnErr ended P
on_err (Ok done) P h = tt
on_err (Err fault) P h = h

-- ---- who passed by

module _ (m : Met) (rules : VisitRules) (standing : StandingValue) where
  -- nobody, and nothing was told
  pub passed_none : (faults : Device) → Keeps faults.old faults.new → HavePassed m rules standing faults
  passed_none faults kept = record { passing = []; pass = All-nil (m.passes rules standing); noted = kept }

  -- one
  pub passed_one : (one : Passing) (faults : Device) → m.passes rules standing one
      → TellsEach (passing_notes one) faults → HavePassed m rules standing faults
  passed_one one faults passes told = record {
    passing = one ∷ [];
    pass = All-cons (m.passes rules standing) one [] passes (All-nil (m.passes rules standing));
    noted = subst (λ (l : List (List ℕ)). TellsEach l faults) (sym (append-nil (passing_notes one))) told;
  }

  -- some, and others behind them; `f` and `g` say whether the fault output had failed before the others and since
  pub passed_then : (f g : Bool) (a b c : Option (List ℕ))
      → HavePassed m rules standing (record { failed = f; old = a; new = b }) → (f ≡ true → g ≡ true)
      → HavePassed m rules standing (record { failed = g; old = b; new = c })
      → HavePassed m rules standing (record { failed = g; old = a; new = c })
  passed_then f g a b c h still k = record {
    passing = h.passing ++ k.passing;
    pass = All-append (λ (p : Passing). m.passes rules standing p) h.passing k.passing h.pass k.pass;
    noted = subst (λ (l : List (List ℕ)). TellsEach l (record { failed = g; old = a; new = c }))
        (sym (flat_map-append (λ (p : Passing). passing_notes p) h.passing k.passing))
        (each_then (notes_of_passing h.passing) (notes_of_passing k.passing) g a b c
        (each_on (notes_of_passing h.passing) f g a b still h.noted) k.noted);
  }

  -- a turn was not taken behind them
  pub broken_before : (faults : Device) → HavePassed m rules standing faults → BreaksTurn m rules standing faults
  broken_before faults passed = record {
    before = passed.passing;
    pass = passed.pass;
    case = None;
    during = [];
    pass_too = All-nil (m.passes rules standing);
    noted = subst (λ (l : List (List ℕ)). TellsEach l faults) (sym (append-nil (notes_of_passing passed.passing ++ [])
        ∙ append-nil (notes_of_passing passed.passing))) passed.noted;
  }

  -- nothing was told of it
  pub broken_none : (faults : Device) → Keeps faults.old faults.new → BreaksTurn m rules standing faults
  broken_none faults kept = broken_before faults (passed_none faults kept)

  -- those who passed by stand before all that is told of a turn that broke
  pub broken_behind : (f g : Bool) (a b c : Option (List ℕ))
      → HavePassed m rules standing (record { failed = f; old = a; new = b }) → (f ≡ true → g ≡ true)
      → BreaksTurn m rules standing (record { failed = g; old = b; new = c })
      → BreaksTurn m rules standing (record { failed = g; old = a; new = c })
  broken_behind f g a b c h still k = record {
    before = h.passing ++ k.before;
    pass = All-append (λ (p : Passing). m.passes rules standing p) h.passing k.before h.pass k.pass;
    case = k.case;
    during = k.during;
    pass_too = k.pass_too;
    noted = subst (λ (l : List (List ℕ)). TellsEach l (record { failed = g; old = a; new = c })) all
        (each_then (notes_of_passing h.passing) rest g a b c
        (each_on (notes_of_passing h.passing) f g a b still h.noted) k.noted);
  }
    where
      rest : List (List ℕ)
      rest = notes_of_passing k.before ++ case_notes rules.progress k.case ++ notes_of_passing k.during

      begun : List (List ℕ)
      begun = case_notes rules.progress k.case

      last : List (List ℕ)
      last = notes_of_passing k.during

      all : notes_of_passing h.passing ++ rest ≡ notes_of_passing (h.passing ++ k.before) ++ begun ++ last
      all = sym (append_assoc (notes_of_passing h.passing) (notes_of_passing k.before ++ begun) last)
          ∙ ap (λ (l : List (List ℕ)). l ++ last)
          (sym (append_assoc (notes_of_passing h.passing) (notes_of_passing k.before) begun)
          ∙ ap (λ (l : List (List ℕ)). l ++ begun)
          (sym (flat_map-append (λ (p : Passing). passing_notes p) h.passing k.before)))

  -- a case was begun, and such ones passed by in it
  pub broken_in : (case : Case) (f g : Bool) (a b c : Option (List ℕ))
      → TellsEach (case_notes rules.progress (Some case)) (record { failed = f; old = a; new = b })
      → (f ≡ true → g ≡ true)
      → HavePassed m rules standing (record { failed = g; old = b; new = c })
      → BreaksTurn m rules standing (record { failed = g; old = a; new = c })
  broken_in case f g a b c told still k = record {
    before = [];
    pass = All-nil (m.passes rules standing);
    case = Some case;
    during = k.passing;
    pass_too = k.pass;
    noted = each_then (case_notes rules.progress (Some case)) (notes_of_passing k.passing) g a b c
        (each_on (case_notes rules.progress (Some case)) f g a b still told) k.noted;
  }

-- ---- what its stream did

-- what a stream did is what one did that stands for all that it did
pub did_these : {S : Type 0} (did : S → S → List Deed → Type 0) (first last : S) (happened : List Happened)
    → HasDone did first last (all_done happened) → HasDone DidThese [] (all_done happened) (all_done happened)
did_these did first last happened done start deeds before =
    ap (λ (l : List Deed). l ++ all_done happened) before ∙ append_assoc start deeds (all_done happened)

-- so a request was decided
pub admitted : {S : Type 0} (did : S → S → List Deed → Type 0) (known : List (List ℕ)) (came : Admission)
    → IsAdmission did known came → IsAdmission DidThese known came
admitted did known came is = record {
  start = is.start;
  is_known = is.is_known;
  happened = is.happened;
  gives = is.gives;
  first = [];
  fresh = refl;
  last = all_done is.happened;
  done = did_these did is.first is.last is.happened is.done;
}

-- ---- what is played

-- what was played in a place has ended where its client waits: by this event
pub played_out : {M S E W : Type 0} (agrees : M → M → List Told → Type 0)
    (did : S → S → List Deed → Type 0) (gives : M → List Told → E → Type 0) (start : M) (stream : S)
    (happened : List Happened) (places : List (Place (Talk M) S)) (at : ℕ) (event : Event E W)
    → IsAwaitedAt places at
    → (IsPlaying agrees did start stream happened places at
    ⊎ ((e : Event E W) × (Some event ≡ Some e) × IsPlayEnd did gives start stream at happened e))
    → IsPlayEnd did gives start stream at happened event
played_out {M} {S} {E} {W} agrees did gives start stream happened places at event (watch, is)
    (inl (place, stands, plays)) =
    absurd (subst (λ p. PlaysThere agrees did start stream happened p)
    (same_Some place (Pending watch) (sym stands ∙ is)) plays)
played_out {M} {S} {E} {W} agrees did gives start stream happened places at event awaited (inr (e, same, end)) =
    subst (λ (x : Event E W). IsPlayEnd did gives start stream at happened x) (sym (same_Some event e same)) end

-- it plays on where something else has happened
pub plays_still : {M S E W : Type 0} (agrees : M → M → List Told → Type 0)
    (did : S → S → List Deed → Type 0) (gives : M → List Told → E → Type 0) (start : M) (stream : S)
    (happened : List Happened) (places : List (Place (Talk M) S)) (at : ℕ) (event : Event E W)
    → (IsPlayEnd did gives start stream at happened event → ⊥)
    → (IsPlaying agrees did start stream happened places at
    ⊎ ((e : Event E W) × (Some event ≡ Some e) × IsPlayEnd did gives start stream at happened e))
    → IsPlaying agrees did start stream happened places at
plays_still agrees did gives start stream happened places at event other (inl plays) = plays
plays_still {M} {S} {E} {W} agrees did gives start stream happened places at event other (inr (e, same, end)) =
    absurd (other (subst (λ (x : Event E W). IsPlayEnd did gives start stream at happened x)
    (sym (same_Some event e same)) end))

-- some more has happened where this is played over this stream
abbrev pub StillPlays : {M S : Type 0} → (M → M → List Told → Type 0) → (S → S → List Deed → Type 0) → M → S
    → List (Place (Talk M) S) → ℕ → Type 0
StillPlays {M} {S} agrees did start stream places at = (happened : List Happened)
    × IsPlaying agrees did start stream happened places at

-- a case that was played to its end was run over its client
pub run_over : {S : Type 0} (did : S → S → List Deed → Type 0) (start : TesterValue) (first last : S)
    (happened : List Happened) (transcript : Transcript) → IsRecorded start.run (all_told happened) transcript
    → HasDone did first last (all_done happened) → IsRunOver start.run transcript
run_over did start first last happened transcript recorded done = record {
  happened = happened;
  told = all_told happened;
  is_told = refl;
  recorded = recorded;
  before = [];
  last = all_done happened;
  done = did_these did first last happened done;
}

-- what is played goes on where nothing more has happened there
pub still_kept : {M S : Type 0} (agrees : M → M → List Told → Type 0) (did : S → S → List Deed → Type 0) (start : M)
    (stream : S) (old new : List (Place (Talk M) S)) (at : ℕ) → KeepsPlays agrees did old new
    → StillPlays agrees did start stream old at → StillPlays agrees did start stream new at
still_kept agrees did start stream old new at keeps (happened, plays) =
    (happened, keeps at start stream happened plays)

module _ {M S K E W : Type 0} (heard : K → K → List (ℕ × List ℕ) → Type 0) (agrees : M → M → List Told → Type 0)
    (did : S → S → List Deed → Type 0) (gives : M → List Told → E → Type 0) (start : M) (stream : S)
    (old new : List (Place (Talk M) S)) (at : ℕ) (old_sink new_sink : K) (event : Event E W)
    (on : PlaysOn heard agrees did gives old new old_sink new_sink (Some event)) where
  -- or where something else has
  pub goes_still : ((happened : List Happened) → IsPlayEnd did gives start stream at happened event → ⊥)
      → StillPlays agrees did start stream old at → StillPlays agrees did start stream new at
  goes_still other (happened, plays) =
      let (more, lines, goes) = on.each at start stream happened plays in (
        happened ++ more,
        plays_still agrees did gives start stream (happened ++ more) new at event (other (happened ++ more)) goes,
      )

  -- it has ended where its client waits
  pub has_ended : IsAwaitedAt new at → StillPlays agrees did start stream old at
      → (happened : List Happened) × IsPlayEnd did gives start stream at happened event
  has_ended awaited (happened, plays) =
      let (more, lines, goes) = on.each at start stream happened plays in (
        happened ++ more,
        played_out agrees did gives start stream (happened ++ more) new at event awaited goes,
      )

-- a case whose end is told was run over its client
pub run_ended : {S K W : Type 0} (heard : K → K → List (ℕ × List ℕ) → Type 0) (did : S → S → List Deed → Type 0)
    (start : TesterValue) (stream : S) (old new : List (Place (Talk TesterValue) S)) (at : ℕ) (old_sink new_sink : K)
    (event : Event Transcript W) (place : ℕ) (transcript : Transcript)
    → PlaysOn heard (λ first now told. WasTold first now told) did
    (λ first told end. IsRecorded first.run told end) old new old_sink new_sink (Some event)
    → StandsWhere new event → event ≡ Played place transcript → place ≡ at
    → StillPlays (λ first now told. WasTold first now told) did start stream old at
    → RunsFrom did stream start.run transcript
run_ended {S} {K} {W} heard did start stream old new at old_sink new_sink event place transcript on stands is here
    still =
    let awaited = subst (λ (i : ℕ). IsAwaitedAt new i) here
    (subst (λ (e : Event Transcript W). StandsWhere new e) is stands) in
    let (happened, end) = has_ended heard (λ first now told. WasTold first now told) did
    (λ first told end. IsRecorded first.run told end) start stream old new at old_sink new_sink event on awaited still in
    let (same, gives, rest) = subst (λ (e : Event Transcript W). IsPlayEnd did
    (λ first told end. IsRecorded first.run told end) start stream at happened e) is end in
    (rest.0, happened, gives, rest.1)

-- ---- a turn

module _ (rules : VisitRules) (standing : StandingValue) where
  -- a case whose name was told was run over its client, and such ones passed by meanwhile
  pub turn_runs : (purpose : Purpose) (first : List ℕ) (transcript : Transcript) (case : Case) (start : RunState)
      (f g : Bool) (a b c : Option (List ℕ)) → case_for rules.cases.now purpose ≡ Some case
      → TellsEach (case_notes rules.progress (Some case)) (record { failed = f; old = a; new = b })
      → (f ≡ true → g ≡ true) → BeginsScript (visit_plan rules) rules.budget case first start
      → IsRunOver start transcript
      → HavePassed met_clients rules standing (record { failed = g; old = b; new = c })
      → RunsTurn rules standing purpose first transcript (record { failed = g; old = a; new = c })
  turn_runs purpose first transcript case start f g a b c is told still begins over k = record {
    case = case;
    is_case = is;
    played = (start, begins, over);
    during = k.passing;
    pass = k.pass;
    noted = each_then (case_notes rules.progress (Some case)) (notes_of_passing k.passing) g a b c
        (each_on (case_notes rules.progress (Some case)) f g a b still told) k.noted;
  }

  -- it was the turn of who asked for it, and others passed by before
  pub turn_ran : (request : AcceptedRequest) (purpose : Purpose) (first : List ℕ) (transcript : Transcript) (f g : Bool)
      (a b c : Option (List ℕ)) → IsAsked rules standing purpose request → request.behind.items ≡ first
      → HavePassed met_clients rules standing (record { failed = f; old = a; new = b }) → (f ≡ true → g ≡ true)
      → RunsTurn rules standing purpose first transcript (record { failed = g; old = b; new = c })
      → IsTurnTaken met_clients rules standing (visit.Ran purpose transcript)
      (record { failed = g; old = a; new = c })
  turn_ran request purpose first transcript f g a b c asked behind h still r = record {
    before = h.passing;
    pass = h.pass;
    visits = record {
      request = request;
      asked = asked;
      case = r.case;
      is_case = r.is_case;
      played = subst (λ (l : List ℕ). IsPlayed (visit_plan rules) rules.budget r.case l transcript) (sym behind)
          r.played;
    };
    during = r.during;
    pass_too = r.pass;
    noted = subst (λ (l : List (List ℕ)). TellsEach l (record { failed = g; old = a; new = c })) all
        (each_then (notes_of_passing h.passing) (begun ++ notes_of_passing r.during) g a b c
        (each_on (notes_of_passing h.passing) f g a b still h.noted) r.noted);
  }
    where
      begun : List (List ℕ)
      begun = case_notes rules.progress (Some r.case)

      all : notes_of_passing h.passing ++ (begun ++ notes_of_passing r.during)
          ≡ notes_of_passing h.passing ++ begun_notes rules (visit.Ran purpose transcript) ++ notes_of_passing r.during
      all = sym (append_assoc (notes_of_passing h.passing) begun (notes_of_passing r.during))
          ∙ ap (λ (o : Option Case). notes_of_passing h.passing ++ case_notes rules.progress o
          ++ notes_of_passing r.during) (sym r.is_case)

  -- or the end of the run was asked for
  pub turn_over : (faults : Device) → IsToldAtOnce rules standing UpdateReports
      → HavePassed met_clients rules standing faults → IsTurnTaken met_clients rules standing visit.Over faults
  turn_over faults asked h = record {
    before = h.passing;
    pass = h.pass;
    visits = asked;
    during = [];
    pass_too = All-nil (Passes rules standing);
    noted = subst (λ (l : List (List ℕ)). TellsEach l faults) (sym (append-nil (notes_of_passing h.passing ++ [])
        ∙ append-nil (notes_of_passing h.passing))) h.noted;
  }

-- ---- whose turn it is

-- a turn of somebody is one whatever may be said of nobody's
pub turn_any : (IsWhy : NoVisit → Type 0) (rules : VisitRules) (standing : StandingValue) (turn : Turn)
    → IsTurn (λ why. ⊥) rules standing turn → IsTurn IsWhy rules standing turn
turn_any IsWhy rules standing (turn.Case at purpose behind) is = is
turn_any IsWhy rules standing turn.Over is = is
turn_any IsWhy rules standing (turn.None why) is = absurd is

-- what the path of a request asks for
module _ (rules : VisitRules) (standing : StandingValue) (counted : length standing.behaviors ≡ length rules.cases.now)
  where
    pub asks_now : (request : AcceptedRequest) (path : List ℕ) (purpose : Purpose) → path ≡ request.path.items
        → IsPurpose (length standing.behaviors) standing.asked path purpose → AsksNow rules standing request purpose
    asks_now request path purpose same is =
        subst (λ (n : ℕ). IsPurpose n standing.asked request.path.items purpose) counted
        (subst (λ (p : List ℕ). IsPurpose (length standing.behaviors) standing.asked p purpose) same is)

    pub asks_within : (purpose : Purpose) → AsksWithin (length standing.behaviors) purpose
        → AsksWithin (length rules.cases.now) purpose
    asks_within purpose within = subst (λ (n : ℕ). AsksWithin n purpose) counted within

-- a case of this number is there
case_there : (cases : List Case) (place : ℕ) → place < length cases
    → (case : Case) × (slice_get cases place ≡ Some case)
case_there [] place less = absurd (omega (arith, less))
case_there (case ∷ cases) zero less = (case, refl)
case_there (case ∷ cases) (suc place) less = case_there cases place (omega (arith, less))

-- a case is asked for by who asks for the run of one
pub asks_case : (rules : VisitRules) (purpose : Purpose) (number : ℕ) → AsksWithin (length rules.cases.now) purpose
    → number_to_run purpose ≡ Some number → AsksForCase rules purpose
asks_case rules (RunCase other) number within is =
    case_there rules.cases.now (other - 1) (omega (arith, within.0, within.1))
asks_case rules (NextCase other) number within is =
    case_there rules.cases.now (other - 1) (omega (arith, within.0, within.1))
asks_case rules CaseCount number within is = absurd (none-some number is)
asks_case rules (CaseInfo other) number within is = absurd (none-some number is)
asks_case rules (CaseStatus other) number within is = absurd (none-some number is)
asks_case rules UpdateReports number within is = absurd (none-some number is)
asks_case rules NoCase number within is = absurd (none-some number is)

-- ---- what comes of a request that was accepted

module _ {L P E S W : Type 0} (did : S → S → List Deed → Type 0) (rules : VisitRules) (standing : StandingValue)
    (at : ℕ) (request : AcceptedRequest) (old new : Visitors TesterValue L P E S W) (purpose : Purpose)
    (asks : AsksNow rules standing request purpose) where
  -- one that asks for no case is told at once
  pub taken_told : number_to_run purpose ≡ None → new.waiting.items ≡ old.waiting.items
      → new.ending ≡ ending_for purpose at old.ending
      → TellsThere did rules standing purpose request.behind.items at old new
      → IsTakenIn did rules standing at request old new
  taken_told is same ending tells = (
    purpose,
    asks,
    subst (λ (n : Option ℕ). WaitsOrHears did rules standing purpose n at request old new) (sym is)
        (same, ending, tells),
  )
