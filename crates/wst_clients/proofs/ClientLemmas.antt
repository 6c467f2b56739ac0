-- Turns of clients under test, one after the other: how the cases stand, the lines, the notes and the count.
use Rattle.std.proofs.Common.{◌≡◌, ◌∙◌, ◌+◌, ◌<◌, ◌≤◌, ◌||◌, ℕ, Bool, true, false, not, List, [], ◌∷◌, ◌++◌, Option}
use Rattle.std.proofs.Common.{Some, None, Result, Ok, Err, ap, arith, refl, sym, subst, inl, inr, append-nil}
use Rattle.std.proofs.Common.{IfErr, IfOk, IsErrAnd, OnErr, append_assoc, filter, if◌then◌else◌, length, map, take, get_or, ◌-◌}
use Rattle.std.proofs.KnownBytes.{Appends-nil, Appends-trans}
use Rattle.std.proofs.lemmas.Grind.{flat_map-append}
use Rattle.std.proofs.lemmas.List.{length-append, length-map, length-replicate, length-set, map-append}
use Rattle.std.proofs.lemmas.List.{length-take-le, take_more}
use Rattle.std.proofs.lemmas.List.Filters.{length-filter_both}
use Rattle.std.proofs.lemmas.List.Folds.{list_any-append}
use Rattle.std.specs.Bool.{⊤}
use Rattle.std.specs.Io.KnownBytes.{Appends, Keeps}
use Rattle.std.specs.List.{list_any}
use Rattle.ws_frame.specs.Devices.{Device}
use Rattle.ws_frame.specs.Watching.{AppendsFront}
use Rattle.ws_frame.specs.declared.source.DataStyle.{DataStyle}
use Rattle.ws_loops.specs.declared.fault.LoopFault.{LoopFault}
use Rattle.ws_loops.specs.declared.fault.LoopFault.TheVariants as loop
use Rattle.ws_paths.specs.Paths.{AsksWithin}
use Rattle.ws_paths.specs.Standings.{StandingValue, after_connection, none_run}
use Rattle.ws_paths.specs.declared.behavior.Behavior.{Behavior}
use Rattle.ws_paths.specs.declared.behavior.Behavior.TheVariants.{Unimplemented}
use Rattle.ws_paths.specs.declared.behavior.Behavior.TheVariants as behavior
use Rattle.ws_paths.specs.declared.purpose.Purpose.{Purpose}
use Rattle.ws_paths.specs.declared.purpose.Purpose.TheVariants.{CaseCount, CaseInfo, CaseStatus, NextCase, NoCase}
use Rattle.ws_paths.specs.declared.purpose.Purpose.TheVariants.{RunCase, UpdateReports}
use Rattle.ws_scripts.specs.declared.expectation.Expectation.{Expectation}
use Rattle.ws_scripts.specs.declared.script.Case.{Case}
use Rattle.wst_commands.specs.Devices.{Delivers}
use Rattle.wst_commands.specs.declared.exit.Exit.{Exit}
use Rattle.wst_commands.specs.declared.exit.Exit.TheVariants.{Failed}
use Rattle.wst_commands.specs.declared.fault.Fault.{Fault}
use Rattle.wst_commands.specs.declared.fault.Fault.TheVariants.{NoMemory}
use Rattle.wst_clients.specs.ClientTests.{AddsLastLines, AddsNotRun, BreaksBehind, BreaksVisiting, ComesNext}
use Rattle.wst_clients.specs.ClientTests.{EndsEnough, EndsVisits, FitsCases, HasVisited, HaveCome, IsFaultFor}
use Rattle.wst_clients.specs.ClientTests.{TellsOfTurn, IsVisitFault, IsWorking, PassBehind, RunsVisits, StopsVisiting, TellsEndOf}
use Rattle.wst_clients.specs.ClientTests.{TestsClients, WritesEnough, is_enough_with}
use Rattle.wst_clients.specs.Turns.{StopsFor, TakesNext}
use Rattle.wst_clients.proofs.TurnLemmas.{broken_before}
use Rattle.wst_clients.proofs.VisitLemmas.{same_notes}
use Rattle.wst_testing.specs.Failures.{is_enough}
use Rattle.wst_testing.specs.Notes.{TellsEach}
use Rattle.wst_testing.specs.Outcomes.{count_in, is_fail, is_loose, is_pass}
use Rattle.ws_reports.specs.Kept.{kept_of}
use Rattle.ws_reports.specs.KnownCounts.{known_counts}
use Rattle.ws_reports.proofs.CountLemmas.{counts_more, kept_more}
use Rattle.wst_clients.specs.ClientLines.{behind_for, beside_for, change_for, end_for, fails_for, is_failure_for, line_for}
use Rattle.wst_clients.specs.ClientLines.{lines_for, score_for, score_of_case, score_with_all, verdict_for}
use Rattle.wst_testing.specs.Reporting.{exit_of_report, no_score, score_by}
use Rattle.wst_testing.specs.Testing.{outcomes_in}
use Rattle.wst_clients.specs.LateClients.{late_texts, run_count, was_run}
use Rattle.wst_clients.specs.VisitOutcomes.{AreVisits, AsksInside, IsVisitOutcome, MayBeTaken, TakenTurn}
use Rattle.wst_clients.specs.VisitOutcomes.{after_outcome, behavior_for}
use Rattle.wst_clients.specs.VisitOutcomes.{ends_with_outcome, not_run, not_run_if, notes_of_visits, outcome_notes}
use Rattle.wst_clients.specs.VisitOutcomes.{test_of, tests_in, tests_of, turn_notes}
use Rattle.wst_clients.specs.Visits.{BreaksTurn, HavePassed, IsInside, Met, Passing, Unmet, case_for, case_notes}
use Rattle.wst_clients.specs.Visits.{notes_of_passing}
use Rattle.wst_testing.specs.declared.outcome.Outcome.{Outcome}
use Rattle.wst_testing.specs.declared.outcome.Outcome.TheVariants.{NotRun}
use Rattle.wst_testing.specs.declared.outcome.Score.{Score}
use Rattle.wst_clients.specs.declared.testing_clients.VisitsEnd.{VisitsEnd}
use Rattle.wst_clients.specs.declared.testing_clients.VisitsEnd.TheVariants.{Ended, Enough, Stopped}
use Rattle.wst_clients.specs.declared.visiting.NoVisit.{NoVisit}
use Rattle.wst_clients.specs.declared.visiting.NoVisit.TheVariants.{Never, TooLate}
use Rattle.wst_clients.specs.declared.visiting.Visit.{Visit}
use Rattle.wst_clients.specs.declared.visiting.Visit.TheVariants as visit
use Rattle.wst_clients.specs.declared.visit_outcome.VisitOutcome.{VisitOutcome}
use Rattle.wst_clients.specs.declared.visit_outcome.VisitOutcome.TheVariants.{Over, Ran}
use Rattle.wst_clients.specs.declared.visiting.Telling.{Telling}
use Rattle.wst_clients.specs.declared.visiting.VisitRules.{VisitRules}
use Rattle.wst_testing.proofs.NoteLemmas.{each_on, each_then}
use Rattle.wst_testing.proofs.TestLemmas.{count_then, delivers_after, kinds_are_all, or_none, tally_of_more}
use Rattle.wst_testing.proofs.TestLemmas.{then_begun}
use Rattle.wst_testing.proofs.ReporterLemmas.{none_enough}

-- ---- one turn more

-- how the cases stand
visits_more : (m : Met) (rules : VisitRules) (start : StandingValue) (visits : List TakenTurn) (mid : StandingValue)
    (next : TakenTurn) → AreVisits m rules start visits mid → MayBeTaken m rules mid next
    → ends_with_outcome (length rules.cases.now) next.outcome ≡ false
    → AreVisits m rules start (visits ++ next ∷ []) (after_outcome mid next.outcome)
visits_more m rules start [] mid next is comes goes = (
  subst (λ (s : StandingValue). MayBeTaken m rules s next) (sym is) comes,
  goes,
  ap (λ (s : StandingValue). after_outcome s next.outcome) is,
)
visits_more m rules start (visit ∷ visits) mid next (came, went, before) comes goes =
    (came, went, visits_more m rules (after_outcome start visit.outcome) visits mid next before comes goes)

-- their tests, lines, outcomes and notes
tests_more : (rules : VisitRules) (visits : List TakenTurn) (next : TakenTurn)
    → tests_of rules (visits ++ next ∷ []) ≡ tests_of rules visits ++ tests_in rules next.outcome
tests_more rules visits next =
    flat_map-append (λ (t : TakenTurn). tests_in rules t.outcome) visits (next ∷ [])
    ∙ ap (λ (l : List (Case × Outcome)). tests_of rules visits ++ l) (append-nil (tests_in rules next.outcome))

lines_more : (rules : VisitRules) (visits : List TakenTurn) (next : TakenTurn)
    → lines_for rules.telling (tests_of rules visits) ++ lines_for rules.telling (tests_in rules next.outcome)
    ≡ lines_for rules.telling (tests_of rules (visits ++ next ∷ []))
lines_more rules visits next =
    sym (flat_map-append (line_for rules.telling) (tests_of rules visits) (tests_in rules next.outcome))
    ∙ ap (λ (l : List (Case × Outcome)). lines_for rules.telling l) (sym (tests_more rules visits next))

notes_more : (rules : VisitRules) (visits : List TakenTurn) (next : TakenTurn)
    → notes_of_visits rules visits ++ turn_notes rules next ≡ notes_of_visits rules (visits ++ next ∷ [])
notes_more rules visits next =
    ap (λ (l : List (List ℕ)). notes_of_visits rules visits ++ l) (sym (append-nil (turn_notes rules next)))
    ∙ sym (flat_map-append (λ (t : TakenTurn). turn_notes rules t) visits (next ∷ []))

-- what a run comes to with one test more
score_then : (telling : Telling) (tests : List (Case × Outcome)) (test : Case × Outcome)
    → score_by (score_for telling tests) test.1 (score_of_case telling test) ≡ score_for telling (tests ++ test ∷ [])
score_then telling tests test =
    let tally = tally_of_more tests test.0 test.1 in
    let one : list_any (fails_for telling) (test ∷ []) ≡ fails_for telling test = or_none (fails_for telling test) in
    let fails = sym (list_any-append (fails_for telling) tests (test ∷ [])
    ∙ ap (λ (b : Bool). list_any (fails_for telling) tests || b) one) in
    let failures = count_then (is_failure_for telling) tests test in
    let known = counts_more (map (change_for telling) tests) (change_for telling test)
    ∙ ap known_counts (sym (map-append (change_for telling) tests (test ∷ []))) in
    let kept = kept_more (map (verdict_for telling) tests) (verdict_for telling test)
    ∙ ap kept_of (sym (map-append (verdict_for telling) tests (test ∷ []))) in
    λ i. record { tally = tally i; is_failed = fails i; failures = failures i; known = known i; kept = kept i }

-- with more
pub score_all_more : (telling : Telling) (tests more : List (Case × Outcome))
    → score_with_all telling (score_for telling tests) more ≡ score_for telling (tests ++ more)
score_all_more telling tests [] = ap (λ (l : List (Case × Outcome)). score_for telling l) (sym (append-nil tests))
score_all_more telling tests (test ∷ more) =
    ap (λ (s : Score). score_with_all telling s more) (score_then telling tests test)
    ∙ score_all_more telling (tests ++ test ∷ []) more
    ∙ ap (λ (l : List (Case × Outcome)). score_for telling l) (append_assoc tests (test ∷ []) more)

counted_more : (rules : VisitRules) (visits : List TakenTurn) (next : TakenTurn) (score counted : Score)
    → score ≡ score_for rules.telling (tests_of rules visits)
    → counted ≡ score_with_all rules.telling score (tests_in rules next.outcome)
    → counted ≡ score_for rules.telling (tests_of rules (visits ++ next ∷ []))
counted_more rules visits next score counted was is =
    is ∙ ap (λ (s : Score). score_with_all rules.telling s (tests_in rules next.outcome)) was
    ∙ score_all_more rules.telling (tests_of rules visits) (tests_in rules next.outcome)
    ∙ ap (λ (l : List (Case × Outcome)). score_for rules.telling l) (sym (tests_more rules visits next))

-- one test at most
test_of_few : (case : Option Case) (outcome : Outcome) → length (test_of case outcome) ≤ 1
test_of_few None outcome = omega arith
test_of_few (Some case) outcome = omega arith

tests_few : (rules : VisitRules) (next : VisitOutcome) → length (tests_in rules next) ≤ 1
tests_few rules Over = omega arith
tests_few rules (Ran purpose outcome) = test_of_few (case_for rules.cases.now purpose) outcome

few_more : (rules : VisitRules) (visits : List TakenTurn) (next : TakenTurn) (n : ℕ)
    → length (tests_of rules visits) ≤ n → length (tests_of rules (visits ++ next ∷ [])) ≤ n + 1
few_more rules visits next n few =
    let long = length-append (tests_of rules visits) (tests_in rules next.outcome) in
    let all = ap (λ (l : List (Case × Outcome)). length l) (tests_more rules visits next) in
    omega (arith, few, tests_few rules next.outcome, long, all)

-- as many cases as before
after_connection_keeps : (standing : StandingValue) (purpose : Purpose) (behavior : Behavior)
    → length (after_connection standing purpose behavior).behaviors ≡ length standing.behaviors
after_connection_keeps standing (RunCase number) behavior = length-set standing.behaviors _ behavior
after_connection_keeps standing (NextCase number) behavior = length-set standing.behaviors _ behavior
after_connection_keeps standing CaseCount behavior = refl
after_connection_keeps standing (CaseInfo number) behavior = refl
after_connection_keeps standing (CaseStatus number) behavior = refl
after_connection_keeps standing UpdateReports behavior = refl
after_connection_keeps standing NoCase behavior = refl

pub after_keeps : (standing : StandingValue) (next : VisitOutcome)
    → length (after_outcome standing next).behaviors ≡ length standing.behaviors
after_keeps standing Over = refl
after_keeps standing (Ran purpose outcome) = after_connection_keeps standing purpose (behavior_for outcome)

-- the case of which it is told as it begins
abbrev pub case_in : VisitRules → VisitOutcome → Option Case
case_in rules Over = None
case_in rules (Ran purpose outcome) = case_for rules.cases.now purpose

same_case_notes : (rules : VisitRules) (outcome : VisitOutcome)
    → outcome_notes rules outcome ≡ case_notes rules.progress (case_in rules outcome)
same_case_notes rules Over = refl
same_case_notes rules (Ran purpose outcome) = refl

-- ---- the turns so far

-- so many turns were taken at most, none of which ends the run; the cases stand so, and that was counted
pub record HasVisitedSo (m : Met) (rules : VisitRules) (n : ℕ) (standing : StandingValue) (score : Score)
    (old new : Option (List ℕ)) (faults : Device) : Type 0 where
  pub visits : List TakenTurn
  pub have_come : HaveCome m rules visits standing
  pub few : length (tests_of rules visits) ≤ n
  pub counted : score ≡ score_for rules.telling (tests_of rules visits)
  pub written : Appends old new (lines_for rules.telling (tests_of rules visits))
  pub noted : TellsEach (notes_of_visits rules visits) faults
  pub kept : length standing.behaviors ≡ length rules.cases.now

pub visited_none : (m : Met) (rules : VisitRules) (standing : StandingValue) (score : Score) (held : Option (List ℕ))
    (faults : Device) → standing ≡ none_run (length rules.cases.now) → score ≡ no_score
    → Keeps faults.old faults.new → HasVisitedSo m rules 0 standing score held held faults
visited_none m rules standing score held faults is none kept = record {
  visits = [];
  have_come = (sym is, none_enough rules.max_fail);
  few = omega arith;
  counted = none;
  written = Appends-nil held;
  noted = kept;
  kept = ap (λ (s : StandingValue). length s.behaviors) is ∙ length-replicate (length rules.cases.now) Unimplemented;
}

-- what is known of one turn more
pub record VisitsNext (m : Met) (rules : VisitRules) (standing : StandingValue) (next : TakenTurn) (f g : Bool)
    (a b : Option (List ℕ)) : Type 0 where
  pub comes : MayBeTaken m rules standing next
  pub noted : TellsEach (turn_notes rules next) (record { failed = g; old = a; new = b })
  pub still : f ≡ true → g ≡ true

noted_more : (rules : VisitRules) (visits : List TakenTurn) (next : TakenTurn) (f g : Bool)
    (a b c : Option (List ℕ)) → TellsEach (notes_of_visits rules visits) (record { failed = f; old = a; new = b })
    → (f ≡ true → g ≡ true) → TellsEach (turn_notes rules next) (record { failed = g; old = b; new = c })
    → TellsEach (notes_of_visits rules (visits ++ next ∷ [])) (record { failed = g; old = a; new = c })
noted_more rules visits next f g a b c before still told =
    subst (λ (l : List (List ℕ)). TellsEach l (record { failed = g; old = a; new = c }))
    (notes_more rules visits next)
    (each_then (notes_of_visits rules visits) (turn_notes rules next) g a b c
    (each_on (notes_of_visits rules visits) f g a b still before) told)

-- whether there are enough failures with it
enough_then : (rules : VisitRules) (visits : List TakenTurn) (next : TakenTurn) (score counted : Score) (b : Bool)
    → score ≡ score_for rules.telling (tests_of rules visits)
    → counted ≡ score_with_all rules.telling score (tests_in rules next.outcome)
    → is_enough rules.max_fail counted.failures ≡ b → is_enough_with rules (visits ++ next ∷ []) ≡ b
enough_then rules visits next score counted b was is enough =
    subst (λ (s : Score). is_enough rules.max_fail s.failures ≡ b) (counted_more rules visits next score counted was is)
    enough

-- one that doesn't end the run
pub visited_more : (m : Met) (rules : VisitRules) (n : ℕ) (standing after : StandingValue) (next : TakenTurn)
    (score counted : Score) (old mid new : Option (List ℕ)) (f g : Bool) (a b c : Option (List ℕ))
    → HasVisitedSo m rules n standing score old mid (record { failed = f; old = a; new = b })
    → VisitsNext m rules standing next f g b c → ends_with_outcome (length rules.cases.now) next.outcome ≡ false
    → is_enough rules.max_fail counted.failures ≡ false → counted ≡ score_with_all rules.telling score (tests_in rules next.outcome)
    → Appends mid new (lines_for rules.telling (tests_in rules next.outcome))
    → after ≡ after_outcome standing next.outcome
    → HasVisitedSo m rules (n + 1) after counted old new (record { failed = g; old = a; new = c })
visited_more m rules n standing after next score counted old mid new f g a b c so is goes few count line stands = record {
  visits = so.visits ++ next ∷ [];
  have_come = (
    subst
        (λ (s : StandingValue). AreVisits m rules (none_run (length rules.cases.now)) (so.visits ++ next ∷ []) s)
        (sym stands)
        (visits_more m rules (none_run (length rules.cases.now)) so.visits standing next so.have_come.0 is.comes goes),
    enough_then rules so.visits next score counted false so.counted count few,
  );
  few = few_more rules so.visits next n so.few;
  counted = counted_more rules so.visits next score counted so.counted count;
  written = subst (λ (l : List ℕ). Appends old new l) (lines_more rules so.visits next)
      (Appends-trans old mid new (lines_for rules.telling (tests_of rules so.visits)) (lines_for rules.telling (tests_in rules next.outcome)) so.written
      line);
  noted = noted_more rules so.visits next f g a b c so.noted is.still is.noted;
  kept = ap (λ (s : StandingValue). length s.behaviors) stands ∙ after_keeps standing next.outcome ∙ so.kept;
}

-- one that ends it
pub visits_end : (m : Met) (u : Unmet) (rules : VisitRules) (n : ℕ) (standing after : StandingValue) (next : TakenTurn)
    (score counted : Score) (old mid new : Option (List ℕ)) (failed f g : Bool) (a b c : Option (List ℕ))
    → HasVisitedSo m rules n standing score old mid (record { failed = f; old = a; new = b })
    → VisitsNext m rules standing next f g b c → ends_with_outcome (length rules.cases.now) next.outcome ≡ true
    → is_enough rules.max_fail counted.failures ≡ false → counted ≡ score_with_all rules.telling score (tests_in rules next.outcome)
    → Appends mid new (lines_for rules.telling (tests_in rules next.outcome)) → failed ≡ false
    → after ≡ after_outcome standing next.outcome
    → EndsVisits m u rules after counted (record { failed = failed; old = old; new = new })
    (record { failed = g; old = a; new = c })
visits_end m u rules n standing after next score counted old mid new failed f g a b c so is ends few count line works stands = record {
  visits = so.visits ++ next ∷ [];
  late = [];
  have_all = inl (
    record {
      before = so.visits;
      earlier = standing;
      have_come = so.have_come;
      last = next;
      comes = is.comes;
      ends = ends;
      all = refl;
      goes_on = enough_then rules so.visits next score counted false so.counted count few;
      stands = stands;
    },
    refl,
  );
  counted = counted_more rules so.visits next score counted so.counted count;
  told = (
    subst (λ (l : List ℕ). Appends old new l) (lines_more rules so.visits next)
        (Appends-trans old mid new (lines_for rules.telling (tests_of rules so.visits)) (lines_for rules.telling (tests_in rules next.outcome))
        so.written line),
    works,
  );
  noted = subst (λ (l : List (List ℕ)). TellsEach l (record { failed = g; old = a; new = c }))
      (sym (append-nil (notes_of_visits rules (so.visits ++ next ∷ []))))
      (noted_more rules so.visits next f g a b c so.noted is.still is.noted);
}

-- one with which there are enough failures
pub visits_enough : (m : Met) (rules : VisitRules) (n : ℕ) (standing : StandingValue)
    (next : TakenTurn) (score counted : Score) (old mid new : Option (List ℕ)) (failed f g : Bool)
    (a b c : Option (List ℕ))
    → HasVisitedSo m rules n standing score old mid (record { failed = f; old = a; new = b })
    → VisitsNext m rules standing next f g b c → is_enough rules.max_fail counted.failures ≡ true
    → counted ≡ score_with_all rules.telling score (tests_in rules next.outcome)
    → Appends mid new (lines_for rules.telling (tests_in rules next.outcome)) → failed ≡ false
    → EndsEnough m rules counted (record { failed = failed; old = old; new = new })
    (record { failed = g; old = a; new = c })
visits_enough m rules n standing next score counted old mid new failed f g a b c so is enough count line works = record {
  before = so.visits;
  earlier = standing;
  have_come = so.have_come;
  last = next;
  comes = is.comes;
  visits = so.visits ++ next ∷ [];
  all = refl;
  enough = enough_then rules so.visits next score counted true so.counted count enough;
  counted = counted_more rules so.visits next score counted so.counted count;
  told = (
    subst (λ (l : List ℕ). Appends old new l) (lines_more rules so.visits next)
        (Appends-trans old mid new (lines_for rules.telling (tests_of rules so.visits)) (lines_for rules.telling (tests_in rules next.outcome))
        so.written line),
    works,
  );
  noted = noted_more rules so.visits next f g a b c so.noted is.still is.noted;
}

-- those who passed by behind the turns, of whom this was told
pub record PassedSo (m : Met) (rules : VisitRules) (standing : StandingValue) (f g : Bool) (a b : Option (List ℕ)) : Type 0
  where
    pub passed : HavePassed m rules standing (record { failed = g; old = a; new = b })
    pub still : f ≡ true → g ≡ true

pass_behind : (m : Met) (rules : VisitRules) (standing : StandingValue) (faults : Device)
    → (passed : HavePassed m rules standing faults) → PassBehind m rules standing (notes_of_passing passed.passing)
pass_behind m rules standing faults passed = (passed.passing, passed.pass, refl)

-- none comes in time, and that is told
pub visits_late : (m : Met) (u : Unmet) (rules : VisitRules) (n : ℕ)
    (standing : StandingValue) (score : Score) (old new : Option (List ℕ)) (failed f g h : Bool)
    (a b c d : Option (List ℕ))
    → HasVisitedSo m rules n standing score old new (record { failed = f; old = a; new = b }) → failed ≡ false
    → u.none rules TooLate → PassedSo m rules standing f g b c → (g ≡ true → h ≡ true)
    → TellsEach (late_texts rules.wait (run_count standing.behaviors) (length rules.cases.now))
    (record { failed = h; old = c; new = d })
    → EndsVisits m u rules standing score (record { failed = failed; old = old; new = new })
    (record { failed = h; old = a; new = d })
visits_late m u rules n standing score old new failed f g h a b c d so works late passed still told =
    let texts = late_texts rules.wait (run_count standing.behaviors) (length rules.cases.now) in
    let notes = notes_of_passing passed.passed.passing in
    let first = each_then (notes_of_visits rules so.visits) notes g a b c
    (each_on (notes_of_visits rules so.visits) f g a b passed.still so.noted) passed.passed.noted in
    let all = notes_of_visits rules so.visits ++ notes in record {
      visits = so.visits;
      late = notes ++ texts;
      have_all = inr (
        late,
        so.have_come,
        (notes, pass_behind m rules standing (record { failed = g; old = b; new = c }) passed.passed, refl),
      );
      counted = so.counted;
      told = (so.written, works);
      noted = subst (λ (l : List (List ℕ)). TellsEach l (record { failed = h; old = a; new = d }))
          (append_assoc (notes_of_visits rules so.visits) notes texts)
          (each_then all texts h a c d (each_on all g h a c still first) told);
    }

-- its line could not be written
pub visits_stop : (m : Met) (u : Unmet) (rules : VisitRules) (n : ℕ) (standing : StandingValue) (next : TakenTurn) (score : Score)
    (old mid new : Option (List ℕ)) (failed f g : Bool) (a b c : Option (List ℕ))
    → HasVisitedSo m rules n standing score old mid (record { failed = f; old = a; new = b })
    → VisitsNext m rules standing next f g b c → failed ≡ true → AppendsFront mid new (lines_for rules.telling (tests_in rules next.outcome))
    → StopsVisiting m u rules (record { failed = failed; old = old; new = new })
    (record { failed = g; old = a; new = c })
visits_stop m u rules n standing next score old mid new failed f g a b c so is fails begun = inr (record {
  visits = so.visits;
  standing = standing;
  have_come = so.have_come;
  last = next;
  comes = is.comes;
  failed = fails;
  begun = subst (λ (l : List ℕ). AppendsFront old new l) (lines_more rules so.visits next)
      (then_begun old mid new (lines_for rules.telling (tests_of rules so.visits)) (lines_for rules.telling (tests_in rules next.outcome)) so.written
      begun);
  noted = noted_more rules so.visits next f g a b c so.noted is.still is.noted;
})

pub has_visited : (m : Met) (rules : VisitRules) (n : ℕ) (standing : StandingValue) (score : Score) (old new : Option (List ℕ))
    (failed f g : Bool) (a b c : Option (List ℕ)) (Behind : StandingValue → List (List ℕ) → Type 0)
    (next : List (List ℕ))
    → HasVisitedSo m rules n standing score old new (record { failed = f; old = a; new = b }) → failed ≡ false
    → (f ≡ true → g ≡ true) → Behind standing next → TellsEach next (record { failed = g; old = b; new = c })
    → HasVisited m rules Behind (record { failed = failed; old = old; new = new })
    (record { failed = g; old = a; new = c })
has_visited m rules n standing score old new failed f g a b c Behind next so works still behind told = record {
  visits = so.visits;
  standing = standing;
  have_come = so.have_come;
  told = (so.written, works);
  next = next;
  behind = behind;
  noted = each_then (notes_of_visits rules so.visits) next g a b c
      (each_on (notes_of_visits rules so.visits) f g a b still so.noted) told;
}

-- none can come any more
pub visits_no_more : (m : Met) (u : Unmet) (rules : VisitRules) (n : ℕ) (standing : StandingValue) (score : Score)
    (old new : Option (List ℕ)) (failed f g : Bool) (a b c : Option (List ℕ))
    → HasVisitedSo m rules n standing score old new (record { failed = f; old = a; new = b }) → failed ≡ false
    → u.none rules Never → PassedSo m rules standing f g b c
    → StopsVisiting m u rules (record { failed = failed; old = old; new = new })
    (record { failed = g; old = a; new = c })
visits_no_more m u rules n standing score old new failed f g a b c so works never passed = inl (
  never,
  has_visited m rules n standing score old new failed f g a b c (PassBehind m rules)
      (notes_of_passing passed.passed.passing) so works passed.still
      (pass_behind m rules standing (record { failed = g; old = b; new = c }) passed.passed) passed.passed.noted,
)

-- behind the turns a further one was not taken to its end
broken_behind : (m : Met) (rules : VisitRules) (standing : StandingValue) (faults : Device)
    → (broken : BreaksTurn m rules standing faults) → BreaksBehind m rules standing (notes_of_passing broken.before
    ++ case_notes rules.progress broken.case ++ notes_of_passing broken.during)
broken_behind m rules standing faults broken =
    (broken.before, broken.during, broken.pass, broken.pass_too, (broken.case, refl))

pub breaks_visiting : (m : Met) (rules : VisitRules) (n : ℕ) (standing : StandingValue) (score : Score)
    (old new : Option (List ℕ)) (failed f g : Bool) (a b c : Option (List ℕ))
    → HasVisitedSo m rules n standing score old new (record { failed = f; old = a; new = b }) → failed ≡ false
    → (f ≡ true → g ≡ true) → BreaksTurn m rules standing (record { failed = g; old = b; new = c })
    → BreaksVisiting m rules (record { failed = failed; old = old; new = new })
    (record { failed = g; old = a; new = c })
breaks_visiting m rules n standing score old new failed f g a b c so works still broken =
    has_visited m rules n standing score old new failed f g a b c (BreaksBehind m rules) _ so works still
    (broken_behind m rules standing (record { failed = g; old = b; new = c }) broken) broken.noted

-- a turn was taken that is not told
pub breaks_taken : (m : Met) (rules : VisitRules) (standing : StandingValue) (turn : TakenTurn) (faults : Device)
    → MayBeTaken m rules standing turn → TellsEach (turn_notes rules turn) faults → BreaksTurn m rules standing faults
breaks_taken m rules standing turn faults taken told = record {
  before = turn.before;
  pass = taken.before;
  case = case_in rules turn.outcome;
  during = turn.during;
  pass_too = taken.during;
  noted = subst
      (λ (l : List (List ℕ)). TellsEach (notes_of_passing turn.before ++ l ++ notes_of_passing turn.during) faults)
      (same_case_notes rules turn.outcome) told;
}

-- what a run answers where it ends so
pub visits_err : (m : Met) (u : Unmet) (rules : VisitRules) (ended : Result VisitsEnd Fault) (output faults : Device)
    → BreaksVisiting m rules output faults → IsErrAnd ended (IsVisitFault u.fails)
    → RunsVisits m u rules ended output faults
visits_err m u rules (Ok end) output faults breaks is = absurd is
visits_err m u rules (Err fault) output faults breaks is = (is, breaks)

pub lacks_visits : {A : Type 0} (Fails : Type 0) (ended : Result A Fault) → IsErrAnd ended (λ fault. fault ≡ NoMemory)
    → IsErrAnd ended (IsVisitFault Fails)
lacks_visits Fails (Ok end) is = absurd is
lacks_visits Fails (Err fault) is = inl is

-- what holds, whatever was answered
pub where_err : {A E : Type 0} (ended : Result A E) (P : Type 0) → P → OnErr ended P
where_err (Ok end) P h = tt
where_err (Err fault) P h = h

-- what stops a run where a loop was stopped so
pub fault_stops : (Fails Why : Type 0) (why : LoopFault) (fault : Fault) → (Why → Fails) → IsFaultFor why fault
    → StopsFor Why why → IsVisitFault Fails fault
fault_stops Fails Why loop.NoMemory fault so is stops = inl is
fault_stops Fails Why loop.WaitFailed fault so is stops = inr (is, so stops)
fault_stops Fails Why loop.NoOutput fault so is stops = inr (is, so stops)

-- any clients may stop it who may
pub may_stop : {A : Type 0} (ended : Result A LoopFault) → IfErr ended (StopsFor ⊤)
may_stop (Ok end) = tt
may_stop (Err loop.NoMemory) = tt
may_stop (Err loop.WaitFailed) = tt
may_stop (Err loop.NoOutput) = tt

-- ---- what is told of a turn

inside_told : (explains : Option DataStyle) (expected : Expectation) (rules : VisitRules) (came : Visit)
    (told : VisitOutcome) → IsVisitOutcome explains expected came told → IsInside rules came → AsksInside rules told
inside_told explains expected rules visit.Over Over is inside = tt
inside_told explains expected rules visit.Over (Ran purpose outcome) is inside = absurd is
inside_told explains expected rules (visit.Ran p transcript) Over is inside = absurd is
inside_told explains expected rules (visit.Ran p transcript) (Ran purpose outcome) is inside =
    subst (λ (q : Purpose). AsksWithin (length rules.cases.now) q) (sym is.0) inside

-- it was taken, and this is told of it; or this is why none was
pub told_next : (m : Met) (u : Unmet) (rules : VisitRules) (standing : StandingValue) (taken : Result Visit NoVisit)
    (came : Result VisitOutcome NoVisit) (faults : Device) → TakesNext m u rules standing taken faults
    → IfOk taken (IsInside rules) → TellsOfTurn rules taken came → ComesNext m u rules standing came faults
told_next m u rules standing (Ok came) (Ok outcome) faults taken inside told = (
  record { before = taken.before; outcome = outcome; during = taken.during },
  refl,
  record {
    before = taken.pass;
    comes = record {
      visit = came;
      visited = taken.visits;
      told = told;
      inside = inside_told rules.explains rules.expected rules came outcome told inside;
    };
    during = taken.pass_too;
  },
  subst
      (λ (l : List (List ℕ)). TellsEach (notes_of_passing taken.before ++ l ++ notes_of_passing taken.during) faults)
      (same_notes rules.explains rules.expected rules came outcome told) taken.noted,
)
told_next m u rules standing (Ok came) (Err why) faults taken inside told = absurd told
told_next m u rules standing (Err why) (Ok outcome) faults taken inside told = absurd told
told_next m u rules standing (Err why) (Err other) faults (none, passed) inside told =
    (subst (λ (w : NoVisit). u.none rules w) (sym told) none, passed)

-- where memory runs out for what is told of it
pub untold_next : (m : Met) (u : Unmet) (rules : VisitRules) (standing : StandingValue) (taken : Result Visit NoVisit)
    (faults : Device) → TakesNext m u rules standing taken faults → BreaksTurn m rules standing faults
untold_next m u rules standing (Ok visit.Over) faults taken = record {
  before = taken.before;
  pass = taken.pass;
  case = None;
  during = taken.during;
  pass_too = taken.pass_too;
  noted = taken.noted;
}
untold_next m u rules standing (Ok (visit.Ran purpose transcript)) faults taken = record {
  before = taken.before;
  pass = taken.pass;
  case = case_for rules.cases.now purpose;
  during = taken.during;
  pass_too = taken.pass_too;
  noted = taken.noted;
}
untold_next m u rules standing (Err why) faults (none, passed) = broken_before m rules standing faults passed

-- a turn with those who passed by before it and in it
abbrev pub turn_with : List Passing → VisitOutcome → List Passing → TakenTurn
turn_with before outcome during = record { before = before; outcome = outcome; during = during }

-- so it came
pub next_came : (m : Met) (u : Unmet) (rules : VisitRules) (standing : StandingValue)
    (came : Result VisitOutcome NoVisit) (outcome : VisitOutcome) (f g : Bool) (a b : Option (List ℕ))
    → came ≡ Ok outcome → ComesNext m u rules standing came (record { failed = g; old = a; new = b })
    → (f ≡ true → g ≡ true) → (before during : List Passing)
    × VisitsNext m rules standing (turn_with before outcome during) f g a b
next_came m u rules standing came outcome f g a b is comes still =
    by (subst (λ (r : Result VisitOutcome NoVisit). ComesNext m u rules standing r
    (record { failed = g; old = a; new = b })) is comes)
  where
    by : ComesNext m u rules standing (Ok outcome) (record { failed = g; old = a; new = b })
        → (before during : List Passing) × VisitsNext m rules standing (turn_with before outcome during) f g a b
    by (turn, same, taken, told) = (
      turn.before,
      turn.during,
      subst (λ (o : VisitOutcome). VisitsNext m rules standing (turn_with turn.before o turn.during) f g a b) same
          (record { comes = taken; noted = told; still = still }),
    )

-- or none came
pub none_came : (m : Met) (u : Unmet) (rules : VisitRules) (standing : StandingValue)
    (came : Result VisitOutcome NoVisit) (why : NoVisit) (f g : Bool) (a b : Option (List ℕ)) → came ≡ Err why
    → ComesNext m u rules standing came (record { failed = g; old = a; new = b }) → (f ≡ true → g ≡ true)
    → u.none rules why × PassedSo m rules standing f g a b
none_came m u rules standing came why f g a b is comes still =
    let (none, passed) = subst (λ (r : Result VisitOutcome NoVisit). ComesNext m u rules standing r
    (record { failed = g; old = a; new = b })) is comes in (none, record { passed = passed; still = still })

-- ---- counts

within : {X : Type 0} (p : X → Bool) (xs : List X) → length (filter p xs) ≤ length xs
within p xs = omega (arith, length-filter_both p (λ x. not (p x)) (λ x. refl) xs)

-- there is room for so many more
pub visited_bound : (m : Met) (rules : VisitRules) (n : ℕ) (standing : StandingValue) (score : Score)
    (old new : Option (List ℕ)) (faults : Device) → HasVisitedSo m rules n standing score old new faults
    → (score.tally.pass ≤ n) × (score.tally.loose ≤ n) × (score.tally.fail ≤ n) × (score.failures ≤ n)
visited_bound m rules n standing score old new faults so =
    let outcomes = outcomes_in (tests_of rules so.visits) in
    let long = length-map (tests_of rules so.visits) (λ (t : Case × Outcome). t.1) in
    let pass : score.tally.pass ≡ length (filter is_pass outcomes) = ap (λ (s : Score). s.tally.pass) so.counted in
    let loose : score.tally.loose ≡ length (filter is_loose outcomes) = ap (λ (s : Score). s.tally.loose) so.counted in
    let fail : score.tally.fail ≡ length (filter is_fail outcomes) = ap (λ (s : Score). s.tally.fail) so.counted in
    let failures : score.failures ≡ length (filter (is_failure_for rules.telling) (tests_of rules so.visits)) =
    ap (λ (s : Score). s.failures) so.counted in (
      omega (arith, so.few, long, pass, within is_pass outcomes),
      omega (arith, so.few, long, loose, within is_loose outcomes),
      omega (arith, so.few, long, fail, within is_fail outcomes),
      omega (arith, so.few, failures, within (is_failure_for rules.telling) (tests_of rules so.visits)),
    )

-- and for the last lines, where the run ends
pub visits_fit : (m : Met) (rules : VisitRules) (n : ℕ) (standing after : StandingValue)
    (next : TakenTurn) (score counted : Score) (old new : Option (List ℕ)) (faults : Device)
    → HasVisitedSo m rules n standing score old new faults
    → counted ≡ score_with_all rules.telling score (tests_in rules next.outcome) → after ≡ after_outcome standing next.outcome
    → n < 4611686018427387904 → length rules.cases.now < 4294967296
    → FitsCases (length rules.cases.now) (Ended after counted)
visits_fit m rules n standing after next score counted old new faults so count stands bound fits =
    let tests = tests_of rules (so.visits ++ next ∷ []) in
    let outcomes = outcomes_in tests in
    let all = counted_more rules so.visits next score counted so.counted count in
    let few = few_more rules so.visits next n so.few in
    let long = length-map tests (λ (t : Case × Outcome). t.1) in
    let pass : counted.tally.pass ≡ length (filter is_pass outcomes) = ap (λ (s : Score). s.tally.pass) all in
    let loose : counted.tally.loose ≡ length (filter is_loose outcomes) = ap (λ (s : Score). s.tally.loose) all in
    let fail : counted.tally.fail ≡ length (filter is_fail outcomes) = ap (λ (s : Score). s.tally.fail) all in
    let failures : counted.failures ≡ length (filter (is_failure_for rules.telling) tests) =
    ap (λ (s : Score). s.failures) all in (
      ap (λ (s : StandingValue). length s.behaviors) stands ∙ after_keeps standing next.outcome ∙ so.kept,
      fits,
      omega (arith, few, long, pass, within is_pass outcomes, bound),
      omega (arith, few, long, loose, within is_loose outcomes, bound),
      omega (arith, few, long, fail, within is_fail outcomes, bound),
      omega (arith, few, failures, within (is_failure_for rules.telling) tests, bound),
    )

-- and for the count of enough
pub enough_fits : (m : Met) (rules : VisitRules) (n : ℕ) (standing : StandingValue)
    (next : TakenTurn) (score counted : Score) (old new : Option (List ℕ)) (faults : Device)
    → HasVisitedSo m rules n standing score old new faults
    → counted ≡ score_with_all rules.telling score (tests_in rules next.outcome)
    → n < 4611686018427387904 → FitsCases (length rules.cases.now) (Enough counted)
enough_fits m rules n standing next score counted old new faults so count bound =
    let tests = tests_of rules (so.visits ++ next ∷ []) in
    let all : count_in counted.tally ≡ length tests =
    ap (λ (s : Score). count_in s.tally) (counted_more rules so.visits next score counted so.counted count)
    ∙ kinds_are_all (outcomes_in tests) ∙ length-map tests (λ (t : Case × Outcome). t.1) in
    omega (arith, few_more rules so.visits next n so.few, all, bound)

-- also where none comes in time
pub late_fits : (m : Met) (rules : VisitRules) (n : ℕ) (standing : StandingValue)
    (score : Score) (old new : Option (List ℕ)) (faults : Device)
    → HasVisitedSo m rules n standing score old new faults → n ≤ 4611686018427387904
    → length rules.cases.now < 4294967296 → FitsCases (length rules.cases.now) (Ended standing score)
late_fits m rules n standing score old new faults so bound fits =
    let (pass, loose, fail, failures) = visited_bound m rules n standing score old new faults so in (
      so.kept,
      fits,
      omega (arith, pass, bound),
      omega (arith, loose, bound),
      omega (arith, fail, bound),
      omega (arith, failures, bound),
    )

-- ---- the last lines

-- of one case more
pub not_run_more : (cases : List Case) (behaviors : List Behavior) (case : Case) (behavior : Behavior)
    → length cases ≡ length behaviors
    → not_run (cases ++ case ∷ []) (behaviors ++ behavior ∷ []) ≡ not_run cases behaviors ++ not_run_if case behavior
not_run_more [] [] case behavior same = append-nil (not_run_if case behavior)
not_run_more [] (b ∷ behaviors) case behavior same = absurd (omega (arith, same))
not_run_more (c ∷ cases) [] case behavior same = absurd (omega (arith, same))
not_run_more (c ∷ cases) (b ∷ behaviors) case behavior same =
    ap (λ (l : List (Case × Outcome)). not_run_if c b ++ l)
    (not_run_more cases behaviors case behavior (omega (arith, same)))
    ∙ sym (append_assoc (not_run_if c b) (not_run cases behaviors) (not_run_if case behavior))

-- and the count of it
pub score_all_append : (telling : Telling) (score : Score) (first second : List (Case × Outcome))
    → score_with_all telling (score_with_all telling score first) second
    ≡ score_with_all telling score (first ++ second)
score_all_append telling score [] second = refl
score_all_append telling score (test ∷ first) second =
    score_all_append telling (score_by score test.1 (score_of_case telling test)) first second

-- so of the next case
pub not_run_step : (cases : List Case) (behaviors : List Behavior) (n : ℕ) (case : Case) (behavior : Behavior)
    → length behaviors ≡ length cases → n < length cases → case ≡ get_or cases n case
    → behavior ≡ get_or behaviors (n + 1 - 1) Unimplemented
    → not_run (take (n + 1) cases) (take (n + 1) behaviors)
    ≡ not_run (take n cases) (take n behaviors) ++ not_run_if case behavior
not_run_step cases behaviors n case behavior same below is gives =
    let cs : take (n + 1) cases ≡ take n cases ++ case ∷ [] =
    take_more cases n case below ∙ ap (λ (x : Case). take n cases ++ x ∷ []) (sym is) in
    let place : n + 1 - 1 ≡ n = omega arith in
    let found : behavior ≡ get_or behaviors n Unimplemented =
    gives ∙ ap (λ (i : ℕ). get_or behaviors i Unimplemented) place in
    let bs : take (n + 1) behaviors ≡ take n behaviors ++ behavior ∷ [] =
    take_more behaviors n Unimplemented (omega (arith, same, below))
    ∙ ap (λ (x : Behavior). take n behaviors ++ x ∷ []) (sym found) in
    ap (λ (l : List Case). not_run l (take (n + 1) behaviors)) cs
    ∙ ap (λ (l : List Behavior). not_run (take n cases ++ case ∷ []) l) bs
    ∙ not_run_more (take n cases) (take n behaviors) case behavior
    (length-take-le n cases (omega (arith, below))
    ∙ sym (length-take-le n behaviors (omega (arith, same, below))))

-- and how many of the cases were run, with the next one
pub run_step : (behaviors : List Behavior) (n : ℕ) (behavior : Behavior) (count next : ℕ)
    → count ≡ run_count (take n behaviors) → n < length behaviors
    → behavior ≡ get_or behaviors (n + 1 - 1) Unimplemented
    → next ≡ (if was_run behavior then count + 1 else count) → next ≡ run_count (take (n + 1) behaviors)
run_step behaviors n behavior count next counted below gives is =
    let place : n + 1 - 1 ≡ n = omega arith in
    let found : behavior ≡ get_or behaviors n Unimplemented =
    gives ∙ ap (λ (i : ℕ). get_or behaviors i Unimplemented) place in
    let bs : take (n + 1) behaviors ≡ take n behaviors ++ behavior ∷ [] =
    take_more behaviors n Unimplemented below
    ∙ ap (λ (x : Behavior). take n behaviors ++ x ∷ []) (sym found) in
    is ∙ ap (λ (k : ℕ). if was_run behavior then k + 1 else k) counted
    ∙ count_then was_run (take n behaviors) behavior
    ∙ ap (λ (l : List Behavior). run_count l) (sym bs)

-- and what is added of it
pub adds_step : (telling : Telling) (cases : List Case) (behaviors : List Behavior) (n : ℕ) (case : Case)
    (behavior : Behavior) (score counted next : Score) (bytes more : List ℕ)
    → AddsNotRun telling (take n cases) (take n behaviors) score bytes counted → length behaviors ≡ length cases
    → n < length cases → case ≡ get_or cases n case → behavior ≡ get_or behaviors (n + 1 - 1) Unimplemented
    → more ≡ bytes ++ lines_for telling (not_run_if case behavior)
    → next ≡ score_with_all telling counted (not_run_if case behavior)
    → AddsNotRun telling (take (n + 1) cases) (take (n + 1) behaviors) score more next
adds_step telling cases behaviors n case behavior score counted next bytes more (lines, count) same below is gives grown adds =
    let before = not_run (take n cases) (take n behaviors) in
    let one = not_run_if case behavior in
    let all = not_run_step cases behaviors n case behavior same below is gives in (
      grown ∙ ap (λ (l : List ℕ). l ++ lines_for telling one) lines
          ∙ sym (flat_map-append (line_for telling) before one)
          ∙ ap (λ (l : List (Case × Outcome)). lines_for telling l) (sym all),
      adds ∙ ap (λ (s : Score). score_with_all telling s one) count ∙ score_all_append telling score before one
          ∙ ap (λ (l : List (Case × Outcome)). score_with_all telling score l) (sym all),
    )

one_at_most : (b : Bool) (n : ℕ) → (if b then n + 1 else n) ≤ n + 1
one_at_most true n = omega arith
one_at_most false n = omega arith

-- of the kinds only the Fails grow, by one at most
pub counts_step : (telling : Telling) (counted next : Score) (case : Case) (behavior : Behavior)
    → next ≡ score_with_all telling counted (not_run_if case behavior)
    → (next.tally.pass ≡ counted.tally.pass) × (next.tally.loose ≡ counted.tally.loose)
    × (next.tally.fail ≤ counted.tally.fail + 1) × (next.failures ≤ counted.failures + 1)
counts_step telling counted next case Unimplemented is =
    let fail : next.tally.fail ≡ counted.tally.fail + 1 = ap (λ (s : Score). s.tally.fail) is in
    let counts = is_failure_for telling (case, NotRun) in
    let failures : next.failures ≡ (if counts then counted.failures + 1 else counted.failures) =
    ap (λ (s : Score). s.failures) is in (
      ap (λ (s : Score). s.tally.pass) is,
      ap (λ (s : Score). s.tally.loose) is,
      omega (arith, fail),
      omega (arith, failures, one_at_most counts counted.failures),
    )
counts_step telling counted next case behavior.Ok is =
    let fail : next.tally.fail ≡ counted.tally.fail = ap (λ (s : Score). s.tally.fail) is in
    let failures : next.failures ≡ counted.failures = ap (λ (s : Score). s.failures) is in (
      ap (λ (s : Score). s.tally.pass) is,
      ap (λ (s : Score). s.tally.loose) is,
      omega (arith, fail),
      omega (arith, failures),
    )
counts_step telling counted next case behavior.NonStrict is =
    let fail : next.tally.fail ≡ counted.tally.fail = ap (λ (s : Score). s.tally.fail) is in
    let failures : next.failures ≡ counted.failures = ap (λ (s : Score). s.failures) is in (
      ap (λ (s : Score). s.tally.pass) is,
      ap (λ (s : Score). s.tally.loose) is,
      omega (arith, fail),
      omega (arith, failures),
    )
counts_step telling counted next case behavior.Failed is =
    let fail : next.tally.fail ≡ counted.tally.fail = ap (λ (s : Score). s.tally.fail) is in
    let failures : next.failures ≡ counted.failures = ap (λ (s : Score). s.failures) is in (
      ap (λ (s : Score). s.tally.pass) is,
      ap (λ (s : Score). s.tally.loose) is,
      omega (arith, fail),
      omega (arith, failures),
    )

-- Behind enough failures: what was written of the turns, and then what stands behind them, or memory ran out for
-- that: `Same` and `Untold` say that nothing was written then, and nothing told. `f` and `g` say whether the fault output
-- had failed before what was told last and since, which held `a`, then `b`, then `c`.
pub tests_enough : (m : Met) (u : Unmet) (rules : VisitRules) (score : Score)
    (old mid new : Option (List ℕ)) (failed works f g : Bool) (a b c : Option (List ℕ)) (Same Untold : Type 0)
    (ended : Result Exit Fault)
    → EndsEnough m rules score (record { failed = works; old = old; new = mid })
    (record { failed = f; old = a; new = b })
    → (Same → (works ≡ failed) × (mid ≡ new)) → (Untold → (f ≡ g) × (b ≡ c)) → (f ≡ true → g ≡ true)
    → WritesEnough rules.telling score ended Same Untold (record { failed = failed; old = mid; new = new })
    (record { failed = g; old = b; new = c })
    → TestsClients m u rules ended (record { failed = failed; old = old; new = new })
    (record { failed = g; old = a; new = c })
tests_enough m u rules score old mid new failed works f g a b c Same Untold (Ok exit) so same untold still
    (told, beside) =
    let tests = tests_of rules so.visits in
    let all : count_in score.tally ≡ length tests =
    ap (λ (s : Score). count_in s.tally) so.counted ∙ kinds_are_all (outcomes_in tests)
    ∙ length-map tests (λ (t : Case × Outcome). t.1) in
    let behind = behind_for rules.telling (count_in score.tally) score in
    let whole = delivers_after old mid new failed (lines_for rules.telling tests) (end_for rules.telling behind)
    (exit_of_report score.is_failed) exit so.told.0 told in
    let noted = each_then (notes_of_visits rules so.visits) (beside_for rules.telling behind) g a b c
    (each_on (notes_of_visits rules so.visits) f g a b still so.noted) beside in
    inr (inr (record {
      before = so.before;
      earlier = so.earlier;
      have_come = so.have_come;
      last = so.last;
      comes = so.comes;
      visits = so.visits;
      all = so.all;
      enough = so.enough;
      tests = tests;
      are_tests = refl;
      told = subst
          (λ (s : Score). Delivers (exit_of_report s.is_failed) (lines_for rules.telling tests
          ++ end_for rules.telling (behind_for rules.telling (length tests) s)) exit
          (record { failed = failed; old = old; new = new })) so.counted
          (subst (λ (n : ℕ). Delivers (exit_of_report score.is_failed) (lines_for rules.telling tests
          ++ end_for rules.telling (behind_for rules.telling n score)) exit
          (record { failed = failed; old = old; new = new })) all whole);
      noted = subst
          (λ (s : Score). TellsEach (notes_of_visits rules so.visits
          ++ beside_for rules.telling (behind_for rules.telling (length tests) s))
          (record { failed = g; old = a; new = c })) so.counted
          (subst (λ (n : ℕ). TellsEach (notes_of_visits rules so.visits
          ++ beside_for rules.telling (behind_for rules.telling n score)) (record { failed = g; old = a; new = c })) all
          noted);
    }))
tests_enough m u rules score old mid new failed works f g a b c Same Untold (Err fault) so same untold still
    (is, stays, quiet) =
    let (as_before, held) = same stays in
    let (silent, heard) = untold quiet in
    let Ends = λ (w v : Bool) (x y : Option (List ℕ)). EndsEnough m rules score (record { failed = w; old = old; new = x })
    (record { failed = v; old = a; new = y }) in (
      inl is,
      inr (inr (
        score,
        subst (λ (y : Option (List ℕ)). Ends failed g new y) heard (subst (λ (v : Bool). Ends failed v new b) silent
            (subst (λ (x : Option (List ℕ)). Ends failed f x b) held (subst (λ (w : Bool). Ends w f mid b) as_before so))),
      )),
    )

-- The whole run: what was written of the turns, and then the last lines. `f` and `g` say whether the fault output
-- had failed before what was told last and since, which held `a`, then `b`, then `c`.
pub tests_all : (m : Met) (u : Unmet) (rules : VisitRules) (standing : StandingValue) (score counted : Score) (bytes behind : List ℕ)
    (old mid new : Option (List ℕ)) (failed works f g : Bool) (a b c : Option (List ℕ)) (exit : Exit)
    → EndsVisits m u rules standing score (record { failed = works; old = old; new = mid })
    (record { failed = f; old = a; new = b })
    → AddsLastLines rules standing.behaviors score bytes behind counted
    → Delivers (exit_of_report counted.is_failed) bytes exit (record { failed = failed; old = mid; new = new })
    → (f ≡ true → g ≡ true) → TellsEach (beside_for rules.telling behind) (record { failed = g; old = b; new = c })
    → TestsClients m u rules (Ok exit) (record { failed = failed; old = old; new = new })
    (record { failed = g; old = a; new = c })
tests_all m u rules standing score counted bytes behind old mid new failed works f g a b c exit so (lines, is_behind, count) told still beside =
    let run = tests_of rules so.visits in
    let more = not_run rules.cases.now standing.behaviors in
    let tests = run ++ more in
    let all : counted ≡ score_for rules.telling tests =
    count ∙ ap (λ (s : Score). score_with_all rules.telling s more) so.counted
    ∙ score_all_more rules.telling run more in
    let last = end_for rules.telling behind in
    let text : lines_for rules.telling run ++ bytes ≡ lines_for rules.telling tests ++ last =
    ap (λ (l : List ℕ). lines_for rules.telling run ++ l) lines
    ∙ sym (append_assoc (lines_for rules.telling run) (lines_for rules.telling more) last)
    ∙ ap (λ (l : List ℕ). l ++ last) (sym (flat_map-append (line_for rules.telling) run more)) in
    let whole = delivers_after old mid new failed (lines_for rules.telling run) bytes (exit_of_report counted.is_failed)
    exit so.told.0 told in
    let notes = notes_of_visits rules so.visits ++ so.late in
    let noted = each_then notes (beside_for rules.telling behind) g a b c (each_on notes f g a b still so.noted)
    beside in
    inl (record {
      visits = so.visits;
      standing = standing;
      late = so.late;
      have_all = so.have_all;
      tests = tests;
      are_tests = refl;
      told = subst
          (λ (s : Score). Delivers (exit_of_report s.is_failed) (lines_for rules.telling tests
          ++ end_for rules.telling (behind_for rules.telling (length rules.cases.now) s)) exit
          (record { failed = failed; old = old; new = new })) all
          (subst (λ (l : List ℕ). Delivers (exit_of_report counted.is_failed) (lines_for rules.telling tests
          ++ end_for rules.telling l) exit (record { failed = failed; old = old; new = new })) is_behind
          (subst (λ (l : List ℕ). Delivers (exit_of_report counted.is_failed) l exit
          (record { failed = failed; old = old; new = new })) text whole));
      noted = subst
          (λ (s : Score). TellsEach (notes
          ++ beside_for rules.telling (behind_for rules.telling (length rules.cases.now) s))
          (record { failed = g; old = a; new = c })) all
          (subst (λ (l : List ℕ). TellsEach (notes ++ beside_for rules.telling l)
          (record { failed = g; old = a; new = c })) is_behind noted);
    })

-- where memory ran out for them, nothing more was written or told
tests_lack : (m : Met) (u : Unmet) (rules : VisitRules) (ended : Result VisitsEnd Fault) (fault : Fault) (old mid new : Option (List ℕ))
    (failed works f g : Bool) (a b c : Option (List ℕ)) → RunsVisits m u rules ended
    (record { failed = works; old = old; new = mid }) (record { failed = f; old = a; new = b })
    → (works ≡ failed) × (mid ≡ new) → (f ≡ g) × (b ≡ c)
    → RunsVisits m u rules ended (record { failed = failed; old = old; new = new })
    (record { failed = g; old = a; new = c })
tests_lack m u rules ended fault old mid new failed works f g a b c runs (as_before, held) (silent, heard) =
    let Runs = λ (w v : Bool) (x y : Option (List ℕ)). RunsVisits m u rules ended
    (record { failed = w; old = old; new = x }) (record { failed = v; old = a; new = y }) in
    subst (λ (y : Option (List ℕ)). Runs failed g new y) heard (subst (λ (v : Bool). Runs failed v new b) silent
    (subst (λ (x : Option (List ℕ)). Runs failed f x b) held (subst (λ (w : Bool). Runs w f mid b) as_before runs)))

-- where turns have ended without a fault, and not with a line that could not be written, the output works
pub works_so : (m : Met) (u : Unmet) (rules : VisitRules) (ended : Result VisitsEnd Fault) (output faults : Device)
    → RunsVisits m u rules ended output faults → IsWorking ended output.failed
works_so m u rules (Ok (Ended standing score)) output faults runs = runs.told.1
works_so m u rules (Ok (Enough score)) output faults runs = runs.told.1
works_so m u rules (Ok Stopped) output faults runs = tt
works_so m u rules (Err why) output faults runs = tt

-- A run over clients, by how the taking of turns ended and what was told behind that.
pub tests_end : (m : Met) (u : Unmet) (rules : VisitRules) (ended : Result VisitsEnd Fault) (result : Result Exit Fault)
    (old mid new : Option (List ℕ)) (failed works f g : Bool) (a b c : Option (List ℕ)) (Same Untold : Type 0)
    → RunsVisits m u rules ended (record { failed = works; old = old; new = mid })
    (record { failed = f; old = a; new = b })
    → (Same → (works ≡ failed) × (mid ≡ new)) → (Untold → (f ≡ g) × (b ≡ c)) → (f ≡ true → g ≡ true)
    → TellsEndOf rules ended result Same Untold (record { failed = failed; old = mid; new = new })
    (record { failed = g; old = b; new = c })
    → TestsClients m u rules result (record { failed = failed; old = old; new = new })
    (record { failed = g; old = a; new = c })
tests_end m u rules (Ok (Ended standing score)) (Ok exit) old mid new failed works f g a b c Same Untold runs same untold
    still (lines, behind, counted, adds, told, beside) =
    tests_all m u rules standing score counted lines behind old mid new failed works f g a b c exit runs adds told still beside
tests_end m u rules (Ok (Ended standing score)) (Err fault) old mid new failed works f g a b c Same Untold runs same untold
    still (is, stays, quiet) = (
      inl is,
      inr (inl (
        standing,
        score,
        tests_lack m u rules (Ok (Ended standing score)) fault old mid new failed works f g a b c runs (same stays) (untold quiet),
      )),
    )
tests_end m u rules (Ok (Enough score)) result old mid new failed works f g a b c Same Untold runs same untold still tells =
    tests_enough m u rules score old mid new failed works f g a b c Same Untold result runs same untold still tells
tests_end m u rules (Ok Stopped) result old mid new failed works f g a b c Same Untold runs same untold still
    (is, stays, quiet) = subst (λ (r : Result Exit Fault). TestsClients m u rules r
    (record { failed = failed; old = old; new = new }) (record { failed = g; old = a; new = c })) (sym is)
    (inr (inl (
      refl,
      tests_lack m u rules (Ok Stopped) NoMemory old mid new failed works f g a b c runs (same stays)
          (untold quiet),
    )))
tests_end m u rules (Err why) result old mid new failed works f g a b c Same Untold runs same untold still
    (is, stays, quiet) =
    let (fault, breaks) = tests_lack m u rules (Err why) NoMemory old mid new failed works f g a b c runs (same stays)
    (untold quiet) in subst (λ (r : Result Exit Fault). TestsClients m u rules r
    (record { failed = failed; old = old; new = new }) (record { failed = g; old = a; new = c })) (sym is)
    (fault, inl breaks)
