-- What came of cases, judged, reported and counted one after the other, and how a run of them ends.
use Rattle.std.proofs.Common.{◌≡◌, ◌∙◌, ◌+◌, ◌<◌, ◌^◌, ◌≤◌, ℕ, Bool, false, not, List, [], ◌∷◌, ◌++◌, Option, Some, None}
use Rattle.std.proofs.Common.{Result, Ok, Err, IsErrAnd, if◌then◌else◌, ap, arith, refl, sym, subst, inl}
use Rattle.std.proofs.Common.{inr, append-nil, append_assoc, filter, length, map, take, take_all, true}
use Rattle.std.proofs.KnownBytes.{Appends-nil, Appends-trans}
use Rattle.std.proofs.lemmas.List.{length-map, map-append}
use Rattle.std.proofs.lemmas.List.Filters.{length-filter_both}
use Rattle.std.specs.Io.KnownBytes.{Appends}
use Rattle.std.specs.List.{AllByRecursion}
use Rattle.ws_frame.specs.Devices.{Device}
use Rattle.ws_frame.specs.Watching.{AppendsFront}
use Rattle.ws_reports.specs.Reports.{ReportValue, end_text}
use Rattle.ws_scripts.specs.declared.script.Case.{Case}
use Rattle.wst_commands.specs.Devices.{Delivers}
use Rattle.wst_commands.specs.declared.exit.Exit.{Exit}
use Rattle.wst_commands.specs.declared.exit.Exit.TheVariants.{Failed}
use Rattle.wst_commands.specs.declared.fault.Fault.{Fault}
use Rattle.wst_commands.specs.declared.fault.Fault.TheVariants.{NoMemory}
use Rattle.wst_sockets.specs.declared.meeting.ConnectFault.{ConnectFault}
use Rattle.wst_sockets.specs.declared.meeting.Meeting.{Meeting}
use Rattle.wst_testing.specs.Failures.{WentOn, is_enough}
use Rattle.wst_testing.specs.Hints.{IsHintState, hint_place, hint_with, notes_with}
use Rattle.wst_testing.specs.declared.hinting.HintState.{HintState}
use Rattle.wst_testing.specs.Notes.{TellsEach, miss_notes, notes_of, progress_notes}
use Rattle.wst_testing.specs.Outcomes.{MayRunEach, is_fail, is_loose, is_missed, is_pass, max_missed, missed_at_end}
use Rattle.wst_testing.specs.Reporter.{AreJudged, HasReported, IsEndOfStop, StopsReport, WorksFor}
use Rattle.wst_testing.specs.Reporting.{EndsReporting, behind_text, beside_notes, exit_of_report, is_failure, no_score}
use Rattle.wst_testing.specs.Reporting.{report_text, report_texts, score_of, score_with}
use Rattle.wst_testing.specs.Runner.{CameOf, GaveOfList, Hearing, ListValue, Stopping, StopsRun, items_of}
use Rattle.wst_testing.specs.Testing.{AreTested, IsOutcomeOf, IsTested, LacksMemoryAfter, RunsCases, StopsAtConnection}
use Rattle.wst_testing.specs.Testing.{StopsAtFailures, StopsAtLine, TellsAll, outcomes_in}
use Rattle.wst_testing.specs.declared.outcome.Outcome.{Outcome}
use Rattle.wst_testing.specs.declared.outcome.Outcome.TheVariants.{NoConnection}
use Rattle.wst_testing.specs.Tried.{tried_notes}
use Rattle.wst_testing.specs.declared.run_plans.TestedEnd.{TestedEnd}
use Rattle.wst_testing.specs.declared.runner.RunStop.{RunStop}
use Rattle.wst_testing.specs.declared.runner.RunStop.TheVariants as stop
use Rattle.wst_testing.specs.declared.outcome.Score.{Score}
use Rattle.wst_testing.specs.declared.testing.RunRules.{RunRules}
use Rattle.wst_testing.proofs.NoteLemmas.{hint_kept, hint_told, may_run_more, missed_more, noted_next, notes_more}
use Rattle.wst_testing.proofs.RunnerLemmas.{IsNextCase, front_is, next_is}
use Rattle.wst_testing.proofs.TestLemmas.{delivers_after, one_more_line, score_more, then_begun}

-- ---- what came of the cases, judged

pub judged_more : (rules : RunRules) (came : List (Case × Meeting)) (tests : List (Case × Outcome)) (case : Case)
    (meeting : Meeting) (outcome : Outcome) → AreJudged rules came tests → IsOutcomeOf rules meeting outcome
    → AreJudged rules (came ++ (case, meeting) ∷ []) (tests ++ (case, outcome) ∷ [])
judged_more rules [] [] case meeting outcome before is = (refl, is, tt)
judged_more rules [] (test ∷ tests) case meeting outcome before is = absurd before
judged_more rules (run ∷ came) [] case meeting outcome before is = absurd before
judged_more rules (run ∷ came) (test ∷ tests) case meeting outcome (same, told, rest) is =
    (same, told, judged_more rules came tests case meeting outcome rest is)

-- there are as many of them
judged_count : (rules : RunRules) (came : List (Case × Meeting)) (tests : List (Case × Outcome))
    → AreJudged rules came tests → length tests ≡ length came
judged_count rules [] [] judged = refl
judged_count rules [] (test ∷ tests) judged = absurd judged
judged_count rules (run ∷ came) [] judged = absurd judged
judged_count rules (run ∷ came) (test ∷ tests) (same, told, rest) =
    omega (arith, judged_count rules came tests rest)

-- they are the same cases
judged_cases : (rules : RunRules) (came : List (Case × Meeting)) (tests : List (Case × Outcome))
    → AreJudged rules came tests → map (λ (t : Case × Outcome). t.0) tests ≡ map (λ (r : Case × Meeting). r.0) came
judged_cases rules [] [] judged = refl
judged_cases rules [] (test ∷ tests) judged = absurd judged
judged_cases rules (run ∷ came) [] judged = absurd judged
judged_cases rules (run ∷ came) (test ∷ tests) (same, told, rest) =
    λ i. same i ∷ judged_cases rules came tests rest i

-- each of them was tested, where that may come of each
each_tested : (Meets : Case → Meeting → Type 0) (rules : RunRules) (came : List (Case × Meeting))
    (tests : List (Case × Outcome)) → AllByRecursion (λ (r : Case × Meeting). Meets r.0 r.1) came
    → AreJudged rules came tests → AllByRecursion (λ (t : Case × Outcome). IsTested Meets rules t.0 t.1) tests
each_tested Meets rules [] [] met judged = tt
each_tested Meets rules [] (test ∷ tests) met judged = absurd judged
each_tested Meets rules (run ∷ came) [] met judged = absurd judged
each_tested Meets rules (run ∷ came) (test ∷ tests) (one, others) (same, told, rest) = (
  record { meeting = run.1; met = subst (λ (c : Case). Meets c run.1) (sym same) one; told = told },
  each_tested Meets rules came tests others rest,
)

pub judged_tested : (Meets : Case → Meeting → Type 0) (rules : RunRules) (cases : List Case)
    (came : List (Case × Meeting)) (tests : List (Case × Outcome)) → items_of came ≡ cases
    → CameOf (λ (c : Case). c) Meets came → AreJudged rules came tests → AreTested Meets rules cases tests
judged_tested Meets rules cases came tests so met judged = record {
  of_cases = judged_cases rules came tests judged ∙ so;
  tested = each_tested Meets rules came tests met judged;
}

-- ---- what a reporter has written and told

-- no run ends before its first case
pub some_missed : (is_limited : Bool) → 0 < max_missed is_limited
some_missed true = omega arith
some_missed false = omega arith

-- how many in a row are without a connection after one more
missed_then : (tests : List (Case × Outcome)) (case : Case) (outcome : Outcome) (missed next : ℕ)
    → missed ≡ missed_at_end (outcomes_in tests) → next ≡ (if is_missed outcome then 1 + missed else 0)
    → next ≡ missed_at_end (outcomes_in (tests ++ (case, outcome) ∷ []))
missed_then tests case outcome missed next counted is =
    is ∙ ap (λ (n : ℕ). if is_missed outcome then 1 + n else 0) counted ∙ sym (missed_more (outcomes_in tests) outcome)
    ∙ ap (λ (l : List Outcome). missed_at_end l)
    (sym (map-append (λ (t : Case × Outcome). t.1) tests ((case, outcome) ∷ [])))

-- and it may run
may_run_then : (most : ℕ) (tests : List (Case × Outcome)) (case : Case) (outcome : Outcome) (missed : ℕ)
    → MayRunEach most (outcomes_in tests) → missed ≡ missed_at_end (outcomes_in tests) → missed < most
    → MayRunEach most (outcomes_in (tests ++ (case, outcome) ∷ []))
may_run_then most tests case outcome missed may counted few =
    subst (λ (l : List Outcome). MayRunEach most l)
    (sym (map-append (λ (t : Case × Outcome). t.1) tests ((case, outcome) ∷ [])))
    (may_run_more most (outcomes_in tests) outcome may (subst (λ (n : ℕ). n < most) counted few))

count_within : {X : Type 0} (p : X → Bool) (xs : List X) → length (filter p xs) ≤ length xs
count_within p xs = omega (arith, length-filter_both p (λ x. not (p x)) (λ x. refl) xs)

-- nor behind no failure
pub none_enough : (most : Option ℕ) → is_enough most 0 ≡ false
none_enough None = refl
none_enough (Some most) = refl

module _ (rules : RunRules) (report : ReportValue) (place : ℕ) where
  pub reported_nothing : (score : Score) (hint : HintState) (held : Option (List ℕ)) (failed : Bool) (faults : Device)
      → score ≡ no_score → IsHintState place [] hint → failed ≡ false → TellsEach [] faults
      → HasReported rules report place [] None score 0 hint (record { failed = failed; old = held; new = held }) faults
  reported_nothing score hint held failed faults none starts works untouched = record {
    tests = [];
    judged = tt;
    may_run = λ k below. absurd (omega (arith, below));
    few = some_missed rules.is_limited;
    went_on = inl refl;
    goes_on = none_enough rules.max_fail;
    counted = refl;
    scored = none;
    written = Appends-nil held;
    works = works;
    noted = untouched;
    hinted = starts;
  }

  -- the name of the next case was told, where that is asked for; `f` and `g` say whether the fault output has failed
  -- before and since
  pub reported_begun : (came : List (Case × Meeting)) (case : Case) (score : Score) (missed : ℕ) (hint : HintState)
      (output : Device) (f g : Bool) (a b c : Option (List ℕ))
      → HasReported rules report place came None score missed hint output (record { failed = f; old = a; new = b })
      → (f ≡ true → g ≡ true) → TellsEach (progress_notes rules.progress case)
      (record { failed = g; old = b; new = c })
      → HasReported rules report place came (Some case) score missed hint output (record { failed = g; old = a; new = c })
  reported_begun came case score missed hint output f g a b c so still told = record {
    tests = so.tests;
    judged = so.judged;
    may_run = so.may_run;
    few = so.few;
    went_on = so.went_on;
    goes_on = so.goes_on;
    counted = so.counted;
    scored = so.scored;
    written = so.written;
    works = so.works;
    noted = noted_next (notes_of rules.progress place so.tests) (progress_notes rules.progress case) f g a b c still
        so.noted told;
    hinted = so.hinted;
  }

  -- there is room for one case more in its counts
  pub reported_room : (came : List (Case × Meeting)) (next : Option Case) (score : Score) (missed : ℕ)
      (hint : HintState) (output faults : Device)
      → HasReported rules report place came next score missed hint output faults
      → length came + 1 < 2 ^ 64
      → (score.tally.pass + 1 < 2 ^ 64) × (score.tally.loose + 1 < 2 ^ 64) × (score.tally.fail + 1 < 2 ^ 64)
      × (score.failures + 1 < 2 ^ 64)
  reported_room came next score missed hint output faults so fits =
      let outcomes = outcomes_in so.tests in
      let many : length outcomes ≡ length came =
      length-map so.tests (λ (t : Case × Outcome). t.1) ∙ judged_count rules came so.tests so.judged in
      let pass : score.tally.pass ≡ length (filter is_pass outcomes) = ap (λ (t : Score). t.tally.pass) so.scored in
      let loose : score.tally.loose ≡ length (filter is_loose outcomes) =
      ap (λ (t : Score). t.tally.loose) so.scored in
      let fail : score.tally.fail ≡ length (filter is_fail outcomes) = ap (λ (t : Score). t.tally.fail) so.scored in
      let failures : score.failures ≡ length (filter (is_failure report) so.tests) =
      ap (λ (t : Score). t.failures) so.scored in
      let all : length so.tests ≡ length came = judged_count rules came so.tests so.judged in (
        omega (arith, many, pass, count_within is_pass outcomes, fits),
        omega (arith, many, loose, count_within is_loose outcomes, fits),
        omega (arith, many, fail, count_within is_fail outcomes, fits),
        omega (arith, all, failures, count_within (is_failure report) so.tests, fits),
      )

  -- The next case is judged so: `f` and `g` say whether the fault output has failed before and since, which held `a`,
  -- then `b`, then `c`.
  module _ (came : List (Case × Meeting)) (case : Case) (meeting : Meeting) (outcome : Outcome) (score : Score)
      (missed less : ℕ) (hint : HintState) (old mid new : Option (List ℕ)) (worked failed f g : Bool) (a b c : Option (List ℕ))
      (so : HasReported rules report place came (Some case) score missed hint (record { failed = worked; old = old; new = mid })
      (record { failed = f; old = a; new = b })) (is : IsOutcomeOf rules meeting outcome)
      (still : f ≡ true → g ≡ true)
      (why : TellsEach (miss_notes outcome ++ notes_with hint outcome) (record { failed = g; old = b; new = c }))
    where
      abbrev tests_then : List (Case × Outcome)
      tests_then = so.tests ++ (case, outcome) ∷ []

      judged_then : AreJudged rules (came ++ (case, meeting) ∷ []) tests_then
      judged_then = judged_more rules came so.tests case meeting outcome so.judged is

      allowed_then : MayRunEach (max_missed rules.is_limited) (outcomes_in tests_then)
      allowed_then = may_run_then (max_missed rules.is_limited) so.tests case outcome missed so.may_run so.counted
          so.few

      went_on_then : WentOn rules.max_fail report tests_then
      went_on_then = inr (so.tests, (case, outcome), refl, so.goes_on)

      scored_then : (next : Score) → next ≡ score_with report score (case, outcome) → next ≡ score_of report tests_then
      scored_then next scored = scored ∙ ap (λ (t : Score). score_with report t (case, outcome)) so.scored
          ∙ score_more report so.tests case outcome

      missed_few : less ≡ (if is_missed outcome then 1 + missed else 0) → less < max_missed rules.is_limited
          → missed_at_end (outcomes_in tests_then) < max_missed rules.is_limited
      missed_few counted few = subst (λ (k : ℕ). k < max_missed rules.is_limited)
          (missed_then so.tests case outcome missed less so.counted counted) few

      noted_then : TellsEach (notes_of rules.progress place tests_then) (record { failed = g; old = a; new = c })
      noted_then =
          let notes = notes_of rules.progress place so.tests in
          let name = progress_notes rules.progress case in
          let behind = miss_notes outcome ++ notes_with hint outcome in
          subst (λ (l : List (List ℕ)). TellsEach l (record { failed = g; old = a; new = c }))
          (append_assoc notes name behind
          ∙ ap (λ (l : List (List ℕ)). notes ++ (name ++ (miss_notes outcome ++ l)))
          (hint_told place (outcomes_in so.tests) hint outcome so.hinted)
          ∙ notes_more rules.progress place so.tests case outcome)
          (noted_next (notes ++ name) behind f g a b c still so.noted why)

      hinted_then : IsHintState place (outcomes_in tests_then) (hint_with hint outcome)
      hinted_then = subst (λ (l : List Outcome). IsHintState place l (hint_with hint outcome))
          (sym (map-append (λ (t : Case × Outcome). t.1) so.tests ((case, outcome) ∷ [])))
          (hint_kept place (outcomes_in so.tests) hint outcome so.hinted)

      written_then : Appends mid new (report_text report (case, outcome)) → Appends old new (report_texts report tests_then)
      written_then line = subst (λ (l : List ℕ). Appends old new l) (one_more_line report so.tests (case, outcome))
          (Appends-trans old mid new (report_texts report so.tests) (report_text report (case, outcome)) so.written
          line)

      -- what the report has of it was written
      pub reported_more : (next : Score) (later : HintState) → next ≡ score_with report score (case, outcome)
          → later ≡ hint_with hint outcome
          → less ≡ (if is_missed outcome then 1 + missed else 0) → less < max_missed rules.is_limited
          → is_enough rules.max_fail next.failures ≡ false
          → Appends mid new (report_text report (case, outcome)) → failed ≡ false
          → HasReported rules report place (came ++ (case, meeting) ∷ []) None next less later
          (record { failed = failed; old = old; new = new }) (record { failed = g; old = a; new = c })
      reported_more next later scored with_it counted few goes line works = record {
        tests = tests_then;
        judged = judged_then;
        may_run = allowed_then;
        few = few;
        went_on = went_on_then;
        goes_on = subst (λ (t : Score). is_enough rules.max_fail t.failures ≡ false) (scored_then next scored) goes;
        counted = missed_then so.tests case outcome missed less so.counted counted;
        scored = scored_then next scored;
        written = written_then line;
        works = works;
        noted = noted_then;
        hinted = subst (λ (h : HintState). IsHintState place (outcomes_in tests_then) h) (sym with_it) hinted_then;
      }

      -- the same, and with it there are enough failures
      pub report_enough : (next : Score) → next ≡ score_with report score (case, outcome)
          → less ≡ (if is_missed outcome then 1 + missed else 0) → less < max_missed rules.is_limited
          → is_enough rules.max_fail next.failures ≡ true
          → Appends mid new (report_text report (case, outcome)) → failed ≡ false
          → StopsReport rules report place (came ++ (case, meeting) ∷ []) next stop.Enough
          (record { failed = failed; old = old; new = new }) (record { failed = g; old = a; new = c })
      report_enough next scored counted few enough line works = record {
        tests = tests_then;
        judged = judged_then;
        may_run = allowed_then;
        went_on = went_on_then;
        noted = noted_then;
        ends = (
          works,
          written_then line,
          missed_few counted few,
          subst (λ (t : Score). is_enough rules.max_fail t.failures ≡ true) (scored_then next scored) enough,
          scored_then next scored,
        );
      }

      -- it could not be written whole
      pub report_breaks : (now : Score) → AppendsFront mid new (report_text report (case, outcome)) → failed ≡ true
          → StopsReport rules report place (came ++ (case, meeting) ∷ []) now stop.Output
          (record { failed = failed; old = old; new = new }) (record { failed = g; old = a; new = c })
      report_breaks now begun broken = record {
        tests = tests_then;
        judged = judged_then;
        may_run = allowed_then;
        went_on = went_on_then;
        noted = noted_then;
        ends = (
          broken,
          subst (λ (l : List ℕ). AppendsFront old new l) (one_more_line report so.tests (case, outcome))
              (then_begun old mid new (report_texts report so.tests) (report_text report (case, outcome)) so.written
              begun),
        );
      }

      -- with it as many in a row are without a connection as end a run
      pub report_misses : (now : Score) (reason : ConnectFault) → outcome ≡ NoConnection reason
          → less ≡ (if is_missed outcome then 1 + missed else 0) → less ≡ max_missed rules.is_limited
          → Appends mid new (report_text report (case, outcome)) → failed ≡ false
          → StopsReport rules report place (came ++ (case, meeting) ∷ []) now (stop.NoConnection reason)
          (record { failed = failed; old = old; new = new }) (record { failed = g; old = a; new = c })
      report_misses now reason misses counted most line works = record {
        tests = tests_then;
        judged = judged_then;
        may_run = allowed_then;
        went_on = went_on_then;
        noted = noted_then;
        ends = (
          works,
          written_then line,
          sym (missed_then so.tests case outcome missed less so.counted counted) ∙ most,
          (so.tests, case, ap (λ (o : Outcome). so.tests ++ (case, o) ∷ []) misses),
        );
      }

-- ---- how a run ends

module _ (Meets : Case → Meeting → Type 0) (rules : RunRules) (report : ReportValue) (cases : List Case)
    (tested : TestedEnd) where
  -- the reporter has ended it
  pub run_broken : (n : ℕ) (came : List (Case × Meeting)) (score : Score) (exit : Exit) (output faults : Device)
      → items_of came ≡ take n cases → CameOf (λ (c : Case). c) Meets came
      → StopsReport rules report (hint_place (length cases)) came score stop.Output output faults → exit ≡ Failed
      → RunsCases Meets rules report cases tested (Ok exit) output faults
  run_broken n came score exit output faults of met h is =
      let stops : StopsAtLine Meets rules report cases (notes_of rules.progress (hint_place (length cases)) h.tests) exit output = record {
        n = n;
        tests = h.tests;
        are_tested = judged_tested Meets rules (take n cases) came h.tests of met h.judged;
        may_run = h.may_run;
        went_on = h.went_on;
        noted = refl;
        failed = (is, h.ends.0);
        begun = h.ends.1;
      } in
      (notes_of rules.progress (hint_place (length cases)) h.tests, inr (inl stops), h.noted)

  -- there was no connection at last, and where that was refused, the address was told: `f` and `g` say whether the fault
  -- output had failed before that and since, which held `a`, then `b`, then `c`
  pub run_missed : (n : ℕ) (came : List (Case × Meeting)) (score : Score) (why : ConnectFault) (exit : Exit)
      (output : Device) (f g : Bool) (a b c : Option (List ℕ)) → items_of came ≡ take n cases
      → CameOf (λ (c : Case). c) Meets came
      → StopsReport rules report (hint_place (length cases)) came score (stop.NoConnection why) output
      (record { failed = f; old = a; new = b })
      → (f ≡ true → g ≡ true) → TellsEach (tried_notes tested why) (record { failed = g; old = b; new = c })
      → exit ≡ Failed
      → RunsCases Meets rules report cases tested (Ok exit) output (record { failed = g; old = a; new = c })
  run_missed n came score why exit output f g a b c of met h still told is =
      let (works, written, most, last) = h.ends in
      let notes = notes_of rules.progress (hint_place (length cases)) h.tests in
      let stops : StopsAtConnection Meets rules report cases tested (notes ++ tried_notes tested why) exit output = record {
        n = n;
        tests = h.tests;
        are_tested = judged_tested Meets rules (take n cases) came h.tests of met h.judged;
        may_run = h.may_run;
        went_on = h.went_on;
        missed = most;
        why = why;
        last = last;
        noted = refl;
        ended = (is, works);
        written = written;
      } in (
        notes ++ tried_notes tested why,
        inr (inr (inl stops)),
        noted_next notes (tried_notes tested why) f g a b c still h.noted told,
      )

  -- It was stopped behind enough failures, and what the report has behind them was written and told: `f` and `g` say
  -- whether the fault output had failed before that and since, which held `a`, then `b`, then `c`.
  run_enough : (n : ℕ) (came : List (Case × Meeting)) (score : Score) (old mid new : Option (List ℕ)) (exit : Exit)
      (worked failed f g : Bool) (a b c : Option (List ℕ)) → items_of came ≡ take n cases
      → CameOf (λ (c : Case). c) Meets came
      → StopsReport rules report (hint_place (length cases)) came score stop.Enough
      (record { failed = worked; old = old; new = mid }) (record { failed = f; old = a; new = b })
      → (f ≡ true → g ≡ true)
      → Delivers (exit_of_report score.is_failed) (end_text report (behind_text report score)) exit
      (record { failed = failed; old = mid; new = new })
      → TellsEach (beside_notes report (behind_text report score)) (record { failed = g; old = b; new = c })
      → RunsCases Meets rules report cases tested (Ok exit) (record { failed = failed; old = old; new = new })
      (record { failed = g; old = a; new = c })
  run_enough n came score old mid new exit worked failed f g a b c of met h still told beside =
      let (works, written, few, enough, scored) = h.ends in
      let there = score_of report h.tests in
      let behind = behind_text report there in
      let notes = notes_of rules.progress (hint_place (length cases)) h.tests in
      let stops : StopsAtFailures Meets rules report cases (notes ++ beside_notes report behind) exit
      (record { failed = failed; old = old; new = new }) = record {
        n = n;
        tests = h.tests;
        are_tested = judged_tested Meets rules (take n cases) came h.tests of met h.judged;
        may_run = h.may_run;
        few = few;
        went_on = h.went_on;
        enough = enough;
        noted = refl;
        told = delivers_after old mid new failed (report_texts report h.tests) (end_text report behind)
            (exit_of_report there.is_failed) exit written
            (subst (λ (t : Score). Delivers (exit_of_report t.is_failed) (end_text report (behind_text report t)) exit
            (record { failed = failed; old = mid; new = new })) scored told);
      } in (
        notes ++ beside_notes report behind,
        inr (inr (inr stops)),
        noted_next notes (beside_notes report behind) f g a b c still h.noted
            (subst (λ (t : Score). TellsEach (beside_notes report (behind_text report t))
            (record { failed = g; old = b; new = c })) scored beside),
      )

  -- and where memory ran out for that
  run_lacks_total : (n : ℕ) (came : List (Case × Meeting)) (score : Score) (fault : Fault) (output faults : Device)
      → items_of came ≡ take n cases → CameOf (λ (c : Case). c) Meets came
      → StopsReport rules report (hint_place (length cases)) came score stop.Enough output faults → fault ≡ NoMemory
      → RunsCases Meets rules report cases tested (Err fault) output faults
  run_lacks_total n came score fault output faults of met h is =
      let (works, written, few, enough, scored) = h.ends in
      let notes = notes_of rules.progress (hint_place (length cases)) h.tests ++ [] in
      let lacks : LacksMemoryAfter Meets rules report cases notes output = record {
        n = n;
        tests = h.tests;
        are_tested = judged_tested Meets rules (take n cases) came h.tests of met h.judged;
        may_run = h.may_run;
        few = few;
        went_on = h.went_on;
        next = [];
        is_next = inl refl;
        noted = refl;
        works = works;
        written = written;
      } in (
        notes,
        (is, lacks),
        subst (λ (l : List (List ℕ)). TellsEach l faults)
            (sym (append-nil (notes_of rules.progress (hint_place (length cases)) h.tests))) h.noted,
      )

  -- nothing was written or told since
  as_it_was : (ended : Result Exit Fault) (worked failed f g : Bool) (old mid new a b c : Option (List ℕ))
      → (worked ≡ failed) × (mid ≡ new) → (f ≡ g) × (b ≡ c)
      → RunsCases Meets rules report cases tested ended (record { failed = worked; old = old; new = mid })
      (record { failed = f; old = a; new = b })
      → RunsCases Meets rules report cases tested ended (record { failed = failed; old = old; new = new })
      (record { failed = g; old = a; new = c })
  as_it_was ended worked failed f g old mid new a b c (as_before, held) (silent, heard) runs =
      let Runs = λ (w v : Bool) (x y : Option (List ℕ)). RunsCases Meets rules report cases tested ended
      (record { failed = w; old = old; new = x }) (record { failed = v; old = a; new = y }) in
      subst (λ (y : Option (List ℕ)). Runs failed g new y) heard (subst (λ (v : Bool). Runs failed v new b) silent
      (subst (λ (x : Option (List ℕ)). Runs failed f x b) held (subst (λ (w : Bool). Runs w f mid b) as_before runs)))

  run_enough_told : (n : ℕ) (came : List (Case × Meeting)) (score : Score) (old mid new : Option (List ℕ))
      (worked failed f g : Bool) (a b c : Option (List ℕ)) (Same Untold : Type 0) (ended : Result Exit Fault)
      → items_of came ≡ take n cases → CameOf (λ (c : Case). c) Meets came
      → StopsReport rules report (hint_place (length cases)) came score stop.Enough
      (record { failed = worked; old = old; new = mid }) (record { failed = f; old = a; new = b })
      → (Same → (worked ≡ failed) × (mid ≡ new)) → (Untold → (f ≡ g) × (b ≡ c)) → (f ≡ true → g ≡ true)
      → EndsReporting report score ended Same Untold (record { failed = failed; old = mid; new = new })
      (record { failed = g; old = b; new = c })
      → RunsCases Meets rules report cases tested ended (record { failed = failed; old = old; new = new })
      (record { failed = g; old = a; new = c })
  run_enough_told n came score old mid new worked failed f g a b c Same Untold (Ok exit) of met h same untold still
      (told, beside) =
      run_enough n came score old mid new exit worked failed f g a b c of met h still told beside
  run_enough_told n came score old mid new worked failed f g a b c Same Untold (Err fault) of met h same untold still
      (is, stays, quiet) =
      as_it_was (Err fault) worked failed f g old mid new a b c (same stays) (untold quiet)
      (run_lacks_total n came score fault (record { failed = worked; old = old; new = mid })
      (record { failed = f; old = a; new = b }) of met h is)

  -- memory ran out, where the name of the next case may have been told
  pub run_lacks : (n : ℕ) (came : List (Case × Meeting)) (next : Option Case) (score : Score) (missed : ℕ) (hint : HintState)
      (ended : Result Exit Fault) (output faults : Device) → items_of came ≡ take n cases
      → CameOf (λ (c : Case). c) Meets came → IsNextCase cases n next → HasReported rules report (hint_place (length cases)) came next score missed hint output faults
      → IsErrAnd ended (λ fault. fault ≡ NoMemory) → RunsCases Meets rules report cases tested ended output faults
  run_lacks n came next score missed hint (Ok exit) output faults of met is_next so is = absurd is
  run_lacks n came None score missed hint (Err fault) output faults of met is_next so is =
      let notes = notes_of rules.progress (hint_place (length cases)) so.tests ++ [] in
      let lacks : LacksMemoryAfter Meets rules report cases notes output = record {
        n = n;
        tests = so.tests;
        are_tested = judged_tested Meets rules (take n cases) came so.tests of met so.judged;
        may_run = so.may_run;
        few = subst (λ (k : ℕ). k < max_missed rules.is_limited) so.counted so.few;
        went_on = so.went_on;
        next = [];
        is_next = inl refl;
        noted = refl;
        works = so.works;
        written = so.written;
      } in (
        notes,
        (is, lacks),
        subst (λ (l : List (List ℕ)). TellsEach l faults) (sym (append-nil (notes_of rules.progress (hint_place (length cases)) so.tests)))
            so.noted,
      )
  run_lacks n came (Some case) score missed hint (Err fault) output faults of met is_next so is =
      let name = progress_notes rules.progress case in
      let lacks : LacksMemoryAfter Meets rules report cases (notes_of rules.progress (hint_place (length cases)) so.tests ++ name) output = record {
        n = n;
        tests = so.tests;
        are_tested = judged_tested Meets rules (take n cases) came so.tests of met so.judged;
        may_run = so.may_run;
        few = subst (λ (k : ℕ). k < max_missed rules.is_limited) so.counted so.few;
        went_on = so.went_on;
        next = name;
        is_next = inr (case, is_next, refl);
        noted = refl;
        works = so.works;
        written = so.written;
      } in
      (notes_of rules.progress (hint_place (length cases)) so.tests ++ name, (is, lacks), so.noted)

  -- Where the run was stopped, the output works if a total is to be written.
  pub run_works : {K : Type 0} (heard : Hearing Case K) (stopped : Stopping Case K) (source : ListValue) (old new : K)
      (score : Score) (why : RunStop) (output faults : Device)
      → ((came : List (Case × Meeting)) (w : RunStop) → stopped old new came w
      → StopsReport rules report (hint_place (length cases)) came score w output faults)
      → StopsRun (λ (c : Case). c) Meets GaveOfList heard stopped source old new why → WorksFor why output.failed
  run_works heard stopped source old new score stop.Enough output faults stops h =
      (stops h.came stop.Enough h.stops.1).ends.0
  run_works heard stopped source old new score stop.Output output faults stops h = tt
  run_works heard stopped source old new score (stop.NoConnection why) output faults stops h = tt
  run_works heard stopped source old new score stop.NoMemory output faults stops h = tt

  -- The sink of a run that was stopped is a reporter that has written and told this, and what is behind them is written
  -- and told behind enough failures: `Same` and `Untold` say that nothing was written then, and nothing told.
  module _ (K : Type 0) (heard : Hearing Case K) (stopped : Stopping Case K) (source : ListValue) (before after : K)
      (score : Score) (old mid new : Option (List ℕ)) (worked failed f g : Bool) (a b c : Option (List ℕ))
      (Same Untold : Type 0) (all : source.rest ≡ cases)
      (hears : (came : List (Case × Meeting)) (next : Option Case) → heard before after came next
      → (counted : Score) × (missed : ℕ) × (hint : HintState) × HasReported rules report (hint_place (length cases)) came
      next counted missed hint (record { failed = worked; old = old; new = mid }) (record { failed = f; old = a; new = b }))
      (stops : (came : List (Case × Meeting)) (w : RunStop) → stopped before after came w
      → StopsReport rules report (hint_place (length cases)) came score w
      (record { failed = worked; old = old; new = mid }) (record { failed = f; old = a; new = b }))
      (same : Same → (worked ≡ failed) × (mid ≡ new)) (untold : Untold → (f ≡ g) × (b ≡ c))
      (still : f ≡ true → g ≡ true) where
    pub run_ended : (why : RunStop) (ended : Result Exit Fault)
        → StopsRun (λ (c : Case). c) Meets GaveOfList heard stopped source before after why
        → IsEndOfStop tested report score why ended Same Untold (record { failed = failed; old = mid; new = new })
        (record { failed = g; old = b; new = c })
        → RunsCases Meets rules report cases tested ended (record { failed = failed; old = old; new = new })
        (record { failed = g; old = a; new = c })
    run_ended stop.Enough ended h is = run_enough_told (length (items_of h.came)) h.came score old mid new worked failed
        f g a b c Same Untold ended (front_is cases (items_of h.came) h.last.rest (sym all ∙ h.stops.0.0)) h.met
        (stops h.came stop.Enough h.stops.1) same untold still is
    run_ended stop.Output ended h (is, stays, quiet) =
        subst (λ (e : Result Exit Fault). RunsCases Meets rules report cases tested e
        (record { failed = failed; old = old; new = new }) (record { failed = g; old = a; new = c })) (sym is)
        (as_it_was (Ok Failed) worked failed f g old mid new a b c (same stays) (untold quiet)
        (run_broken (length (items_of h.came)) h.came score Failed (record { failed = worked; old = old; new = mid })
        (record { failed = f; old = a; new = b })
        (front_is cases (items_of h.came) h.last.rest (sym all ∙ h.stops.0.0)) h.met
        (stops h.came stop.Output h.stops.1) refl))
    run_ended (stop.NoConnection why) ended h (is, stays, told) =
        let (as_before, held) = same stays in
        let Runs = λ (w : Bool) (x : Option (List ℕ)). RunsCases Meets rules report cases tested (Ok Failed)
        (record { failed = w; old = old; new = x }) (record { failed = g; old = a; new = c }) in
        subst (λ (e : Result Exit Fault). RunsCases Meets rules report cases tested e
        (record { failed = failed; old = old; new = new }) (record { failed = g; old = a; new = c })) (sym is)
        (subst (λ (x : Option (List ℕ)). Runs failed x) held (subst (λ (w : Bool). Runs w mid) as_before
        (run_missed (length (items_of h.came)) h.came score why Failed (record { failed = worked; old = old; new = mid })
        f g a b c (front_is cases (items_of h.came) h.last.rest (sym all ∙ h.stops.0.0)) h.met
        (stops h.came (stop.NoConnection why) h.stops.1) still told refl)))
    run_ended stop.NoMemory ended h (is, stays, quiet) =
        let (more, next, given, is_next, told) = h.stops in
        let (counted, missed, hint, so) = hears h.came next told in
        let items = items_of h.came in
        let whole = sym all ∙ given.0 in
        subst (λ (e : Result Exit Fault). RunsCases Meets rules report cases tested e
        (record { failed = failed; old = old; new = new }) (record { failed = g; old = a; new = c })) (sym is)
        (as_it_was (Err NoMemory) worked failed f g old mid new a b c (same stays) (untold quiet)
        (run_lacks (length items) h.came next counted missed hint (Err NoMemory)
        (record { failed = worked; old = old; new = mid }) (record { failed = f; old = a; new = b })
        (front_is cases items (more ++ h.last.rest) (whole ∙ append_assoc items more h.last.rest)) h.met
        (next_is cases items more h.last.rest next whole is_next) so refl))

  -- All cases were run, and what the report has behind them was written and told: `f` and `g` say whether the fault
  -- output had failed before that and since, which held `a`, then `b`, then `c`.
  run_all : (came : List (Case × Meeting)) (score : Score) (missed : ℕ) (hint : HintState) (old mid new : Option (List ℕ)) (exit : Exit)
      (worked failed f g : Bool) (a b c : Option (List ℕ)) → items_of came ≡ cases → CameOf (λ (c : Case). c) Meets came
      → HasReported rules report (hint_place (length cases)) came None score missed hint (record { failed = worked; old = old; new = mid })
      (record { failed = f; old = a; new = b })
      → (f ≡ true → g ≡ true)
      → Delivers (exit_of_report score.is_failed) (end_text report (behind_text report score)) exit
      (record { failed = failed; old = mid; new = new })
      → TellsEach (beside_notes report (behind_text report score)) (record { failed = g; old = b; new = c })
      → RunsCases Meets rules report cases tested (Ok exit) (record { failed = failed; old = old; new = new })
      (record { failed = g; old = a; new = c })
  run_all came score missed hint old mid new exit worked failed f g a b c of met so still told beside =
      let there = score_of report so.tests in
      let behind = behind_text report there in
      let notes = notes_of rules.progress (hint_place (length cases)) so.tests in
      let tells : TellsAll Meets rules report cases (notes ++ beside_notes report behind) exit
      (record { failed = failed; old = old; new = new }) = record {
        tests = so.tests;
        are_tested = judged_tested Meets rules cases came so.tests of met so.judged;
        may_run = so.may_run;
        few = subst (λ (k : ℕ). k < max_missed rules.is_limited) so.counted so.few;
        goes_on = so.goes_on;
        noted = refl;
        told = delivers_after old mid new failed (report_texts report so.tests) (end_text report behind)
            (exit_of_report there.is_failed) exit so.written
            (subst (λ (t : Score). Delivers (exit_of_report t.is_failed) (end_text report (behind_text report t)) exit
            (record { failed = failed; old = mid; new = new })) so.scored told);
      } in (
        notes ++ beside_notes report behind,
        inl tells,
        noted_next notes (beside_notes report behind) f g a b c still so.noted
            (subst (λ (t : Score). TellsEach (beside_notes report (behind_text report t))
            (record { failed = g; old = b; new = c })) so.scored beside),
      )

  -- or memory ran out for it: `Same` and `Untold` say that nothing was written then, and nothing told
  pub run_told : (came : List (Case × Meeting)) (score : Score) (missed : ℕ) (hint : HintState) (old mid new : Option (List ℕ))
      (worked failed f g : Bool) (a b c : Option (List ℕ)) (Same Untold : Type 0) (ended : Result Exit Fault)
      → items_of came ≡ cases → CameOf (λ (c : Case). c) Meets came
      → HasReported rules report (hint_place (length cases)) came None score missed hint (record { failed = worked; old = old; new = mid })
      (record { failed = f; old = a; new = b })
      → (Same → (worked ≡ failed) × (mid ≡ new)) → (Untold → (f ≡ g) × (b ≡ c)) → (f ≡ true → g ≡ true)
      → EndsReporting report score ended Same Untold (record { failed = failed; old = mid; new = new })
      (record { failed = g; old = b; new = c })
      → RunsCases Meets rules report cases tested ended (record { failed = failed; old = old; new = new })
      (record { failed = g; old = a; new = c })
  run_told came score missed hint old mid new worked failed f g a b c Same Untold (Ok exit) of met so same untold still (told, beside) =
      run_all came score missed hint old mid new exit worked failed f g a b c of met so still told beside
  run_told came score missed hint old mid new worked failed f g a b c Same Untold (Err fault) of met so same untold still (is, stays, quiet) =
      let (as_before, held) = same stays in
      let (silent, heard) = untold quiet in
      let Reports = λ (w v : Bool) (x y : Option (List ℕ)). HasReported rules report (hint_place (length cases)) came
      None score missed hint (record { failed = w; old = old; new = x }) (record { failed = v; old = a; new = y }) in
      run_lacks (length cases) came None score missed hint (Err fault) (record { failed = failed; old = old; new = new })
      (record { failed = g; old = a; new = c }) (of ∙ sym (take_all (length cases) cases (omega arith))) met tt
      (subst (λ (y : Option (List ℕ)). Reports failed g new y) heard (subst (λ (v : Bool). Reports failed v new b) silent
      (subst (λ (x : Option (List ℕ)). Reports failed f x b) held (subst (λ (w : Bool). Reports w f mid b) as_before so))))
      is

-- one case more is one in a row more at most
pub missed_bound : (b : Bool) (missed next : ℕ) → next ≡ (if b then 1 + missed else 0) → next ≤ 1 + missed
missed_bound true missed next is = omega (arith, is)
missed_bound false missed next is = omega (arith, is)

-- and no more than end a run
pub missed_most : (b : Bool) (missed next most : ℕ) → next ≡ (if b then 1 + missed else 0) → missed < most
    → most ≤ next → next ≡ most
missed_most b missed next most is few many = omega (arith, missed_bound b missed next is, few, many)

-- as many in a row as end a run: the last of them is without a connection
pub last_missed : (b is_limited : Bool) (missed next : ℕ) → next ≡ (if b then 1 + missed else 0)
    → max_missed is_limited ≤ next → b ≡ true
last_missed true is_limited missed next is many = refl
last_missed false is_limited missed next is many =
    absurd (omega (arith, is, many, some_missed is_limited))
