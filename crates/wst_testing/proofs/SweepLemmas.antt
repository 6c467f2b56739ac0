-- Scripts that were run one after the other, and their lines.
use Rattle.std.proofs.Common.{◌≡◌, ◌∙◌, ℕ, ◌+◌, ◌<◌, ◌^◌, ◌≤◌, inl, inr, Bool, true, false, List, [], ◌∷◌, ◌++◌}
use Rattle.std.proofs.Common.{length, filter}
use Rattle.std.proofs.Common.{Option, Some, None, Result, Ok, Err, IsErrAnd, ap, refl, sym, subst, arith}
use Rattle.std.proofs.Common.{append-nil, not}
use Rattle.std.proofs.KnownBytes.{Appends-nil, Appends-trans}
use Rattle.std.proofs.lemmas.Grind.{flat_map-append}
use Rattle.std.proofs.lemmas.List.{length-append, length-map, map-append}
use Rattle.std.proofs.lemmas.List.Filters.{length-filter_both}
use Rattle.std.specs.Io.KnownBytes.{Appends, Keeps}
use Rattle.ws_frame.specs.Devices.{Device}
use Rattle.ws_frame.specs.Watching.{AppendsFront}
use Rattle.ws_scripts.specs.declared.expectation.Expectation.{Expectation}
use Rattle.ws_scripts.specs.declared.script.Case.{Case}
use Rattle.ws_wire.specs.declared.role.Role.{Role}
use Rattle.ws_session.specs.Replies.{key_for}
use Rattle.ws_suite.specs.Evidence.{other_role}
use Rattle.ws_sweep.specs.Order.{ArePlaces, count_of_scripts, script_number}
use Rattle.ws_sweep.specs.ShortCases.{CaseRules, IsShortCase}
use Rattle.wst_commands.specs.declared.exit.Exit.{Exit}
use Rattle.wst_testing.specs.Outcomes.{exit_of_tests, is_fail, is_loose, is_pass, no_tally, tally_of, tally_with}
use Rattle.wst_testing.specs.Runner.{CameOf, Hearing, RunsEach, Stopping, items_of}
use Rattle.wst_testing.specs.Testing.{IsOutcomeOf}
use Rattle.wst_testing.specs.Failures.{is_enough}
use Rattle.wst_testing.specs.Sweeps.{AreJudgedScripts, AreShortRuns, AreSwept, CountsScripts, EndsByFails, EndsScripts}
use Rattle.wst_testing.specs.Sweeps.{EndsSweep, GaveAllScripts, is_enough_in}
use Rattle.wst_testing.specs.Sweeps.{GaveScripts, HasSwept, HasToldScripts, IsCounted, IsNextSwept, IsShortRun, IsSwept}
use Rattle.wst_testing.specs.Sweeps.{MakesCasesOf, ShortRunValue, ShortRunsValue, StopsAtScript, StopsBehind, StopsSweep}
use Rattle.wst_testing.specs.Sweeps.{SweepsAll, SweepsScripts, SweptScript, missed_by, outcomes_of}
use Rattle.wst_testing.specs.Sweeps.{script_line, sweep_lines, sweep_total, swept, total_of_scripts}
use Rattle.wst_sockets.specs.declared.meeting.ConnectFault.{ConnectFault}
use Rattle.wst_sockets.specs.declared.meeting.Meeting.{Meeting}
use Rattle.wst_testing.specs.declared.outcome.Outcome.{Outcome}
use Rattle.wst_testing.specs.declared.outcome.Outcome.TheVariants.{HeadRefused, Judged, NoConnection, NotRun}
use Rattle.wst_testing.specs.declared.outcome.Tally.{Tally}
use Rattle.wst_testing.specs.declared.sweeping.SweepRules.{SweepRules}
use Rattle.wst_testing.specs.declared.runner.RunStop.{RunStop}
use Rattle.wst_testing.specs.declared.runner.RunStop.TheVariants as stop
use Rattle.ws_sweep.proofs.Numbers.{count_within}
use Rattle.wst_testing.proofs.ReporterLemmas.{none_enough}
use Rattle.wst_testing.proofs.TestLemmas.{tally_more, then_begun}

-- what was written is still there
still_written : (old mid new : Option (List ℕ)) (bytes : List ℕ) → Appends old mid bytes → Keeps mid new
    → Appends old new bytes
still_written None mid new bytes written kept = tt
still_written (Some xs) None new bytes written kept = absurd written
still_written (Some xs) (Some ys) None bytes written kept = absurd kept
still_written (Some xs) (Some ys) (Some zs) bytes written kept = kept ∙ written

-- its line behind theirs
lines_with : (rules : SweepRules) (scripts : List SweptScript) (next : SweptScript)
    → sweep_lines rules scripts ++ script_line rules next ≡ sweep_lines rules (scripts ++ next ∷ [])
lines_with rules scripts next =
    ap (λ (l : List ℕ). sweep_lines rules scripts ++ l) (sym (append-nil (script_line rules next)))
    ∙ sym (flat_map-append (script_line rules) scripts (next ∷ []))

-- and its outcome counted
counted_with : (scripts : List SweptScript) (next : SweptScript)
    → tally_with (tally_of (outcomes_of scripts)) next.outcome ≡ tally_of (outcomes_of (scripts ++ next ∷ []))
counted_with scripts next = tally_more (outcomes_of scripts) next.outcome
    ∙ ap (λ (l : List Outcome). tally_of l) (sym (map-append (λ (s : SweptScript). s.outcome) scripts (next ∷ [])))

kind_within : {X : Type 0} (p : X → Bool) (xs : List X) → length (filter p xs) ≤ length xs
kind_within p xs = omega (arith, length-filter_both p (λ x. not (p x)) (λ x. refl) xs)

-- ---- the scripts that were given

-- those at the front of some are scripts in their order too
short_front : (rules : SweepRules) (number : ℕ) (runs more : List ShortRunValue)
    → AreShortRuns rules number (runs ++ more) → AreShortRuns rules number runs
short_front rules number [] more are = tt
short_front rules number (run ∷ runs) more (is, rest) = (is, short_front rules (number + 1) runs more rest)

-- one more of them
short_more : (rules : SweepRules) (number : ℕ) (runs : List ShortRunValue) (run : ShortRunValue)
    → AreShortRuns rules number runs → IsShortRun rules (number + length runs) run
    → AreShortRuns rules number (runs ++ run ∷ [])
short_more rules number [] run are is = (subst (λ (n : ℕ). IsShortRun rules n run) (omega arith) is, tt)
short_more rules number (first ∷ runs) run (one, rest) is = (
  one,
  short_more rules (number + 1) runs run rest (subst (λ (n : ℕ). IsShortRun rules n run) (omega arith) is),
)

-- the case is made for the role and the key of the rules
short_so : (rules : SweepRules) (cases : CaseRules) (places : List ℕ) (case : Case) → MakesCasesOf rules cases
    → IsShortCase cases.tested cases.expected cases.key places case
    → IsShortCase rules.run.tested rules.run.expected (key_for (other_role rules.run.tested) rules.run.key) places case
short_so rules cases places case of_rules short =
    subst (λ (k : Option (List ℕ)). IsShortCase rules.run.tested rules.run.expected k places case) of_rules.2
    (subst (λ (x : Expectation). IsShortCase rules.run.tested x cases.key places case) of_rules.1
    (subst (λ (r : Role). IsShortCase r cases.expected cases.key places case) of_rules.0 short))

none_before : (n : ℕ) → 0 + n ≡ n
none_before n = omega arith

-- the next one is given
pub given_more : (start old new : ShortRunsValue) (runs : List ShortRunValue) (cases : CaseRules) (places : List ℕ)
    (case : Case) → GaveScripts start old runs → MakesCasesOf old.rules cases → ArePlaces places
    → script_number places ≡ old.scripts.next → new.scripts.next ≡ old.scripts.next + 1
    → new.scripts.left + 1 ≡ old.scripts.left → new.rules ≡ old.rules
    → IsShortCase cases.tested cases.expected cases.key places case
    → GaveScripts start new (runs ++ record { places = places; case = case } ∷ []) × (length runs + 1 < 2 ^ 64)
given_more start old new runs cases places case gave makes are number next left same short =
    let run : ShortRunValue = record { places = places; case = case } in
    let of_start = subst (λ (r : SweepRules). MakesCasesOf r cases) gave.by_rules makes in
    let there = gave.next in
    let whole = gave.place in
    let few = count_within start.rules.steps gave.few in (
      record {
        by_rules = same ∙ gave.by_rules;
        in_order = short_more start.rules 0 runs run gave.in_order
            (are, number ∙ gave.next ∙ sym (none_before (length runs)), short_so start.rules cases places case of_start short);
        next = next ∙ (ap (λ (n : ℕ). n + 1) gave.next ∙ sym (length-append runs (run ∷ [])));
        place = omega (arith, whole, next, left);
        few = gave.few;
      },
      omega (arith, there, whole, few),
    )

-- none is left
pub given_all : (start old : ShortRunsValue) (runs : List ShortRunValue) → GaveScripts start old runs
    → old.scripts.left ≡ 0 → GaveAllScripts start runs
given_all start old runs gave none =
    let there = gave.next in
    let whole = gave.place in
    (gave.in_order, omega (arith, there, whole, none))

-- ---- what came of them, judged

pub judged_one_more : (rules : SweepRules) (came : List (ShortRunValue × Meeting)) (scripts : List SweptScript)
    (run : ShortRunValue) (meeting : Meeting) (outcome : Outcome) → AreJudgedScripts rules came scripts
    → IsOutcomeOf rules.run meeting outcome → missed_by outcome ≡ None
    → AreJudgedScripts rules (came ++ (run, meeting) ∷ []) (scripts ++ swept run.places run.case outcome ∷ [])
judged_one_more rules [] [] run meeting outcome before is there = ((outcome, refl, is, there), tt)
judged_one_more rules [] (script ∷ scripts) run meeting outcome before is there = absurd before
judged_one_more rules (one ∷ came) [] run meeting outcome before is there = absurd before
judged_one_more rules (one ∷ came) (script ∷ scripts) run meeting outcome (first, rest) is there =
    (first, judged_one_more rules came scripts run meeting outcome rest is there)

-- there are as many of them
judged_many : (rules : SweepRules) (came : List (ShortRunValue × Meeting)) (scripts : List SweptScript)
    → AreJudgedScripts rules came scripts → length scripts ≡ length came
judged_many rules [] [] judged = refl
judged_many rules [] (script ∷ scripts) judged = absurd judged
judged_many rules (run ∷ came) [] judged = absurd judged
judged_many rules (run ∷ came) (script ∷ scripts) (first, rest) = omega (arith, judged_many rules came scripts rest)

many_items : (came : List (ShortRunValue × Meeting)) → length (items_of came) ≡ length came
many_items came = length-map came (λ (r : ShortRunValue × Meeting). r.0)

abbrev run_case : ShortRunValue → Case
run_case run = run.case

-- what came of the case of a script is told of it
swept_so : (Meets : Case → Meeting → Type 0) (rules : SweepRules) (number : ℕ) (run : ShortRunValue)
    (meeting : Meeting) (outcome : Outcome) → IsShortRun rules number run → Meets run.case meeting
    → IsOutcomeOf rules.run meeting outcome → IsSwept Meets rules (swept run.places run.case outcome)
swept_so Meets rules number run meeting outcome (are, is, short) met told =
    (short, record { meeting = meeting; met = met; told = told })

-- these are the scripts that were run
all_swept : (Meets : Case → Meeting → Type 0) (rules : SweepRules) (number : ℕ)
    (came : List (ShortRunValue × Meeting)) (scripts : List SweptScript) → AreShortRuns rules number (items_of came)
    → CameOf run_case Meets came → AreJudgedScripts rules came scripts → AreSwept Meets rules number scripts
all_swept Meets rules number [] [] are met judged = tt
all_swept Meets rules number [] (script ∷ scripts) are met judged = absurd judged
all_swept Meets rules number (run ∷ came) [] are met judged = absurd judged
all_swept Meets rules number (run ∷ came) (script ∷ scripts) (short, others) (one, rest)
    ((outcome, same, told, there), more) = subst (λ (s : SweptScript). AreSwept Meets rules number (s ∷ scripts))
    (sym same) (
      short.0,
      short.1,
      there,
      swept_so Meets rules number run.0 run.1 outcome short one told,
      all_swept Meets rules (number + 1) came scripts others rest more,
    )

-- the last of some scripts that were run, and those before it
last_apart : (Meets : Case → Meeting → Type 0) (rules : SweepRules) (number : ℕ)
    (before : List (ShortRunValue × Meeting)) (run : ShortRunValue) (meeting : Meeting)
    → AreShortRuns rules number (items_of (before ++ (run, meeting) ∷ []))
    → CameOf run_case Meets (before ++ (run, meeting) ∷ [])
    → (AreShortRuns rules number (items_of before) × CameOf run_case Meets before)
    × (IsShortRun rules (number + length before) run × Meets run.case meeting)
last_apart Meets rules number [] run meeting (short, none) (met, rest) =
    ((tt, tt), (subst (λ (n : ℕ). IsShortRun rules n run) (omega arith) short, met))
last_apart Meets rules number (first ∷ before) run meeting (short, others) (met, rest) =
    let ((are, came), (is, last)) = last_apart Meets rules (number + 1) before run meeting others rest in (
      ((short, are), (met, came)),
      (subst (λ (n : ℕ). IsShortRun rules n run) (omega arith) is, last),
    )

-- ---- what a sweeper has written

abbrev reason_of : ConnectFault → Option ConnectFault → ConnectFault
reason_of other None = other
reason_of other (Some why) = why

-- why there is no connection
missed_so : (outcome : Outcome) (reason : ConnectFault) → missed_by outcome ≡ Some reason
    → outcome ≡ NoConnection reason
missed_so (Judged told) reason is = absurd cc
missed_so (HeadRefused refusal) reason is = absurd cc
missed_so (NoConnection why) reason is = ap (λ (o : Option ConnectFault). NoConnection (reason_of why o)) is
missed_so NotRun reason is = absurd cc

pub told_nothing : (rules : SweepRules) (tally : Tally) (held : Option (List ℕ)) (failed : Bool) → tally ≡ no_tally
    → failed ≡ false → HasToldScripts rules [] 0 tally (record { failed = failed; old = held; new = held })
told_nothing rules tally held failed empty works = record {
  scripts = [];
  judged = tt;
  many = refl;
  goes_on = none_enough rules.run.max_fail;
  counted = empty;
  written = Appends-nil held;
  works = works;
}

-- one script more
longer : {X : Type 0} (count next : ℕ) (xs : List X) (x : X) → count ≡ length xs → next ≡ count + 1
    → next ≡ length (xs ++ x ∷ [])
longer count next xs x many is = is ∙ ap (λ (n : ℕ). n + 1) many ∙ sym (length-append xs (x ∷ []))

module _ (rules : SweepRules) (came : List (ShortRunValue × Meeting)) (run : ShortRunValue) (meeting : Meeting)
    (outcome : Outcome) (count : ℕ) (tally : Tally) (old mid new : Option (List ℕ)) (f g : Bool)
    (so : HasToldScripts rules came count tally (record { failed = f; old = old; new = mid }))
    (is : IsOutcomeOf rules.run meeting outcome) where
  counted_then : (next : Tally) → next ≡ tally_with tally outcome
      → next ≡ tally_of (outcomes_of (so.scripts ++ swept run.places run.case outcome ∷ []))
  counted_then next counts = counts ∙ (ap (λ (t : Tally). tally_with t outcome) so.counted
      ∙ counted_with so.scripts (swept run.places run.case outcome))

  enough_then : (next : Tally) (b : Bool) → next ≡ tally_with tally outcome → is_enough rules.run.max_fail next.fail ≡ b
      → is_enough_in rules (so.scripts ++ swept run.places run.case outcome ∷ []) ≡ b
  enough_then next b counts enough =
      subst (λ (t : Tally). is_enough rules.run.max_fail t.fail ≡ b) (counted_then next counts) enough

  written_then : Appends mid new (script_line rules (swept run.places run.case outcome))
      → Appends old new (sweep_lines rules (so.scripts ++ swept run.places run.case outcome ∷ []))
  written_then line =
      subst (λ (l : List ℕ). Appends old new l) (lines_with rules so.scripts (swept run.places run.case outcome))
      (Appends-trans old mid new (sweep_lines rules so.scripts)
      (script_line rules (swept run.places run.case outcome)) so.written line)

  -- the line of the next script was written
  pub told_one_more : (next : Tally) (more : ℕ) → next ≡ tally_with tally outcome → more ≡ count + 1
      → is_enough rules.run.max_fail next.fail ≡ false → missed_by outcome ≡ None
      → Appends mid new (script_line rules (swept run.places run.case outcome)) → g ≡ false
      → HasToldScripts rules (came ++ (run, meeting) ∷ []) more next (record { failed = g; old = old; new = new })
  told_one_more next more counts one goes there line works = record {
    scripts = so.scripts ++ swept run.places run.case outcome ∷ [];
    judged = judged_one_more rules came so.scripts run meeting outcome so.judged is there;
    many = longer count more so.scripts (swept run.places run.case outcome) so.many one;
    goes_on = enough_then next false counts goes;
    counted = counted_then next counts;
    written = written_then line;
    works = works;
  }

  -- the same, and there are enough Fails
  pub enough_told : (next : Tally) (more : ℕ) → next ≡ tally_with tally outcome → more ≡ count + 1
      → is_enough rules.run.max_fail next.fail ≡ true → missed_by outcome ≡ None
      → Appends mid new (script_line rules (swept run.places run.case outcome)) → g ≡ false
      → StopsAtScript rules (came ++ (run, meeting) ∷ []) more next stop.Enough
      (record { failed = g; old = old; new = new })
  enough_told next more counts one enough there line works = record {
    before = came;
    run = run;
    meeting = meeting;
    last = refl;
    scripts = so.scripts;
    judged = so.judged;
    goes_on = so.goes_on;
    outcome = outcome;
    is = is;
    ends = (
      there,
      longer count more so.scripts (swept run.places run.case outcome) so.many one,
      counted_then next counts,
      enough_then next true counts enough,
      written_then line,
      works,
    );
  }

  -- it could not be written whole
  pub line_breaks : AppendsFront mid new (script_line rules (swept run.places run.case outcome)) → g ≡ true
      → StopsAtScript rules (came ++ (run, meeting) ∷ []) count tally stop.Output
      (record { failed = g; old = old; new = new })
  line_breaks begun broken = record {
    before = came;
    run = run;
    meeting = meeting;
    last = refl;
    scripts = so.scripts;
    judged = so.judged;
    goes_on = so.goes_on;
    outcome = outcome;
    is = is;
    ends = (
      broken,
      then_begun old mid new (sweep_lines rules so.scripts) (script_line rules (swept run.places run.case outcome))
          so.written begun,
    );
  }

  -- there is no connection to its end
  pub script_misses : (reason : ConnectFault) → missed_by outcome ≡ Some reason
      → StopsAtScript rules (came ++ (run, meeting) ∷ []) count tally (stop.NoConnection reason)
      (record { failed = f; old = old; new = mid })
  script_misses reason misses = record {
    before = came;
    run = run;
    meeting = meeting;
    last = refl;
    scripts = so.scripts;
    judged = so.judged;
    goes_on = so.goes_on;
    outcome = outcome;
    is = is;
    ends = (missed_so outcome reason misses, so.written);
  }

-- there is room for one outcome more in its counts
pub script_room : (rules : SweepRules) (came : List (ShortRunValue × Meeting)) (count : ℕ) (tally : Tally)
    (output : Device) → HasToldScripts rules came count tally output → length came + 1 < 2 ^ 64
    → (tally.pass + 1 < 2 ^ 64) × (tally.loose + 1 < 2 ^ 64) × (tally.fail + 1 < 2 ^ 64) × (count + 1 < 2 ^ 64)
script_room rules came count tally output so fits =
    let outcomes = outcomes_of so.scripts in
    let many : length outcomes ≡ length came =
    length-map so.scripts (λ (s : SweptScript). s.outcome) ∙ judged_many rules came so.scripts so.judged in
    let pass : tally.pass ≡ length (filter is_pass outcomes) = ap (λ (t : Tally). t.pass) so.counted in
    let loose : tally.loose ≡ length (filter is_loose outcomes) = ap (λ (t : Tally). t.loose) so.counted in
    let fail : tally.fail ≡ length (filter is_fail outcomes) = ap (λ (t : Tally). t.fail) so.counted in
    let all : count ≡ length came = so.many ∙ judged_many rules came so.scripts so.judged in (
      omega (arith, many, pass, kind_within is_pass outcomes, fits),
      omega (arith, many, loose, kind_within is_loose outcomes, fits),
      omega (arith, many, fail, kind_within is_fail outcomes, fits),
      omega (arith, all, fits),
    )

-- ---- how a run of them ends

module _ (Meets : Case → Meeting → Type 0) (rules : SweepRules) where
  -- why the run stops behind these scripts
  behind_break : (scripts : List SweptScript) (next : SweptScript) (count : ℕ) (tally : Tally) (output : Device)
      → IsNextSwept Meets rules scripts next → EndsScripts rules scripts next count tally stop.Output output
      → StopsBehind Meets rules scripts stop.Output output
  behind_break scripts next count tally output is (broken, begun) =
      (script_line rules next, inl (next, is, refl), broken, begun)

  behind_miss : (scripts : List SweptScript) (next : SweptScript) (count : ℕ) (tally : Tally) (why : ConnectFault)
      (output : Device) → IsNextSwept Meets rules scripts next
      → EndsScripts rules scripts next count tally (stop.NoConnection why) output
      → StopsBehind Meets rules scripts (stop.NoConnection why) output
  behind_miss scripts next count tally why output is (misses, written) = ((next, is, misses), written)

  -- one more was run in its order
  swept_more : (number : ℕ) (scripts : List SweptScript) (next : SweptScript) → AreSwept Meets rules number scripts
      → ArePlaces next.places → script_number next.places ≡ number + length scripts → missed_by next.outcome ≡ None
      → IsSwept Meets rules next → AreSwept Meets rules number (scripts ++ next ∷ [])
  swept_more number [] next are places is there so = (places, is ∙ omega arith, there, so, tt)
  swept_more number (script ∷ scripts) next (at, numbered, connected, one, rest) places is there so =
      let later : script_number next.places ≡ number + 1 + length scripts = is ∙ omega arith in
      (at, numbered, connected, one, swept_more (number + 1) scripts next rest places later there so)

  -- the scripts before the last one, and that
  abbrev StoppedAt : List SweptScript → SweptScript → Type 0
  StoppedAt scripts next = AreSwept Meets rules 0 scripts × IsNextSwept Meets rules scripts next

  -- the sink has ended it
  stopped_at : (came : List (ShortRunValue × Meeting)) (count : ℕ) (tally : Tally) (why : RunStop) (output : Device)
      → AreShortRuns rules 0 (items_of came) → CameOf run_case Meets came
      → (h : StopsAtScript rules came count tally why output)
      → StoppedAt h.scripts (swept h.run.places h.run.case h.outcome)
  stopped_at came count tally why output are met h =
      let parts = last_apart Meets rules 0 h.before h.run h.meeting
      (subst (λ (l : List (ShortRunValue × Meeting)). AreShortRuns rules 0 (items_of l)) h.last are)
      (subst (λ (l : List (ShortRunValue × Meeting)). CameOf run_case Meets l) h.last met) in
      let ((before, came_before), (is_run, met_last)) = parts in
      let next = swept h.run.places h.run.case h.outcome in
      let number = is_run.1 ∙ none_before (length h.before) ∙ sym (judged_many rules h.before h.scripts h.judged) in (
        all_swept Meets rules 0 h.before h.scripts before came_before h.judged,
        (is_run.0, number, swept_so Meets rules _ h.run h.meeting h.outcome is_run met_last h.is, h.goes_on),
      )

  -- it has ended it by Fails
  fails_at : (came : List (ShortRunValue × Meeting)) (count : ℕ) (tally : Tally) (output : Device)
      → AreShortRuns rules 0 (items_of came) → CameOf run_case Meets came
      → StopsAtScript rules came count tally stop.Enough output
      → HasSwept Meets rules count tally output × (output.failed ≡ false)
  fails_at came count tally output are met h =
      let next = swept h.run.places h.run.case h.outcome in
      let (before, (places, number, so, goes)) = stopped_at came count tally stop.Enough output are met h in
      let (there, many, counted, enough, written, works) = h.ends in (
        record {
          scripts = h.scripts ++ next ∷ [];
          in_order = swept_more 0 h.scripts next before places (number ∙ sym (none_before (length h.scripts))) there so;
          many = sym many;
          all = inr (h.scripts, next, refl, h.goes_on, enough);
          counted = counted;
          written = written;
        },
        works,
      )

  pub scripts_ended : {K : Type 0} (heard : Hearing ShortRunValue K) (stopped : Stopping ShortRunValue K)
      (source : ShortRunsValue) (old new : K) (run : Result (Unit {0}) RunStop) (count : ℕ) (tally : Tally)
      (ended : Result (ℕ × Tally) RunStop) (output : Device)
      → ((came : List (ShortRunValue × Meeting)) (next : Option ShortRunValue) → heard old new came next
      → HasToldScripts rules came count tally output)
      → ((came : List (ShortRunValue × Meeting)) (w : RunStop) → stopped old new came w
      → StopsAtScript rules came count tally w output)
      → source.rules ≡ rules
      → RunsEach run_case Meets GaveScripts (λ start now runs. GaveAllScripts start runs) heard stopped source old new run
      → IsCounted run count tally ended → CountsScripts Meets rules ended output
  scripts_ended heard stopped source old new (Ok _) count tally ended output hears stops same h is =
      let so = hears h.came None h.told in
      let given = subst (λ (r : SweepRules). AreShortRuns r 0 (items_of h.came)
      × (length (items_of h.came) ≡ count_of_scripts r.steps)) same h.given in
      let swept_all : HasSwept Meets rules count tally output = record {
        scripts = so.scripts;
        in_order = all_swept Meets rules 0 h.came so.scripts given.0 h.met so.judged;
        many = sym so.many;
        all = inl (judged_many rules h.came so.scripts so.judged ∙ sym (many_items h.came) ∙ given.1, so.goes_on);
        counted = so.counted;
        written = so.written;
      } in
      subst (λ (e : Result (ℕ × Tally) RunStop). CountsScripts Meets rules e output) (sym is) (swept_all, so.works)
  scripts_ended heard stopped source old new (Err stop.NoMemory) count tally ended output hears stops same h is =
      let (more, next, given, is_next, told) = h.stops in
      let so = hears h.came next told in
      let are = subst (λ (r : SweepRules). AreShortRuns r 0 (items_of h.came)) same
      (short_front source.rules 0 (items_of h.came) more given.in_order) in
      let lacks : StopsSweep Meets rules stop.NoMemory output = record {
        scripts = so.scripts;
        in_order = all_swept Meets rules 0 h.came so.scripts are h.met so.judged;
        stops = so.written;
      } in
      subst (λ (e : Result (ℕ × Tally) RunStop). CountsScripts Meets rules e output) (sym is) lacks
  scripts_ended heard stopped source old new (Err stop.Enough) count tally ended output hears stops same h is =
      let are = subst (λ (r : SweepRules). AreShortRuns r 0 (items_of h.came)) same h.stops.0.in_order in
      subst (λ (e : Result (ℕ × Tally) RunStop). CountsScripts Meets rules e output) (sym is)
      (fails_at h.came count tally output are h.met (stops h.came stop.Enough h.stops.1))
  scripts_ended heard stopped source old new (Err stop.Output) count tally ended output hears stops same h is =
      let are = subst (λ (r : SweepRules). AreShortRuns r 0 (items_of h.came)) same h.stops.0.in_order in
      let last = stops h.came stop.Output h.stops.1 in
      let (before, next) = stopped_at h.came count tally stop.Output output are h.met last in
      let breaks : StopsSweep Meets rules stop.Output output = record {
        scripts = last.scripts;
        in_order = before;
        stops = behind_break last.scripts (swept last.run.places last.run.case last.outcome) count tally output next
            last.ends;
      } in
      subst (λ (e : Result (ℕ × Tally) RunStop). CountsScripts Meets rules e output) (sym is) breaks
  scripts_ended heard stopped source old new (Err (stop.NoConnection why)) count tally ended output hears stops same h
      is =
      let are = subst (λ (r : SweepRules). AreShortRuns r 0 (items_of h.came)) same h.stops.0.in_order in
      let last = stops h.came (stop.NoConnection why) h.stops.1 in
      let (before, next) = stopped_at h.came count tally (stop.NoConnection why) output are h.met last in
      let misses : StopsSweep Meets rules (stop.NoConnection why) output = record {
        scripts = last.scripts;
        in_order = before;
        stops = behind_miss last.scripts (swept last.run.places last.run.case last.outcome) count tally why output next
            last.ends;
      } in
      subst (λ (e : Result (ℕ × Tally) RunStop). CountsScripts Meets rules e output) (sym is) misses

-- ---- all of them

pub lacks_memory : (Meets : Case → Meeting → Type 0) (rules : SweepRules) (count : ℕ) (tally : Tally)
    (old mid new : Option (List ℕ)) (f g : Bool)
    → HasSwept Meets rules count tally (record { failed = f; old = old; new = mid }) → Keeps mid new
    → StopsSweep Meets rules stop.NoMemory (record { failed = g; old = old; new = new })
lacks_memory Meets rules count tally old mid new f g before kept = record {
  scripts = before.scripts;
  in_order = before.in_order;
  stops = still_written old mid new (sweep_lines rules before.scripts) before.written kept;
}

-- the total of all that were run
total_is : (Meets : Case → Meeting → Type 0) (rules : SweepRules) (count : ℕ) (tally : Tally) (d : Device)
    (all : HasSwept Meets rules count tally d) → sweep_total count tally ≡ total_of_scripts all.scripts
total_is Meets rules count tally d all =
    ap (λ (n : ℕ). sweep_total n tally) (sym all.many)
    ∙ ap (λ (t : Tally). sweep_total (length all.scripts) t) all.counted

pub total_fails : (Meets : Case → Meeting → Type 0) (rules : SweepRules) (count : ℕ) (tally : Tally) (text : List ℕ)
    (old mid new : Option (List ℕ)) (f g : Bool)
    → HasSwept Meets rules count tally (record { failed = f; old = old; new = mid })
    → text ≡ sweep_total count tally → g ≡ true → AppendsFront mid new text
    → StopsSweep Meets rules stop.Output (record { failed = g; old = old; new = new })
total_fails Meets rules count tally text old mid new f g all is fails begun =
    let total = is ∙ total_is Meets rules count tally _ all in
    record {
      scripts = all.scripts;
      in_order = all.in_order;
      stops = (
        text,
        inr (all.all, total),
        fails,
        then_begun old mid new (sweep_lines rules all.scripts) text all.written begun,
      );
    }

pub total_told : (Meets : Case → Meeting → Type 0) (rules : SweepRules) (count : ℕ) (tally : Tally) (text : List ℕ)
    (exit : Exit) (old mid new : Option (List ℕ)) (f g : Bool)
    → HasSwept Meets rules count tally (record { failed = f; old = old; new = mid })
    → text ≡ sweep_total count tally → g ≡ false → Appends mid new text
    → exit ≡ exit_of_tests tally → SweepsAll Meets rules exit (record { failed = g; old = old; new = new })
total_told Meets rules count tally text exit old mid new f g all is works written is_exit =
    let total = is ∙ total_is Meets rules count tally _ all in
    record {
      scripts = all.scripts;
      in_order = all.in_order;
      all = all.all;
      written = subst (λ (l : List ℕ). Appends old new (sweep_lines rules all.scripts ++ l)) total
          (Appends-trans old mid new (sweep_lines rules all.scripts) text all.written written);
      works = works;
      is_exit = is_exit ∙ ap (λ (t : Tally). exit_of_tests t) all.counted;
    }

-- ---- how all of it ends

pub sweep_stops : (Meets : Case → Meeting → Type 0) (rules : SweepRules) (why : RunStop)
    (ended : Result Exit RunStop) (d : Device) → StopsSweep Meets rules why d
    → IsErrAnd ended (λ stopped. stopped ≡ why) → SweepsScripts Meets rules ended d
sweep_stops Meets rules why (Ok exit) d stops is = absurd is
sweep_stops Meets rules why (Err stopped) d stops is =
    subst (λ (w : RunStop). StopsSweep Meets rules w d) (sym is) stops
