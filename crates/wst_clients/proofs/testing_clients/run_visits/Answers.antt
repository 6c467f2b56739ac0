-- Each turn comes behind those before it, and the line of the case that was run in it is written, if one was.
use Rattle.std.proofs.Common.{◌≡◌, ◌∙◌, ℕ, Bool, Err, IsErrAnd, ap, arith, false, true, inl, length, refl, rules, subst}
use Rattle.std.proofs.Common.{sym}
use Rattle.std.proofs.KnownBytes.{Keeps-refl}
use Rattle.ws_frame.specs.Devices.{watched}
use Rattle.ws_frame.specs.Watching.{has_failed, inner_of}
use Rattle.wst_commands.proofs.Delivering.{delivers_same}
use Rattle.wst_commands.specs.declared.exit.Exit.TheVariants.{Done}
use Rattle.wst_commands.specs.declared.fault.Fault.TheVariants.{NoMemory}
use Rattle.wst_clients.specs.ClientLines.{lines_for}
use Rattle.wst_clients.specs.ClientTests.{IsVisitFault, RunsVisits}
use Rattle.wst_testing.specs.Reporting.{no_score}
use Rattle.ws_paths.specs.Standings.{StandingValue, none_run}
use Rattle.wst_clients.specs.VisitOutcomes.{after_outcome, ends_with_outcome, tests_in}
use Rattle.wst_clients.specs.Visits.{AreFailing, Met, Unmet, unmet_by}
use Rattle.wst_clients.specs.declared.visit_outcome.VisitOutcome.{VisitOutcome}
use Rattle.wst_clients.specs.declared.visiting.NoVisit.TheVariants.{Never, TooLate}
use Rattle.wst_clients.proofs.ClientLemmas.{after_keeps, breaks_taken, breaks_visiting, enough_fits, lacks_visits}
use Rattle.wst_clients.proofs.ClientLemmas.{late_fits, next_came, none_came, turn_with, visited_bound, visited_more}
use Rattle.wst_clients.proofs.ClientLemmas.{visited_none, visits_end, visits_enough, visits_err, visits_fit}
use Rattle.wst_clients.proofs.ClientLemmas.{visits_late, visits_no_more, visits_stop}
use Rattle.wst_clients.proofs.TurnLemmas.{broken_before, broken_none}
use Rattle.wst_sockets.proofs.WrittenLemmas.{was_begun, was_written}
use Rattle.wst_clients.proofs.testing_clients.run_visits.Goals as goal

ends_by : (goes : Bool) (count : ℕ) (standing after : StandingValue) (outcome : VisitOutcome) (b : Bool)
    → after ≡ after_outcome standing outcome → length standing.behaviors ≡ count
    → b ≡ ends_with_outcome (length after.behaviors) outcome → b ≡ goes → ends_with_outcome count outcome ≡ goes
ends_by goes count standing after outcome b stands long is same =
    ap (λ (n : ℕ). ends_with_outcome n outcome)
    (sym (ap (λ (s : StandingValue). length s.behaviors) stands ∙ after_keeps standing outcome ∙ long))
    ∙ sym is ∙ same

pub loop-visited-init : goal.loop-visited-init
loop-visited-init g c =
    let m : Met = record { visits = g.C.TestedClients.visits; passes = g.C.TestedClients.passes } in
    let given = c.args.rules.now in
    record {
      works = c.requires.works;
      bound = omega arith;
      fits = c.in_ok-standing.ensures.fits;
      run = visited_none m given c.in_ok-standing.standing c.new-score.result (g.W.Write.contents (inner_of c.args.writer.now))
          (watched g.F.Write.contents c.args.faults.now c.args.faults.now) c.in_ok-standing.ensures.none
          c.new-score.ensures (Keeps-refl (g.F.Write.contents (inner_of c.args.faults.now)));
      are = c.requires.are;
      still = λ failed. failed;
    }

pub returns-in_err-standing-clause-runs : goal.returns-in_err-standing-clause-runs
returns-in_err-standing-clause-runs g c =
    let m : Met = record { visits = g.C.TestedClients.visits; passes = g.C.TestedClients.passes } in
    let u : Unmet = unmet_by g.C.TestedClients.none g.C.TestedClients.fails in
    let given = c.args.rules.now in
    let held = g.F.Write.contents (inner_of c.args.faults.now) in
    let written = g.W.Write.contents (inner_of c.args.writer.now) in
    let faults = watched g.F.Write.contents c.args.faults.now c.args.faults.now in
    let lacks : IsErrAnd c.from_residual.result (λ fault. fault ≡ NoMemory) = search rules in
    visits_err m u given c.from_residual.result (watched g.W.Write.contents c.args.writer.now c.args.writer.now) faults
    (breaks_visiting m given 0 (none_run (length given.cases.now)) no_score written written (has_failed c.args.writer.now)
    (has_failed c.args.faults.now) (has_failed c.args.faults.now) held held held
    (visited_none m given (none_run (length given.cases.now)) no_score written faults refl refl (Keeps-refl held))
    c.requires.works (λ failed. failed) (broken_none m given (none_run (length given.cases.now)) faults (Keeps-refl held)))
    (lacks_visits u.fails c.from_residual.result lacks)

pub returns-in-Err-TooLate-clause-runs : goal.returns-in-Err-TooLate-clause-runs
returns-in-Err-TooLate-clause-runs g c =
    let m : Met = record { visits = g.C.TestedClients.visits; passes = g.C.TestedClients.passes } in
    let u : Unmet = unmet_by g.C.TestedClients.none g.C.TestedClients.fails in
    let given = c.args.rules.now in
    let at = c.loop-visited in
    let late_is : c.in_ok-came.came ≡ Err TooLate = search rules in
    let (none, passed) = none_came m u given at.standing c.in_ok-came.came TooLate (has_failed at.faults)
    (has_failed c.next_outcome.new.faults) (g.F.Write.contents (inner_of at.faults))
    (g.F.Write.contents (inner_of c.next_outcome.new.faults)) late_is c.in_ok-came.ensures.comes
    c.in_ok-came.ensures.still in
    visits_late m u given at.visited at.standing at.score (g.W.Write.contents (inner_of c.args.writer.now)) (g.W.Write.contents (inner_of at.writer))
    (has_failed at.writer) (has_failed at.faults) (has_failed c.next_outcome.new.faults) (has_failed c.tell_late.new.faults)
    (g.F.Write.contents (inner_of c.args.faults.now)) (g.F.Write.contents (inner_of at.faults)) (g.F.Write.contents (inner_of c.next_outcome.new.faults)) (g.F.Write.contents (inner_of c.tell_late.new.faults)) at.invariant.run at.invariant.works none passed
    c.in_ok-tell_late-in-Err-TooLate.ensures.still c.in_ok-tell_late-in-Err-TooLate.ensures.told

pub returns-in_err-tell_late-in-Err-TooLate-clause-runs : goal.returns-in_err-tell_late-in-Err-TooLate-clause-runs
returns-in_err-tell_late-in-Err-TooLate-clause-runs g c =
    let m : Met = record { visits = g.C.TestedClients.visits; passes = g.C.TestedClients.passes } in
    let u : Unmet = unmet_by g.C.TestedClients.none g.C.TestedClients.fails in
    let given = c.args.rules.now in
    let at = c.loop-visited in
    let late_is : c.in_ok-came.came ≡ Err TooLate = search rules in
    let (none, passed) = none_came m u given at.standing c.in_ok-came.came TooLate (has_failed at.faults)
    (has_failed c.next_outcome.new.faults) (g.F.Write.contents (inner_of at.faults))
    (g.F.Write.contents (inner_of c.next_outcome.new.faults)) late_is c.in_ok-came.ensures.comes
    c.in_ok-came.ensures.still in
    let ended = c.from_residual-in_err-tell_late-in-Err-TooLate.result in
    let lacks : IsErrAnd ended (λ fault. fault ≡ NoMemory) = search rules in
    subst (λ x. RunsVisits m u given ended (watched g.W.Write.contents c.args.writer.now at.writer)
    (watched g.F.Write.contents c.args.faults.now x)) (sym c.in_err-tell_late-in-Err-TooLate.ensures.kept)
    (visits_err m u given ended (watched g.W.Write.contents c.args.writer.now at.writer)
    (watched g.F.Write.contents c.args.faults.now c.next_outcome.new.faults)
    (breaks_visiting m given at.visited at.standing at.score (g.W.Write.contents (inner_of c.args.writer.now)) (g.W.Write.contents (inner_of at.writer)) (has_failed at.writer)
    (has_failed at.faults) (has_failed c.next_outcome.new.faults) (g.F.Write.contents (inner_of c.args.faults.now)) (g.F.Write.contents (inner_of at.faults)) (g.F.Write.contents (inner_of c.next_outcome.new.faults)) at.invariant.run at.invariant.works
    passed.still (broken_before m given at.standing (watched g.F.Write.contents at.faults c.next_outcome.new.faults) passed.passed))
    (lacks_visits u.fails ended lacks))

pub returns-in-Err-TooLate-clause-fits : goal.returns-in-Err-TooLate-clause-fits
returns-in-Err-TooLate-clause-fits g c =
    let m : Met = record { visits = g.C.TestedClients.visits; passes = g.C.TestedClients.passes } in
    let given = c.args.rules.now in
    let at = c.loop-visited in
    late_fits m given at.visited at.standing at.score (g.W.Write.contents (inner_of c.args.writer.now)) (g.W.Write.contents (inner_of at.writer))
    (watched g.F.Write.contents c.args.faults.now at.faults) at.invariant.run at.invariant.bound at.invariant.fits

pub returns-in-Err-Never-clause-runs : goal.returns-in-Err-Never-clause-runs
returns-in-Err-Never-clause-runs g c =
    let m : Met = record { visits = g.C.TestedClients.visits; passes = g.C.TestedClients.passes } in
    let u : Unmet = unmet_by g.C.TestedClients.none g.C.TestedClients.fails in
    let given = c.args.rules.now in
    let at = c.loop-visited in
    let never_is : c.in_ok-came.came ≡ Err Never = search rules in
    let (none, passed) = none_came m u given at.standing c.in_ok-came.came Never (has_failed at.faults)
    (has_failed c.next_outcome.new.faults) (g.F.Write.contents (inner_of at.faults))
    (g.F.Write.contents (inner_of c.next_outcome.new.faults)) never_is c.in_ok-came.ensures.comes
    c.in_ok-came.ensures.still in
    visits_no_more m u given at.visited at.standing at.score (g.W.Write.contents (inner_of c.args.writer.now)) (g.W.Write.contents (inner_of at.writer)) (has_failed at.writer)
    (has_failed at.faults) (has_failed c.next_outcome.new.faults) (g.F.Write.contents (inner_of c.args.faults.now)) (g.F.Write.contents (inner_of at.faults)) (g.F.Write.contents (inner_of c.next_outcome.new.faults)) at.invariant.run at.invariant.works none
    passed

pub returns-in_err-came-clause-runs : goal.returns-in_err-came-clause-runs
returns-in_err-came-clause-runs g c =
    let m : Met = record { visits = g.C.TestedClients.visits; passes = g.C.TestedClients.passes } in
    let u : Unmet = unmet_by g.C.TestedClients.none g.C.TestedClients.fails in
    let given = c.args.rules.now in
    let at = c.loop-visited in
    let ended = c.from_residual-in_err-came.result in
    let stops : IsErrAnd ended (IsVisitFault (AreFailing g.C.TestedClients.fails)) = search rules in
    visits_err m u given ended (watched g.W.Write.contents c.args.writer.now at.writer) (watched g.F.Write.contents c.args.faults.now c.next_outcome.new.faults)
    (breaks_visiting m given at.visited at.standing at.score (g.W.Write.contents (inner_of c.args.writer.now)) (g.W.Write.contents (inner_of at.writer)) (has_failed at.writer)
    (has_failed at.faults) (has_failed c.next_outcome.new.faults) (g.F.Write.contents (inner_of c.args.faults.now)) (g.F.Write.contents (inner_of at.faults)) (g.F.Write.contents (inner_of c.next_outcome.new.faults)) at.invariant.run at.invariant.works
    c.in_err-came.ensures.still c.in_err-came.ensures.lacks) stops

pub returns-in_err-text-clause-runs : goal.returns-in_err-text-clause-runs
returns-in_err-text-clause-runs g c =
    let m : Met = record { visits = g.C.TestedClients.visits; passes = g.C.TestedClients.passes } in
    let u : Unmet = unmet_by g.C.TestedClients.none g.C.TestedClients.fails in
    let given = c.args.rules.now in
    let at = c.loop-visited in
    let (before, during, next) = next_came m u given at.standing c.in_ok-came.came c.in-Ok.outcome
    (has_failed at.faults) (has_failed c.next_outcome.new.faults) (g.F.Write.contents (inner_of at.faults))
    (g.F.Write.contents (inner_of c.next_outcome.new.faults)) c.in-Ok.is c.in_ok-came.ensures.comes
    c.in_ok-came.ensures.still in
    let turn = turn_with before c.in-Ok.outcome during in
    let ended = c.from_residual-in_err-text.result in
    let lacks : IsErrAnd ended (λ fault. fault ≡ NoMemory) = search rules in
    visits_err m u given ended (watched g.W.Write.contents c.args.writer.now at.writer) (watched g.F.Write.contents c.args.faults.now c.next_outcome.new.faults)
    (breaks_visiting m given at.visited at.standing at.score (g.W.Write.contents (inner_of c.args.writer.now)) (g.W.Write.contents (inner_of at.writer)) (has_failed at.writer)
    (has_failed at.faults) (has_failed c.next_outcome.new.faults) (g.F.Write.contents (inner_of c.args.faults.now)) (g.F.Write.contents (inner_of at.faults)) (g.F.Write.contents (inner_of c.next_outcome.new.faults)) at.invariant.run at.invariant.works
    next.still (breaks_taken m given at.standing turn (watched g.F.Write.contents at.faults c.next_outcome.new.faults) next.comes next.noted))
    (lacks_visits u.fails ended lacks)

pub returns-then-failed-clause-runs : goal.returns-then-failed-clause-runs
returns-then-failed-clause-runs g c =
    let m : Met = record { visits = g.C.TestedClients.visits; passes = g.C.TestedClients.passes } in
    let u : Unmet = unmet_by g.C.TestedClients.none g.C.TestedClients.fails in
    let given = c.args.rules.now in
    let at = c.loop-visited in
    let (before, during, next) = next_came m u given at.standing c.in_ok-came.came c.in-Ok.outcome
    (has_failed at.faults) (has_failed c.next_outcome.new.faults) (g.F.Write.contents (inner_of at.faults))
    (g.F.Write.contents (inner_of c.next_outcome.new.faults)) c.in-Ok.is c.in_ok-came.ensures.comes
    c.in_ok-came.ensures.still in
    let turn = turn_with before c.in-Ok.outcome during in
    let line = lines_for given.telling (tests_in given c.in-Ok.outcome) in
    let text : c.as_bytes.result.now ≡ line = search rules in
    let output = watched g.W.Write.contents at.writer c.deliver.new.writer in
    let told = delivers_same Done Done c.as_bytes.result.now line c.deliver.result output refl text c.deliver.ensures in
    let broken : has_failed c.deliver.new.writer ≡ true = sym c.failed.ensures ∙ c.if-failed.true in
    let (fails, begun) = was_begun Done c.deliver.result line output told broken in
    visits_stop m u given at.visited at.standing turn at.score (g.W.Write.contents (inner_of c.args.writer.now)) (g.W.Write.contents (inner_of at.writer)) (g.W.Write.contents (inner_of c.deliver.new.writer))
    (has_failed c.deliver.new.writer) (has_failed at.faults) (has_failed c.next_outcome.new.faults) (g.F.Write.contents (inner_of c.args.faults.now)) (g.F.Write.contents (inner_of at.faults)) (g.F.Write.contents (inner_of c.next_outcome.new.faults))
    at.invariant.run next broken begun

pub report_outcome-requires-clause-room : goal.report_outcome-requires-clause-room
report_outcome-requires-clause-room g c =
    let m : Met = record { visits = g.C.TestedClients.visits; passes = g.C.TestedClients.passes } in
    let given = c.args.rules.now in
    let at = c.loop-visited in
    let (pass, loose, fail, failures) = visited_bound m given at.visited at.standing at.score (g.W.Write.contents (inner_of c.args.writer.now)) (g.W.Write.contents (inner_of at.writer))
    (watched g.F.Write.contents c.args.faults.now at.faults) at.invariant.run in
    let bound = at.invariant.bound in
    (omega (arith, pass, bound), omega (arith, loose, bound), omega (arith, fail, bound), omega (arith, failures, bound))

pub report_outcome-requires-clause-inside : goal.report_outcome-requires-clause-inside
report_outcome-requires-clause-inside g c =
    let m : Met = record { visits = g.C.TestedClients.visits; passes = g.C.TestedClients.passes } in
    let u : Unmet = unmet_by g.C.TestedClients.none g.C.TestedClients.fails in
    let given = c.args.rules.now in
    let at = c.loop-visited in
    let (before, during, next) = next_came m u given at.standing c.in_ok-came.came c.in-Ok.outcome
    (has_failed at.faults) (has_failed c.next_outcome.new.faults) (g.F.Write.contents (inner_of at.faults))
    (g.F.Write.contents (inner_of c.next_outcome.new.faults)) c.in-Ok.is c.in_ok-came.ensures.comes
    c.in_ok-came.ensures.still in
    let turn = turn_with before c.in-Ok.outcome during in
    next.comes.comes.inside

pub keep_outcome-requires-clause-inside : goal.keep_outcome-requires-clause-inside
keep_outcome-requires-clause-inside g c =
    let m : Met = record { visits = g.C.TestedClients.visits; passes = g.C.TestedClients.passes } in
    let u : Unmet = unmet_by g.C.TestedClients.none g.C.TestedClients.fails in
    let given = c.args.rules.now in
    let at = c.loop-visited in
    let (before, during, next) = next_came m u given at.standing c.in_ok-came.came c.in-Ok.outcome
    (has_failed at.faults) (has_failed c.next_outcome.new.faults) (g.F.Write.contents (inner_of at.faults))
    (g.F.Write.contents (inner_of c.next_outcome.new.faults)) c.in-Ok.is c.in_ok-came.ensures.comes
    c.in_ok-came.ensures.still in
    let turn = turn_with before c.in-Ok.outcome during in
    next.comes.comes.inside

pub returns-then-is_enough-clause-fits : goal.returns-then-is_enough-clause-fits
returns-then-is_enough-clause-fits g c =
    let m : Met = record { visits = g.C.TestedClients.visits; passes = g.C.TestedClients.passes } in
    let u : Unmet = unmet_by g.C.TestedClients.none g.C.TestedClients.fails in
    let given = c.args.rules.now in
    let at = c.loop-visited in
    let (before, during, next) = next_came m u given at.standing c.in_ok-came.came c.in-Ok.outcome
    (has_failed at.faults) (has_failed c.next_outcome.new.faults) (g.F.Write.contents (inner_of at.faults))
    (g.F.Write.contents (inner_of c.next_outcome.new.faults)) c.in-Ok.is c.in_ok-came.ensures.comes
    c.in_ok-came.ensures.still in
    let turn = turn_with before c.in-Ok.outcome during in
    enough_fits m given at.visited at.standing turn at.score c.report_outcome.new.score (g.W.Write.contents (inner_of c.args.writer.now)) (g.W.Write.contents (inner_of at.writer))
    (watched g.F.Write.contents c.args.faults.now at.faults) at.invariant.run c.in_ok-text.ensures.counted c.loop-visited-test.true

pub returns-then-is_enough-clause-runs : goal.returns-then-is_enough-clause-runs
returns-then-is_enough-clause-runs g c =
    let m : Met = record { visits = g.C.TestedClients.visits; passes = g.C.TestedClients.passes } in
    let u : Unmet = unmet_by g.C.TestedClients.none g.C.TestedClients.fails in
    let given = c.args.rules.now in
    let at = c.loop-visited in
    let (before, during, next) = next_came m u given at.standing c.in_ok-came.came c.in-Ok.outcome
    (has_failed at.faults) (has_failed c.next_outcome.new.faults) (g.F.Write.contents (inner_of at.faults))
    (g.F.Write.contents (inner_of c.next_outcome.new.faults)) c.in-Ok.is c.in_ok-came.ensures.comes
    c.in_ok-came.ensures.still in
    let turn = turn_with before c.in-Ok.outcome during in
    let line = lines_for given.telling (tests_in given c.in-Ok.outcome) in
    let text : c.as_bytes.result.now ≡ line = search rules in
    let output = watched g.W.Write.contents at.writer c.deliver.new.writer in
    let told = delivers_same Done Done c.as_bytes.result.now line c.deliver.result output refl text c.deliver.ensures in
    let works : has_failed c.deliver.new.writer ≡ false = sym c.failed.ensures ∙ c.if-failed.false in
    let written = was_written Done c.deliver.result line output told works in
    visits_enough m given at.visited at.standing turn at.score c.report_outcome.new.score
    (g.W.Write.contents (inner_of c.args.writer.now)) (g.W.Write.contents (inner_of at.writer)) (g.W.Write.contents (inner_of c.deliver.new.writer)) (has_failed c.deliver.new.writer) (has_failed at.faults) (has_failed c.next_outcome.new.faults)
    (g.F.Write.contents (inner_of c.args.faults.now)) (g.F.Write.contents (inner_of at.faults)) (g.F.Write.contents (inner_of c.next_outcome.new.faults))
    at.invariant.run next (sym c.is_enough.ensures ∙ c.if-is_enough.true) c.in_ok-text.ensures.counted written works

pub returns-then-ends_with-clause-fits : goal.returns-then-ends_with-clause-fits
returns-then-ends_with-clause-fits g c =
    let m : Met = record { visits = g.C.TestedClients.visits; passes = g.C.TestedClients.passes } in
    let u : Unmet = unmet_by g.C.TestedClients.none g.C.TestedClients.fails in
    let given = c.args.rules.now in
    let at = c.loop-visited in
    let (before, during, next) = next_came m u given at.standing c.in_ok-came.came c.in-Ok.outcome
    (has_failed at.faults) (has_failed c.next_outcome.new.faults) (g.F.Write.contents (inner_of at.faults))
    (g.F.Write.contents (inner_of c.next_outcome.new.faults)) c.in-Ok.is c.in_ok-came.ensures.comes
    c.in_ok-came.ensures.still in
    let turn = turn_with before c.in-Ok.outcome during in
    visits_fit m given at.visited at.standing c.keep_outcome.new.standing turn at.score c.report_outcome.new.score
    (g.W.Write.contents (inner_of c.args.writer.now)) (g.W.Write.contents (inner_of at.writer)) (watched g.F.Write.contents c.args.faults.now at.faults) at.invariant.run
    c.in_ok-text.ensures.counted c.keep_outcome.ensures c.loop-visited-test.true at.invariant.fits

pub returns-then-ends_with-clause-runs : goal.returns-then-ends_with-clause-runs
returns-then-ends_with-clause-runs g c =
    let m : Met = record { visits = g.C.TestedClients.visits; passes = g.C.TestedClients.passes } in
    let u : Unmet = unmet_by g.C.TestedClients.none g.C.TestedClients.fails in
    let given = c.args.rules.now in
    let at = c.loop-visited in
    let (before, during, next) = next_came m u given at.standing c.in_ok-came.came c.in-Ok.outcome
    (has_failed at.faults) (has_failed c.next_outcome.new.faults) (g.F.Write.contents (inner_of at.faults))
    (g.F.Write.contents (inner_of c.next_outcome.new.faults)) c.in-Ok.is c.in_ok-came.ensures.comes
    c.in_ok-came.ensures.still in
    let turn = turn_with before c.in-Ok.outcome during in
    let line = lines_for given.telling (tests_in given c.in-Ok.outcome) in
    let text : c.as_bytes.result.now ≡ line = search rules in
    let output = watched g.W.Write.contents at.writer c.deliver.new.writer in
    let told = delivers_same Done Done c.as_bytes.result.now line c.deliver.result output refl text c.deliver.ensures in
    let works : has_failed c.deliver.new.writer ≡ false = sym c.failed.ensures ∙ c.if-failed.false in
    let written = was_written Done c.deliver.result line output told works in
    visits_end m u given at.visited at.standing c.keep_outcome.new.standing turn at.score
    c.report_outcome.new.score (g.W.Write.contents (inner_of c.args.writer.now)) (g.W.Write.contents (inner_of at.writer)) (g.W.Write.contents (inner_of c.deliver.new.writer)) (has_failed c.deliver.new.writer) (has_failed at.faults) (has_failed c.next_outcome.new.faults)
    (g.F.Write.contents (inner_of c.args.faults.now)) (g.F.Write.contents (inner_of at.faults)) (g.F.Write.contents (inner_of c.next_outcome.new.faults)) at.invariant.run next
    (ends_by true (length given.cases.now) at.standing c.keep_outcome.new.standing c.in-Ok.outcome c.ends_with.result
    c.keep_outcome.ensures at.invariant.run.kept c.ends_with.ensures c.if-ends_with.true)
    (sym c.is_enough.ensures ∙ c.if-is_enough.false) c.in_ok-text.ensures.counted written works c.keep_outcome.ensures

pub loop-visited-preserved : goal.loop-visited-preserved
loop-visited-preserved g c =
    let m : Met = record { visits = g.C.TestedClients.visits; passes = g.C.TestedClients.passes } in
    let u : Unmet = unmet_by g.C.TestedClients.none g.C.TestedClients.fails in
    let given = c.args.rules.now in
    let at = c.loop-visited in
    let (before, during, next) = next_came m u given at.standing c.in_ok-came.came c.in-Ok.outcome
    (has_failed at.faults) (has_failed c.next_outcome.new.faults) (g.F.Write.contents (inner_of at.faults))
    (g.F.Write.contents (inner_of c.next_outcome.new.faults)) c.in-Ok.is c.in_ok-came.ensures.comes
    c.in_ok-came.ensures.still in
    let turn = turn_with before c.in-Ok.outcome during in
    let line = lines_for given.telling (tests_in given c.in-Ok.outcome) in
    let text : c.as_bytes.result.now ≡ line = search rules in
    let output = watched g.W.Write.contents at.writer c.deliver.new.writer in
    let told = delivers_same Done Done c.as_bytes.result.now line c.deliver.result output refl text c.deliver.ensures in
    let works : has_failed c.deliver.new.writer ≡ false = sym c.failed.ensures ∙ c.if-failed.false in
    let written = was_written Done c.deliver.result line output told works in
    record {
      works = works;
      bound = omega (arith, c.loop-visited-test.true);
      fits = at.invariant.fits;
      run = visited_more m given at.visited at.standing c.keep_outcome.new.standing turn at.score
          c.report_outcome.new.score (g.W.Write.contents (inner_of c.args.writer.now)) (g.W.Write.contents (inner_of at.writer)) (g.W.Write.contents (inner_of c.deliver.new.writer)) (has_failed at.faults) (has_failed c.next_outcome.new.faults)
          (g.F.Write.contents (inner_of c.args.faults.now)) (g.F.Write.contents (inner_of at.faults)) (g.F.Write.contents (inner_of c.next_outcome.new.faults)) at.invariant.run next
          (ends_by false (length given.cases.now) at.standing c.keep_outcome.new.standing c.in-Ok.outcome
          c.ends_with.result c.keep_outcome.ensures at.invariant.run.kept c.ends_with.ensures c.if-ends_with.false)
          (sym c.is_enough.ensures ∙ c.if-is_enough.false) c.in_ok-text.ensures.counted written c.keep_outcome.ensures;
      are = c.in_ok-came.ensures.are;
      still = λ failed. c.in_ok-came.ensures.still (at.invariant.still failed);
    }

pub loop-visited-preserved-else-ends_with : goal.loop-visited-preserved-else-ends_with
loop-visited-preserved-else-ends_with g c =
    let m : Met = record { visits = g.C.TestedClients.visits; passes = g.C.TestedClients.passes } in
    let u : Unmet = unmet_by g.C.TestedClients.none g.C.TestedClients.fails in
    let given = c.args.rules.now in
    let at = c.loop-visited in
    let (before, during, next) = next_came m u given at.standing c.in_ok-came.came c.in-Ok.outcome
    (has_failed at.faults) (has_failed c.next_outcome.new.faults) (g.F.Write.contents (inner_of at.faults))
    (g.F.Write.contents (inner_of c.next_outcome.new.faults)) c.in-Ok.is c.in_ok-came.ensures.comes
    c.in_ok-came.ensures.still in
    let turn = turn_with before c.in-Ok.outcome during in
    let line = lines_for given.telling (tests_in given c.in-Ok.outcome) in
    let text : c.as_bytes.result.now ≡ line = search rules in
    let output = watched g.W.Write.contents at.writer c.deliver.new.writer in
    let told = delivers_same Done Done c.as_bytes.result.now line c.deliver.result output refl text c.deliver.ensures in
    let works : has_failed c.deliver.new.writer ≡ false = sym c.failed.ensures ∙ c.if-failed.false in
    let written = was_written Done c.deliver.result line output told works in
    record {
      works = works;
      bound = omega (arith, c.loop-visited-test.true);
      fits = at.invariant.fits;
      run = visited_more m given at.visited at.standing c.keep_outcome.new.standing turn at.score
          c.report_outcome.new.score (g.W.Write.contents (inner_of c.args.writer.now)) (g.W.Write.contents (inner_of at.writer)) (g.W.Write.contents (inner_of c.deliver.new.writer)) (has_failed at.faults) (has_failed c.next_outcome.new.faults)
          (g.F.Write.contents (inner_of c.args.faults.now)) (g.F.Write.contents (inner_of at.faults)) (g.F.Write.contents (inner_of c.next_outcome.new.faults)) at.invariant.run next
          (ends_by false (length given.cases.now) at.standing c.keep_outcome.new.standing c.in-Ok.outcome
          c.ends_with.result c.keep_outcome.ensures at.invariant.run.kept c.ends_with.ensures c.if-ends_with.false)
          (sym c.is_enough.ensures ∙ c.if-is_enough.false) c.in_ok-text.ensures.counted written c.keep_outcome.ensures;
      are = c.in_ok-came.ensures.are;
      still = λ failed. c.in_ok-came.ensures.still (at.invariant.still failed);
    }

pub returns-clause-runs : goal.returns-clause-runs
returns-clause-runs g c =
    let m : Met = record { visits = g.C.TestedClients.visits; passes = g.C.TestedClients.passes } in
    let u : Unmet = unmet_by g.C.TestedClients.none g.C.TestedClients.fails in
    let given = c.args.rules.now in
    let at = c.loop-visited in
    let faults = watched g.F.Write.contents at.faults at.faults in (
      inl refl,
      breaks_visiting m given at.visited at.standing at.score (g.W.Write.contents (inner_of c.args.writer.now)) (g.W.Write.contents (inner_of at.writer)) (has_failed at.writer)
          (has_failed at.faults) (has_failed at.faults) (g.F.Write.contents (inner_of c.args.faults.now)) (g.F.Write.contents (inner_of at.faults)) (g.F.Write.contents (inner_of at.faults)) at.invariant.run
          at.invariant.works (λ f. f) (broken_none m given at.standing faults (Keeps-refl (g.F.Write.contents (inner_of at.faults)))),
    )
