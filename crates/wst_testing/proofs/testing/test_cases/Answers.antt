-- The cases are run, and a reporter is told of them; then the total is written.
use Rattle.std.proofs.Common.{◌≡◌, ◌∙◌, ℕ, [], Err, None, ap, length, refl, rules, subst, sym}
use Rattle.std.proofs.KnownBytes.{Keeps-refl}
use Rattle.ws_frame.specs.Devices.{watched}
use Rattle.ws_frame.specs.Watching.{has_failed, inner_of}
use Rattle.wst_commands.specs.Devices.{StaysFailed}
use Rattle.wst_testing.specs.Hints.{IsHintState, hint_place}
use Rattle.wst_testing.specs.Reporter.{HasReported, IsEndOfStop, StopsReport}
use Rattle.wst_testing.specs.Reporting.{EndsReporting}
use Rattle.wst_testing.specs.declared.outcome.Score.{Score}
use Rattle.wst_testing.specs.Runner.{GaveAllOfList, GaveOfList}
use Rattle.ws_scripts.specs.declared.script.Case.{Case}
use Rattle.wst_testing.proofs.ReporterLemmas.{reported_nothing, run_ended, run_told, run_works}
use Rattle.wst_testing.proofs.RunnerLemmas.{holds_at_the_end}
use Rattle.wst_testing.proofs.testing.test_cases.Goals as goal

pub run_each-ended-requires-clause-fresh : goal.run_each-ended-requires-clause-fresh
run_each-ended-requires-clause-fresh g c = (
  refl,
  refl,
  reported_nothing c.args.run.rules c.args.report.now c.of.result.left c.new-score.result c.of.result
      (g.W.Write.contents (inner_of c.args.writer.now)) (has_failed c.args.writer.now)
      (watched g.F.Write.contents c.args.faults.now c.args.faults.now) c.new-score.ensures
      (subst (λ (n : ℕ). IsHintState n [] c.of.result) (sym c.of.ensures.place) c.of.ensures.starts) c.requires.works
      (Keeps-refl (g.F.Write.contents (inner_of c.args.faults.now))),
  λ failed. failed,
)

pub returns-in-Ok-clause-runs : goal.returns-in-Ok-clause-runs
returns-in-Ok-clause-runs g c =
    let runs = c.in-Ok.ensures.runs in
    let place = hint_place (length c.args.run.cases.now) in
    let all : c.of-listed.result.rest ≡ c.args.run.cases.now = search rules in
    let (kept, same, so, still) = runs.told in
    let new = c.run_each-ended.new.sink in
    let writer = c.writer-1.given.0 in
    let faults = c.faults-1.given.0 in
    let written : writer ≡ new.writer.now = search rules in
    let noted : faults ≡ new.faults.now = search rules in
    let first = subst (λ f. HasReported c.args.run.rules c.args.report.now place runs.came None new.score.now new.missed new.hint
    (watched g.W.Write.contents c.args.writer.now new.writer.now) (watched g.F.Write.contents c.args.faults.now f))
    (sym noted) (subst (λ (n : ℕ). HasReported c.args.run.rules c.args.report.now n runs.came None new.score.now new.missed
    new.hint (watched g.W.Write.contents c.args.writer.now new.writer.now)
    (watched g.F.Write.contents c.args.faults.now new.faults.now)) c.of.ensures.place so) in
    let both = subst (λ w. HasReported c.args.run.rules c.args.report.now place runs.came None new.score.now new.missed new.hint
    (watched g.W.Write.contents c.args.writer.now w) (watched g.F.Write.contents c.args.faults.now faults))
    (sym written) first in
    let scored : c.score-2-1.given.0 ≡ new.score.now = search rules in
    let ended = subst (λ (t : Score). EndsReporting c.args.report.now t c.tell_end.result
    (c.tell_end.new.writer ≡ writer) (c.tell_end.new.faults ≡ faults) (watched g.W.Write.contents writer c.tell_end.new.writer)
    (watched g.F.Write.contents faults c.tell_end.new.faults)) scored c.tell_end.ensures.is in
    run_told (g.R.CaseRunner.meets c.args.runner.now c.args.run.rules.key) c.args.run.rules c.args.report.now c.args.run.cases.now c.args.run.tested.now
    runs.came new.score.now new.missed new.hint (g.W.Write.contents (inner_of c.args.writer.now))
    (g.W.Write.contents (inner_of writer)) (g.W.Write.contents (inner_of c.tell_end.new.writer)) (has_failed writer)
    (has_failed c.tell_end.new.writer) (has_failed faults) (has_failed c.tell_end.new.faults)
    (g.F.Write.contents (inner_of c.args.faults.now)) (g.F.Write.contents (inner_of faults))
    (g.F.Write.contents (inner_of c.tell_end.new.faults)) (c.tell_end.new.writer ≡ writer)
    (c.tell_end.new.faults ≡ faults) c.tell_end.result (sym runs.given ∙ all) runs.met both
    (λ stays. (ap (λ w. has_failed w) (sym stays), ap (λ w. g.W.Write.contents (inner_of w)) (sym stays)))
    (λ quiet. (ap (λ w. has_failed w) (sym quiet), ap (λ w. g.F.Write.contents (inner_of w)) (sym quiet)))
    c.tell_end.ensures.still ended

pub stopped_by-requires : goal.stopped_by-requires
stopped_by-requires g c =
    let new = c.run_each-ended.new.sink in
    let place = hint_place (length c.args.run.cases.now) in
    let writer = c.writer-1.given.0 in
    let written : writer ≡ new.writer.now = search rules in
    run_works (g.R.CaseRunner.meets c.args.runner.now c.args.run.rules.key) c.args.run.rules c.args.report.now c.args.run.cases.now c.args.run.tested.now
    _ _ c.of-listed.result _ new new.score.now c.in-Err.why (watched g.W.Write.contents c.args.writer.now writer)
    (watched g.F.Write.contents c.args.faults.now new.faults.now)
    (λ came why (so, still). subst (λ w. StopsReport c.args.run.rules c.args.report.now place came new.score.now why
    (watched g.W.Write.contents c.args.writer.now w) (watched g.F.Write.contents c.args.faults.now new.faults.now))
    (sym written) (subst (λ (n : ℕ). StopsReport c.args.run.rules c.args.report.now n came new.score.now why
    (watched g.W.Write.contents c.args.writer.now new.writer.now)
    (watched g.F.Write.contents c.args.faults.now new.faults.now)) c.of.ensures.place so))
    c.in-Err.ensures.runs

pub returns-clause-runs : goal.returns-clause-runs
returns-clause-runs g c =
    let new = c.run_each-ended.new.sink in
    let place = hint_place (length c.args.run.cases.now) in
    let all : c.of-listed.result.rest ≡ c.args.run.cases.now = search rules in
    let writer = c.writer-1.given.0 in
    let faults = c.faults-1.given.0 in
    let written : writer ≡ new.writer.now = search rules in
    let noted : faults ≡ new.faults.now = search rules in
    let scored : c.score-2-1.given.0 ≡ new.score.now = search rules in
    let ended = subst (λ (t : Score). IsEndOfStop c.args.run.tested.now c.args.report.now t c.in-Err.why c.stopped_by.result
    (c.stopped_by.new.writer ≡ writer) (c.stopped_by.new.faults ≡ faults)
    (watched g.W.Write.contents writer c.stopped_by.new.writer)
    (watched g.F.Write.contents faults c.stopped_by.new.faults)) scored c.stopped_by.ensures.is in
    run_ended (g.R.CaseRunner.meets c.args.runner.now c.args.run.rules.key) c.args.run.rules c.args.report.now c.args.run.cases.now c.args.run.tested.now
    _ _ _ c.of-listed.result _ new new.score.now (g.W.Write.contents (inner_of c.args.writer.now))
    (g.W.Write.contents (inner_of writer)) (g.W.Write.contents (inner_of c.stopped_by.new.writer)) (has_failed writer)
    (has_failed c.stopped_by.new.writer) (has_failed faults) (has_failed c.stopped_by.new.faults)
    (g.F.Write.contents (inner_of c.args.faults.now)) (g.F.Write.contents (inner_of faults))
    (g.F.Write.contents (inner_of c.stopped_by.new.faults)) (c.stopped_by.new.writer ≡ writer)
    (c.stopped_by.new.faults ≡ faults) all
    (λ came next (kept, same, so, still). (
      new.score.now,
      new.missed,
      new.hint,
      subst (λ w. HasReported c.args.run.rules c.args.report.now place came next new.score.now new.missed new.hint
          (watched g.W.Write.contents c.args.writer.now w) (watched g.F.Write.contents c.args.faults.now faults))
          (sym written)
          (subst (λ f. HasReported c.args.run.rules c.args.report.now place came next new.score.now new.missed new.hint
          (watched g.W.Write.contents c.args.writer.now new.writer.now)
          (watched g.F.Write.contents c.args.faults.now f)) (sym noted)
          (subst (λ (n : ℕ). HasReported c.args.run.rules c.args.report.now n came next new.score.now new.missed new.hint
          (watched g.W.Write.contents c.args.writer.now new.writer.now)
          (watched g.F.Write.contents c.args.faults.now new.faults.now)) c.of.ensures.place so)),
    ))
    (λ came why (so, still). subst (λ w. StopsReport c.args.run.rules c.args.report.now place came new.score.now why
    (watched g.W.Write.contents c.args.writer.now w) (watched g.F.Write.contents c.args.faults.now faults))
    (sym written) (subst (λ f. StopsReport c.args.run.rules c.args.report.now place came new.score.now why
    (watched g.W.Write.contents c.args.writer.now new.writer.now) (watched g.F.Write.contents c.args.faults.now f))
    (sym noted) (subst (λ (n : ℕ). StopsReport c.args.run.rules c.args.report.now n came new.score.now why
    (watched g.W.Write.contents c.args.writer.now new.writer.now)
    (watched g.F.Write.contents c.args.faults.now new.faults.now)) c.of.ensures.place so)))
    (λ stays. (ap (λ w. has_failed w) (sym stays), ap (λ w. g.W.Write.contents (inner_of w)) (sym stays)))
    (λ quiet. (ap (λ w. has_failed w) (sym quiet), ap (λ w. g.F.Write.contents (inner_of w)) (sym quiet)))
    c.stopped_by.ensures.still c.in-Err.why c.stopped_by.result c.in-Err.ensures.runs ended

pub returns-clause-still : goal.returns-clause-still
returns-clause-still g c =
    let new = c.run_each-ended.new.sink in
    let noted : c.faults-1.given.0 ≡ new.faults.now = search rules in
    let before = subst (λ f. StaysFailed c.args.faults.now f) (sym noted)
    (holds_at_the_end (λ (x : Case). x) (g.R.CaseRunner.meets c.args.runner.now c.args.run.rules.key) GaveOfList
    (λ start now cases. GaveAllOfList start cases) _ _ c.of-listed.result _ new (Err c.in-Err.why)
    (StaysFailed c.args.faults.now new.faults.now) (λ came next (kept, same, so, still). still)
    (λ came why (so, still). still) c.in-Err.ensures.runs) in
    λ failed. c.stopped_by.ensures.still (before failed)
