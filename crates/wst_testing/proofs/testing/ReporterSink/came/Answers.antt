-- What the report has of one case more was written, or why the run ends with it.
use Rattle.std.proofs.Common.{◌≡◌, ◌∙◌, ◌<◌, ◌≤◌, ◌||◌, ℕ, Bool, List, ap, arith, false}
use Rattle.std.proofs.Common.{subst, sym, true}
use Rattle.std.specs.Io.KnownBytes.{Appends}
use Rattle.ws_frame.specs.Watching.{AppendsFront, has_failed, inner_of}
use Rattle.wst_testing.specs.Outcomes.{is_missed, max_missed}
use Rattle.wst_testing.specs.Reporting.{case_score, report_text, score_by}
use Rattle.wst_testing.specs.Testing.{IsOutcomeOf}
use Rattle.wst_testing.specs.declared.testing.RunRules.{RunRules}
use Rattle.ws_reports.specs.Reports.{ReportValue}
use Rattle.wst_testing.specs.Failures.{is_enough}
use Rattle.ws_reports.specs.declared.case_score.CaseScore.{CaseScore}
use Rattle.wst_testing.proofs.ReporterLemmas.{last_missed, missed_most, report_breaks, report_enough, report_misses}
use Rattle.wst_testing.proofs.ReporterLemmas.{reported_more, reported_room}
use Rattle.wst_testing.proofs.testing.ReporterSink.came.Goals as goal

pub count-requires-clause-pass : goal.count-requires-clause-pass
count-requires-clause-pass g c =
    let (start, came, fits, (kept, report, so, still)) = c.requires in
    (reported_room start.rules start.report.now start.hint.left came _ _ _ _ _ _ so fits).0

pub count-requires-clause-loose : goal.count-requires-clause-loose
count-requires-clause-loose g c =
    let (start, came, fits, (kept, report, so, still)) = c.requires in
    (reported_room start.rules start.report.now start.hint.left came _ _ _ _ _ _ so fits).1

pub count-requires-clause-fail : goal.count-requires-clause-fail
count-requires-clause-fail g c =
    let (start, came, fits, (kept, report, so, still)) = c.requires in
    (reported_room start.rules start.report.now start.hint.left came _ _ _ _ _ _ so fits).2

pub count-requires-clause-failures : goal.count-requires-clause-failures
count-requires-clause-failures g c =
    let (start, came, fits, (kept, report, so, still)) = c.requires in
    (reported_room start.rules start.report.now start.hint.left came _ _ _ _ _ _ so fits).3

pub returns-in-Err-clause-heard : goal.returns-in-Err-clause-heard
returns-in-Err-clause-heard g c = λ start came (kept, report, so, still).
    let old = c.args.self.now in
    let outcome = c.in_ok-outcome.outcome in
    let is = subst (λ (r : RunRules). IsOutcomeOf r c.args.meeting outcome) kept c.in_ok-outcome.ensures in
    let line = subst (λ (r : ReportValue). report_text r (c.args.case.now, outcome) ≡ c.as_bytes.result.now) report
    (sym (c.as_bytes.ensures.value ∙ c.in_ok-reported.ensures.text)) in (
      report_breaks start.rules start.report.now start.hint.left came c.args.case.now c.args.meeting outcome old.score.now old.missed
          old.missed old.hint (g.W.Write.contents (inner_of start.writer.now)) (g.W.Write.contents (inner_of old.writer.now))
          (g.W.Write.contents (inner_of c.write_whole-written.new.writer)) (has_failed old.writer.now)
          (has_failed c.write_whole-written.new.writer) (has_failed old.faults.now) (has_failed c.tell_behind.new.faults)
          (g.F.Write.contents (inner_of start.faults.now)) (g.F.Write.contents (inner_of old.faults.now))
          (g.F.Write.contents (inner_of c.tell_behind.new.faults)) so is c.tell_behind.ensures.still
          c.tell_behind.ensures.told c.count.new.self
          (subst (λ (l : List ℕ). AppendsFront (g.W.Write.contents (inner_of old.writer.now))
          (g.W.Write.contents (inner_of c.write_whole-written.new.writer)) l) (sym line) c.in-Err.ensures.begun)
          (c.in-Err.ensures.failed ∙ ap (λ (b : Bool). b || true) so.works),
      λ failed. c.tell_behind.ensures.still (still failed),
    )

pub miss_of-requires : goal.miss_of-requires
miss_of-requires g c = last_missed (is_missed c.in_ok-outcome.outcome) c.args.self.now.rules.is_limited
    c.args.self.now.missed c.missed_after-self.result c.missed_after-self.ensures
    (omega (arith, c.if-self-max_missed.true, c.max_missed.ensures))

pub returns-then-self-max_missed-clause-heard : goal.returns-then-self-max_missed-clause-heard
returns-then-self-max_missed-clause-heard g c = λ start came (kept, report, so, still).
    let old = c.args.self.now in
    let outcome = c.in_ok-outcome.outcome in
    let is = subst (λ (r : RunRules). IsOutcomeOf r c.args.meeting outcome) kept c.in_ok-outcome.ensures in
    let line = subst (λ (r : ReportValue). report_text r (c.args.case.now, outcome) ≡ c.as_bytes.result.now) report
    (sym (c.as_bytes.ensures.value ∙ c.in_ok-reported.ensures.text)) in
    let most = missed_most (is_missed outcome) old.missed c.missed_after-self.result (max_missed start.rules.is_limited)
    c.missed_after-self.ensures so.few
    (subst (λ (r : RunRules). max_missed r.is_limited ≤ c.missed_after-self.result) kept
    (omega (arith, c.if-self-max_missed.true, c.max_missed.ensures))) in (
      report_misses start.rules start.report.now start.hint.left came c.args.case.now c.args.meeting outcome old.score.now old.missed
          c.missed_after-self.result old.hint (g.W.Write.contents (inner_of start.writer.now))
          (g.W.Write.contents (inner_of old.writer.now)) (g.W.Write.contents (inner_of c.write_whole-written.new.writer))
          (has_failed old.writer.now) (has_failed c.write_whole-written.new.writer) (has_failed old.faults.now)
          (has_failed c.tell_behind.new.faults) (g.F.Write.contents (inner_of start.faults.now))
          (g.F.Write.contents (inner_of old.faults.now)) (g.F.Write.contents (inner_of c.tell_behind.new.faults)) so is
          c.tell_behind.ensures.still c.tell_behind.ensures.told c.count.new.self c.miss_of.result c.miss_of.ensures
          c.missed_after-self.ensures most
          (subst (λ (l : List ℕ). Appends (g.W.Write.contents (inner_of old.writer.now))
          (g.W.Write.contents (inner_of c.write_whole-written.new.writer)) l) (sym line) c.in-Ok.ensures.written)
          (c.in-Ok.ensures.failed ∙ ap (λ (b : Bool). b || false) so.works),
      λ failed. c.tell_behind.ensures.still (still failed),
    )

pub returns-then-is_enough-clause-heard : goal.returns-then-is_enough-clause-heard
returns-then-is_enough-clause-heard g c = λ start came (kept, report, so, still).
    let old = c.args.self.now in
    let outcome = c.in_ok-outcome.outcome in
    let is = subst (λ (r : RunRules). IsOutcomeOf r c.args.meeting outcome) kept c.in_ok-outcome.ensures in
    let line = subst (λ (r : ReportValue). report_text r (c.args.case.now, outcome) ≡ c.as_bytes.result.now) report
    (sym (c.as_bytes.ensures.value ∙ c.in_ok-reported.ensures.text)) in
    let scored = subst (λ (r : ReportValue). c.in_ok-reported.reported.score ≡ case_score r (c.args.case.now, outcome)) report
    c.in_ok-reported.ensures.score in
    let few = subst (λ (r : RunRules). c.missed_after-self.result < max_missed r.is_limited) kept
    (omega (arith, c.if-self-max_missed.false, c.max_missed.ensures)) in (
      report_enough start.rules start.report.now start.hint.left came c.args.case.now c.args.meeting outcome old.score.now old.missed
          c.missed_after-self.result old.hint (g.W.Write.contents (inner_of start.writer.now))
          (g.W.Write.contents (inner_of old.writer.now)) (g.W.Write.contents (inner_of c.write_whole-written.new.writer))
          (has_failed old.writer.now) (has_failed c.write_whole-written.new.writer) (has_failed old.faults.now)
          (has_failed c.tell_behind.new.faults) (g.F.Write.contents (inner_of start.faults.now))
          (g.F.Write.contents (inner_of old.faults.now)) (g.F.Write.contents (inner_of c.tell_behind.new.faults)) so is
          c.tell_behind.ensures.still c.tell_behind.ensures.told c.count.new.self
          (c.in_ok-count.ensures.counted ∙ ap (λ (s : CaseScore). score_by old.score.now outcome s) scored)
          c.missed_after-self.ensures few
          (subst (λ (r : RunRules). is_enough r.max_fail c.count.new.self.failures ≡ true) kept
          (sym c.is_enough.ensures ∙ c.if-is_enough.true))
          (subst (λ (l : List ℕ). Appends (g.W.Write.contents (inner_of old.writer.now))
          (g.W.Write.contents (inner_of c.write_whole-written.new.writer)) l) (sym line) c.in-Ok.ensures.written)
          (c.in-Ok.ensures.failed ∙ ap (λ (b : Bool). b || false) so.works),
      λ failed. c.tell_behind.ensures.still (still failed),
    )

pub returns-clause-heard : goal.returns-clause-heard
returns-clause-heard g c = λ start came (kept, report, so, still).
    let old = c.args.self.now in
    let outcome = c.in_ok-outcome.outcome in
    let is = subst (λ (r : RunRules). IsOutcomeOf r c.args.meeting outcome) kept c.in_ok-outcome.ensures in
    let line = subst (λ (r : ReportValue). report_text r (c.args.case.now, outcome) ≡ c.as_bytes.result.now) report
    (sym (c.as_bytes.ensures.value ∙ c.in_ok-reported.ensures.text)) in
    let scored = subst (λ (r : ReportValue). c.in_ok-reported.reported.score ≡ case_score r (c.args.case.now, outcome)) report
    c.in_ok-reported.ensures.score in
    let few = subst (λ (r : RunRules). c.missed_after-self.result < max_missed r.is_limited) kept
    (omega (arith, c.if-self-max_missed.false, c.max_missed.ensures)) in (
      kept,
      report,
      reported_more start.rules start.report.now start.hint.left came c.args.case.now c.args.meeting outcome old.score.now old.missed
          c.missed_after-self.result old.hint (g.W.Write.contents (inner_of start.writer.now))
          (g.W.Write.contents (inner_of old.writer.now)) (g.W.Write.contents (inner_of c.write_whole-written.new.writer))
          (has_failed old.writer.now) (has_failed c.write_whole-written.new.writer) (has_failed old.faults.now)
          (has_failed c.tell_behind.new.faults) (g.F.Write.contents (inner_of start.faults.now))
          (g.F.Write.contents (inner_of old.faults.now)) (g.F.Write.contents (inner_of c.tell_behind.new.faults)) so is
          c.tell_behind.ensures.still c.tell_behind.ensures.told c.count.new.self c.with-self.result
          (c.in_ok-count.ensures.counted ∙ ap (λ (s : CaseScore). score_by old.score.now outcome s) scored)
          c.with-self.ensures
          c.missed_after-self.ensures few
          (subst (λ (r : RunRules). is_enough r.max_fail c.count.new.self.failures ≡ false) kept
          (sym c.is_enough.ensures ∙ c.if-is_enough.false))
          (subst (λ (l : List ℕ). Appends (g.W.Write.contents (inner_of old.writer.now))
          (g.W.Write.contents (inner_of c.write_whole-written.new.writer)) l) (sym line) c.in-Ok.ensures.written)
          (c.in-Ok.ensures.failed ∙ ap (λ (b : Bool). b || false) so.works),
      λ failed. c.tell_behind.ensures.still (still failed),
    )
