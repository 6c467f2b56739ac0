-- The name of the next case was told, where that is asked for.
use Rattle.std.proofs.Common.{subst}
use Rattle.ws_frame.specs.Devices.{watched}
use Rattle.ws_frame.specs.Watching.{has_failed, inner_of}
use Rattle.wst_testing.specs.Notes.{TellsEach, progress_notes}
use Rattle.wst_testing.specs.declared.testing.RunRules.{RunRules}
use Rattle.wst_testing.proofs.ReporterLemmas.{reported_begun}
use Rattle.wst_testing.proofs.testing.ReporterSink.begins.Goals as goal

pub returns-clause-heard : goal.returns-clause-heard
returns-clause-heard g c = λ start came (rules, report, so, still).
    let old = c.args.self.now in
    let faults = c.tell_progress.new.faults in
    let told = subst (λ (r : RunRules). TellsEach (progress_notes r.progress c.args.case.now)
    (watched g.F.Write.contents old.faults.now faults)) rules c.in_ok-tell_progress.ensures.told in (
      rules,
      report,
      reported_begun start.rules start.report.now start.hint.left came c.args.case.now old.score.now old.missed old.hint
          (watched g.W.Write.contents start.writer.now old.writer.now) (has_failed old.faults.now) (has_failed faults)
          (g.F.Write.contents (inner_of start.faults.now)) (g.F.Write.contents (inner_of old.faults.now))
          (g.F.Write.contents (inner_of faults)) so c.in_ok-tell_progress.ensures.still told,
      λ failed. c.in_ok-tell_progress.ensures.still (still failed),
    )
