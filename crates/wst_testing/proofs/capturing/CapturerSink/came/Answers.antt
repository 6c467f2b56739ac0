-- What came of the case was told, and the run ends with it.
use Rattle.std.proofs.Common.{subst}
use Rattle.ws_frame.specs.Devices.{watched}
use Rattle.ws_frame.specs.Watching.{has_failed, inner_of}
use Rattle.wst_testing.specs.Capturer.{TellsCame}
use Rattle.wst_testing.specs.declared.testing.RunRules.{RunRules}
use Rattle.wst_testing.proofs.CapturerLemmas.{captured_then}
use Rattle.wst_testing.proofs.capturing.CapturerSink.came.Goals as goal

pub returns-in-Ok-clause-heard : goal.returns-in-Ok-clause-heard
returns-in-Ok-clause-heard g c = λ start told (rules, so, still).
    let old = c.args.self.now in
    let writer = c.tell_came.new.writer in
    let faults = c.tell_came.new.faults in
    let is = subst (λ (r : RunRules). TellsCame r c.args.case.now c.args.meeting c.in-Ok.exit
    (watched g.W.Write.contents old.writer.now writer) (watched g.F.Write.contents old.faults.now faults)) rules
    c.in-Ok.ensures.told in (
      captured_then start.rules told c.args.case.now c.args.meeting c.in-Ok.exit (has_failed old.writer.now)
          (has_failed writer) (g.W.Write.contents (inner_of start.writer.now))
          (g.W.Write.contents (inner_of old.writer.now)) (g.W.Write.contents (inner_of writer))
          (has_failed old.faults.now) (has_failed faults) (g.F.Write.contents (inner_of start.faults.now))
          (g.F.Write.contents (inner_of old.faults.now)) (g.F.Write.contents (inner_of faults)) so
          c.in-Ok.ensures.still is,
      λ failed. c.in-Ok.ensures.still (still failed),
    )
