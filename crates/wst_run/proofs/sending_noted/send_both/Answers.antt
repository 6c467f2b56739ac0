-- What is held ends with the lines, each behind a time.
use Rattle.std.proofs.Common.{ap, refl, true, ◌∙◌}
use Rattle.ws_frame.specs.Devices.{Device, watched}
use Rattle.ws_frame.specs.Watching.{inner_of}
use Rattle.wst_noted.specs.HeadWriting.{behind_heads}
use Rattle.wst_noted.specs.TimedLines.{InTime, timed_lines}
use Rattle.wst_run.proofs.NotedLemmas.{shown_both}
use Rattle.wst_run.proofs.sending_noted.send_both.Goals as goal

pub returns : goal.returns
returns g c =
    let held : Device = record {
      failed = true;
      old = g.W.Write.contents (inner_of c.args.writer.now);
      new = g.W.Write.contents (inner_of c.end-ended.result.0.now);
    } in
    let shown = watched (λ o. timed_lines InTime (λ v. behind_heads (λ w. g.W.Write.contents (inner_of w.now)) v) o)
    c.new-output.result c.send_to_target-exit.new.writer in (
      c.send_to_target-exit.result,
      shown,
      held,
      c.send_to_target-exit.ensures,
      refl,
      shown_both c.args.plan.now.time c.args.plan.now.heads shown held c.requires.time c.requires.heads
          (λ first is. ap (λ o. timed_lines InTime (λ v. behind_heads (λ w. g.W.Write.contents (inner_of w.now)) v) o)
          c.new-output.ensures.holds ∙ c.of.ensures.begun (c.of-heads.ensures.begun first is))
          (λ lines known.
          let (bytes, is, timed) = c.into_inner-2.ensures lines
          (ap (λ o. timed_lines InTime (λ v. behind_heads (λ w. g.W.Write.contents (inner_of w.now)) v) o) c.into_inner.ensures ∙ known) in
          (bytes, timed, c.end-ended.ensures bytes is)),
      c.exit_with.ensures,
    )
