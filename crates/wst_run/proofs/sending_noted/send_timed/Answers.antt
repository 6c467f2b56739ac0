-- What is held are the lines, each behind a time.
use Rattle.std.proofs.Common.{ap, inl, refl, true, ◌∙◌}
use Rattle.ws_frame.specs.Devices.{Device, watched}
use Rattle.ws_frame.specs.Watching.{inner_of}
use Rattle.wst_noted.specs.TimedLines.{InTime, timed_lines}
use Rattle.wst_run.proofs.NotedLemmas.{shown_alone}
use Rattle.wst_run.proofs.sending_noted.send_timed.Goals as goal

pub returns : goal.returns
returns g c =
    let held : Device = record {
      failed = true;
      old = g.W.Write.contents (inner_of c.args.writer.now);
      new = g.W.Write.contents (inner_of c.into_inner-2.result.now);
    } in
    let shown = watched (λ o. timed_lines InTime (λ w. g.W.Write.contents (inner_of w.now)) o) c.new-output.result
    c.send_to_target-exit.new.writer in (
      c.send_to_target-exit.result,
      shown,
      held,
      c.send_to_target-exit.ensures,
      refl,
      shown_alone c.args.plan.now.time c.args.plan.now.heads shown held c.requires.time c.requires.heads
          (λ is. ap (λ o. timed_lines InTime (λ w. g.W.Write.contents (inner_of w.now)) o) c.new-output.ensures.holds
          ∙ c.of.ensures.begun is)
          (λ lines known. c.into_inner-2.ensures lines
          (ap (λ o. timed_lines InTime (λ w. g.W.Write.contents (inner_of w.now)) o) c.into_inner.ensures ∙ known)),
      inl refl,
    )
