-- What is held ends with the lines.
use Rattle.std.proofs.Common.{ap, refl, true, ◌∙◌}
use Rattle.ws_frame.specs.Devices.{Device, watched}
use Rattle.ws_frame.specs.Watching.{inner_of}
use Rattle.wst_noted.specs.HeadWriting.{behind_heads}
use Rattle.wst_run.proofs.NotedLemmas.{shown_headed}
use Rattle.wst_run.proofs.sending_noted.send_headed.Goals as goal

pub returns : goal.returns
returns g c =
    let held : Device = record {
      failed = true;
      old = g.W.Write.contents (inner_of c.args.writer.now);
      new = g.W.Write.contents (inner_of c.end-ended.result.0.now);
    } in
    let shown = watched (λ o. behind_heads (λ w. g.W.Write.contents (inner_of w.now)) o) c.new-output.result
    c.send_to_target-exit.new.writer in (
      c.send_to_target-exit.result,
      shown,
      held,
      c.send_to_target-exit.ensures,
      refl,
      shown_headed c.args.plan.now.time c.args.plan.now.heads shown held c.requires.time
          (λ first is. ap (λ o. behind_heads (λ w. g.W.Write.contents (inner_of w.now)) o) c.new-output.ensures.holds
          ∙ c.of.ensures.begun first is)
          (λ lines known. c.end-ended.ensures lines
          (ap (λ o. behind_heads (λ w. g.W.Write.contents (inner_of w.now)) o) c.into_inner.ensures ∙ known)),
      c.exit_with.ensures,
    )
