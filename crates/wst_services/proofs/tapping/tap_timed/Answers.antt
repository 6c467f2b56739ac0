-- What is shown stands behind times.
use Rattle.std.proofs.Common.{ap, refl, true, ◌∙◌}
use Rattle.ws_frame.specs.Devices.{Device, watched}
use Rattle.ws_frame.specs.Watching.{inner_of}
use Rattle.wst_noted.specs.TimedLines.{InLine, timed_lines}
use Rattle.wst_services.proofs.tapping.tap_timed.Goals as goal

pub returns : goal.returns
returns g c =
    let behind : Device = record {
      failed = true;
      old = g.W.Write.contents (inner_of c.args.writer.now);
      new = g.W.Write.contents (inner_of c.into_inner-2.result.now);
    } in
    let shown = watched (λ o. timed_lines InLine (λ w. g.W.Write.contents (inner_of w.now)) o) c.new-output.result
    c.tap_at-ended.new.writer in (
      c.tap_at-ended.result,
      shown,
      behind,
      c.tap_at-ended.ensures,
      refl,
      (λ is. (
        ap (λ o. timed_lines InLine (λ w. g.W.Write.contents (inner_of w.now)) o) c.new-output.ensures.holds
            ∙ c.of.ensures.begun is,
        (λ lines known. c.into_inner-2.ensures lines
            (ap (λ o. timed_lines InLine (λ w. g.W.Write.contents (inner_of w.now)) o) c.into_inner.ensures ∙ known)),
      )),
      c.timed_end.ensures,
    )
