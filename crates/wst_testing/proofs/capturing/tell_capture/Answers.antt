-- The text is that of the capture, and the verdict that on its transcript.
use Rattle.std.proofs.Common.{rules, ◌≡◌}
use Rattle.ws_frame.specs.Devices.{watched}
use Rattle.ws_scripts.specs.Captures2.{written_capture2}
use Rattle.wst_commands.specs.Judge.{exit_of}
use Rattle.wst_commands.proofs.Delivering.{delivers_same}
use Rattle.wst_testing.specs.Testing.{run_capture}
use Rattle.wst_testing.proofs.capturing.tell_capture.Goals as goal

pub returns : goal.returns
returns g c =
    let capture = run_capture c.args.tested c.args.key c.args.transcript in
    let text : c.as_slice.result.now ≡ written_capture2 capture = search rules in (
      c.in_ok-verdict.verdict,
      c.in_ok-verdict.ensures,
      delivers_same c.exit_of.result (exit_of c.in_ok-verdict.verdict) c.as_slice.result.now (written_capture2 capture) c.deliver.result
          (watched g.W.Write.contents c.args.writer.now c.deliver.new.writer) c.exit_of.ensures text c.deliver.ensures,
    )
