-- What is delivered is the line of the case, with what stands below it.
use Rattle.std.proofs.Common.{rules, ◌≡◌, refl}
use Rattle.ws_frame.specs.Devices.{watched}
use Rattle.wst_testing.specs.Testing.{test_line}
use Rattle.wst_commands.proofs.Delivering.{delivers_same}
use Rattle.wst_testing.proofs.testing.tell_case.Goals as goal

pub returns : goal.returns
returns g c =
    let line : c.as_bytes.result.now ≡ test_line (c.args.case.now, c.args.outcome.now) = search rules in
    delivers_same c.args.done c.args.done c.as_bytes.result.now (test_line (c.args.case.now, c.args.outcome.now)) c.deliver.result
    (watched g.W.Write.contents c.args.writer.now c.deliver.new.writer) refl line c.deliver.ensures
