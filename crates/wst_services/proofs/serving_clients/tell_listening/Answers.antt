-- The line is delivered, or memory ran out for it and nothing is written.
use Rattle.std.proofs.Common.{◌≡◌, ◌∙◌, refl}
use Rattle.ws_frame.specs.Devices.{watched}
use Rattle.wst_services.specs.Serve.{listening_line}
use Rattle.wst_commands.proofs.Delivering.{delivers_same}
use Rattle.wst_commands.specs.declared.exit.Exit.TheVariants.{Done}
use Rattle.wst_services.proofs.serving_clients.tell_listening.Goals as goal

pub returns : goal.returns
returns g c =
    let line : c.as_slice.result.now ≡ listening_line c.args.address.now = c.as_slice.ensures.value ∙ c.in_ok-line.ensures in
    delivers_same Done Done c.as_slice.result.now (listening_line c.args.address.now) c.deliver_line.result
    (watched g.W.Write.contents c.args.writer.now c.deliver_line.new.writer) refl line c.deliver_line.ensures
