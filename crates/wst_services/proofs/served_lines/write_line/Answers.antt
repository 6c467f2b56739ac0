-- The line was written whole, or a beginning of it.
use Rattle.std.proofs.Common.{◌≡◌, ◌∙◌, false, sym, true}
use Rattle.ws_frame.specs.Devices.{watched}
use Rattle.ws_frame.specs.Watching.{has_failed}
use Rattle.wst_commands.specs.declared.exit.Exit.TheVariants.{Done}
use Rattle.wst_sockets.proofs.WrittenLemmas.{was_begun, was_written}
use Rattle.wst_services.proofs.served_lines.write_line.Goals as goal

pub returns-then-failed : goal.returns-then-failed
returns-then-failed g c =
    let broken : has_failed c.deliver_line.new.writer ≡ true = sym c.failed.ensures ∙ c.if-failed.true in
    let (failure, begun) = was_begun Done c.deliver_line.result c.args.line.now
    (watched g.W.Write.contents c.args.writer.now c.deliver_line.new.writer) c.deliver_line.ensures broken in
    λ worked. (broken, begun)

pub returns-else-failed : goal.returns-else-failed
returns-else-failed g c =
    let still : has_failed c.deliver_line.new.writer ≡ false = sym c.failed.ensures ∙ c.if-failed.false in (
      was_written Done c.deliver_line.result c.args.line.now
          (watched g.W.Write.contents c.args.writer.now c.deliver_line.new.writer) c.deliver_line.ensures still,
      still,
    )
