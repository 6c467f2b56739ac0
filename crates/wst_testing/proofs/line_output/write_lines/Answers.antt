-- The lines are written whole, and nothing of them is held back.
use Rattle.std.proofs.KnownBytes.{Appends-kept}
use Rattle.ws_frame.specs.Devices.{watched}
use Rattle.wst_testing.proofs.line_output.write_lines.Goals as goal

pub returns : goal.returns
returns g c =
    let first = c.args.writer.now in
    let mid = c.write_whole.new.writer in
    let last = c.flush.new.writer in (
      Appends-kept (watched g.W.Write.contents first mid).old (watched g.W.Write.contents first mid).new
          (watched g.W.Write.contents first last).new c.args.lines.now c.in_ok-write_whole.ensures.written
          c.flush.ensures.kept,
      c.in_ok-flush.ensures.works,
    )
