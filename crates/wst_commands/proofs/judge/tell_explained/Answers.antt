-- The lines below a verdict Loose or Fail are those that explain it.
use Rattle.ws_frame.specs.Devices.{watched}
use Rattle.wst_commands.proofs.Told.{fail_told, loose_told}
use Rattle.wst_commands.proofs.judge.tell_explained.Goals as goal

pub returns-in-Loose : goal.returns-in-Loose
returns-in-Loose g c =
    loose_told c.args.tested c.args.expected c.args.transcript.now c.in-Ok.explanation c.last_lines-lines.result
    c.in-Loose.field-0 c.tell_lines.result
    (watched g.W.Write.contents c.args.writer.now c.tell_lines.new.writer) c.in-Ok.ensures c.in-Loose.is
    c.last_lines-lines.ensures c.tell_lines.ensures

pub returns : goal.returns
returns g c =
    fail_told c.args.tested c.args.expected c.args.transcript.now c.in-Ok.explanation c.last_lines-lines-in-Fail.result
    c.in-Fail.field-0 c.tell_lines-in-Fail.result
    (watched g.W.Write.contents c.args.writer.now c.tell_lines-in-Fail.new.writer) c.in-Ok.ensures c.in-Fail.is
    c.last_lines-lines-in-Fail.ensures c.tell_lines-in-Fail.ensures
