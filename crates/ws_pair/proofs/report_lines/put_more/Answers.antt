-- What is due grows by the bytes, whether they wait or not.
use Rattle.std.proofs.Common.{rules, false, true, ◌≡◌}
use Rattle.ws_frame.specs.Watching.{has_failed, inner_of}
use Rattle.ws_pair.proofs.Putting.{due_failed, due_put}
use Rattle.ws_pair.proofs.report_lines.put_more.Goals as goal

pub returns-then-failed : goal.returns-then-failed
returns-then-failed g c = λ first due h.
    let failed : has_failed c.args.writer.now ≡ true = search rules in
    due_failed due c.args.bytes.now c.args.room.now _ _ _ failed h

pub returns : goal.returns
returns g c = λ first due h.
    let works : has_failed c.args.writer.now ≡ false = search rules in
    due_put due c.args.bytes.now c.args.room.now c.put.new.room _ _ _ (g.W.Write.contents (inner_of c.args.writer.now)) _ c.put.result works h c.put.ensures
