-- Of a capture in format 1 the lines behind the first are joined; in format 2 the text is what is written.
use Rattle.std.proofs.Common.{◌≡◌, ◌≢◌, codes, rules}
use Rattle.ws_frame.specs.Devices.{watched}
use Rattle.ws_scripts.specs.Captures2.{written_capture2}
use Rattle.ws_capture_text.proofs.Joined.{joined_is_written, no_line_is_written, text_is_written}
use Rattle.ws_rooms.proofs.Waiting.{writes_same, writes_whole}
use Rattle.ws_capture_text.proofs.writing.write_as_capture2.Goals as goal
use Rattle.ws_capture_text.proofs.writing.write_as_capture2.Goals.{in-Some+else-eq, in_default}

pub returns-then-eq : goal.returns-then-eq
returns-then-eq g c = λ capture is.
    let first = c.in-Some.first.now in
    let same : first ≡ codes "wst-capture 1" = search rules in
    let (lines, are, e, written) =
    joined_is_written capture c.args.text.now first c.in-Some.lines.now is c.in-Some.ensures.0 c.in-Some.ensures.1
    same in
    writes_same _ (written_capture2 capture)
    (watched g.W.Write.contents c.args.writer.now c.write_joined.new.writer) c.write_joined.result written
    (c.write_joined.ensures lines are e)

pub returns : goal.returns
returns g c = λ capture is.
    let text = c.args.text.now in
    let written : text ≡ written_capture2 capture = elim c.match-cut_line.branch [
      | in-Some+else-eq w ↦
          let first = w.in-Some.first.now in
          let other : first ≢ codes "wst-capture 1" = search rules in
          text_is_written capture text first w.in-Some.lines.now is w.in-Some.ensures.0 w.in-Some.ensures.1 other
      | in_default w ↦ no_line_is_written capture text is w.in_default.ensures
    ] in
    writes_same text (written_capture2 capture)
    (watched g.W.Write.contents c.args.writer.now c.write_whole.new.writer) c.write_whole.result written
    (writes_whole text _ _ _ _ c.write_whole.result c.write_whole.ensures.written c.write_whole.ensures.begun
    c.write_whole.ensures.failed c.requires)
