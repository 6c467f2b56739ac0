-- One line more is put as it is joined; where no line is left, all is put.
use Rattle.std.proofs.Common.{◌++◌, None}
use Rattle.ws_capture_text.specs.InnerJoining.{joined_lines}
use Rattle.ws_capture_text.proofs.LineAfterLine.{all_gone, goes_further, goes_wrong}
use Rattle.ws_rooms.proofs.Waiting.{stops}
use Rattle.ws_capture_text.proofs.joining.put_lines.Goals as goal

pub returns-in_err-last-clause-written : goal.returns-in_err-last-clause-written
returns-in_err-last-clause-written g c = λ all are e.
    let due = c.args.room.now ++ joined_lines None all in
    stops due _ _ _ _ c.from_residual.result c.in_err-last.field-0.0 c.from_residual.ensures.1
    (goes_wrong due c.loop-line.room c.loop-line.last c.in-Some.line.now c.loop-line.rest.now c.in-Some.after.now _ _ _
    (c.loop-line.invariant.1 all are e) c.in-Some.ensures.0 c.in-Some.ensures.1 c.in_err-last.ensures.written.0)
    c.in_err-last.ensures.written.1

pub loop-line-preserved : goal.loop-line-preserved
loop-line-preserved g c = (
  c.in_ok-last.ensures.written.2,
  λ all are e.
      goes_further (c.args.room.now ++ joined_lines None all) c.loop-line.room c.put_line.new.room c.loop-line.last
      c.in_ok-last.last c.in-Some.line.now c.loop-line.rest.now c.in-Some.after.now _ _ _ _
      (c.loop-line.invariant.1 all are e) c.in-Some.ensures.0 c.in-Some.ensures.1 c.in_ok-last.ensures.written
      c.in_ok-last.ensures.mark,
)

pub returns-clause-written : goal.returns-clause-written
returns-clause-written g c = λ all are e.
    let (written, wrote, f) =
    all_gone (c.args.room.now ++ joined_lines None all) c.loop-line.room c.loop-line.last c.loop-line.rest.now _ _
    (c.loop-line.invariant.1 all are e) c.in_default.ensures in
    (written, wrote, c.loop-line.invariant.0, f)
