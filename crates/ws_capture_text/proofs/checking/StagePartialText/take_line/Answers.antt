-- A line has one kind, which tells how far the capture is read then; or it has none, or may not stand there.
use Rattle.std.proofs.Common.{sym}
use Rattle.ws_capture_text.proofs.StageSteps.{line_taken, no_kind_taken, none_taken}
use Rattle.ws_capture_text.proofs.checking.StagePartialText.take_line.Goals as goal

pub returns-in_default : goal.returns-in_default
returns-in_default c = λ e value more told. no_kind_taken c.args.self c.args.line.now c.in_default.ensures value more told

pub returns-in-Some-after : goal.returns-in-Some-after
returns-in-Some-after c =
    line_taken c.args.self c.in-Some-after.stage c.in-Some.kind c.args.line.now c.in-Some.ensures
    (sym c.in-Some-after.ensures)

pub returns-in-None : goal.returns-in-None
returns-in-None c = λ e value more told.
    none_taken c.args.self c.in-Some.kind c.args.line.now c.in-Some.ensures (sym c.in-None.ensures) value more told
