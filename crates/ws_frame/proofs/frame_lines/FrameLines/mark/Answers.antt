-- The lines that were written stay those of the marked stream.
use Rattle.std.proofs.Common.{sym, subst}
use Rattle.ws_frame.specs.declared.frame_lines.FrameLines.{FrameLines}
use Rattle.ws_frame.specs.declared.frame_lines.FrameLines.TheVariants.{Digits, Whole}
use Rattle.ws_frame.specs.declared.payload_lines.PayloadLines.{PayloadLines}
use Rattle.ws_frame.specs.declared.stream_lines.StreamLines.{StreamLines}
use Rattle.ws_frame.specs.FrameStreaming.{MarksAhead}
use Rattle.ws_frame.proofs.MarksAhead.{digits_marked, payloads_marked}
use Rattle.ws_frame.proofs.frame_lines.FrameLines.mark.Goals as goal

pub returns-in-Digits-clause-marked : goal.returns-in-Digits-clause-marked
returns-in-Digits-clause-marked c =
    let lines = c.in-Digits.lines in
    subst (λ (s : FrameLines). MarksAhead s (Digits c.mark.new.self) c.args.place) (sym c.in-Digits.is)
    (subst (λ (l : StreamLines). MarksAhead (Digits lines) (Digits l) c.args.place) (sym c.mark.ensures.marked)
    (digits_marked lines c.args.place))

pub returns-in-Whole-clause-marked : goal.returns-in-Whole-clause-marked
returns-in-Whole-clause-marked c =
    let lines = c.in-Whole.lines in
    let new = c.mark-in-Whole.new.self in
    subst (λ (s : FrameLines). MarksAhead s (Whole new) c.args.place) (sym c.in-Whole.is)
    (subst (λ (l : PayloadLines). MarksAhead (Whole lines) (Whole l) c.args.place) (sym c.mark-in-Whole.ensures.marked)
    (payloads_marked lines c.args.place))
