-- Where a write fails, a beginning of the lines was written.
use Rattle.std.proofs.Common.{◌∙◌, ap, sym, subst}
use Rattle.std.proofs.lemmas.Result.{err_from_is_err_and}
use Rattle.ws_frame.specs.declared.frame_lines.FrameLines.{FrameLines}
use Rattle.ws_frame.specs.FrameStreaming.{StandsEitherWay, TakesMore, is_of_a_write}
use Rattle.ws_frame.specs.declared.frame_lines.FrameLines.TheVariants.{Whole}
use Rattle.ws_frame.specs.Devices.{watched}
use Rattle.ws_frame.proofs.EitherWay.{takes_whole}
use Rattle.ws_frame.proofs.frame_lines.FrameLines.take.Goals as goal

pub returns-in_err-take-in-Digits-clause-taken : goal.returns-in_err-take-in-Digits-clause-taken
returns-in_err-take-in-Digits-clause-taken g c = λ taken written t.
    let stands = subst (λ (s : FrameLines). StandsEitherWay s taken written) c.in-Digits.is t.stands in
    let (more, wrote, (failed, begins)) = c.in_err-take-in-Digits.ensures.shown taken written stands in
    let p = err_from_is_err_and c.from_residual.result c.from_residual.ensures.1 in
    rw p.1 (more, wrote, (failed ∙ sym (ap is_of_a_write p.2), begins))

pub returns-in-Whole-clause-taken : goal.returns-in-Whole-clause-taken
returns-in-Whole-clause-taken g c =
    let new = c.write_piece.new.stream in
    let piece = c.args.piece.now in
    let output = watched g.W.Write.contents c.args.writer.now c.write_piece.new.writer in
    let result = c.write_piece.result in
    subst (λ (s : FrameLines). TakesMore s (Whole new) piece output result) (sym c.in-Whole.is)
    (takes_whole c.in-Whole.lines new piece output result c.write_piece.ensures.written)
