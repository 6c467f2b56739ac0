-- Where the last line can't be written, a beginning of it was.
use Rattle.std.proofs.Common.{◌≡◌, ◌∙◌, Err, List, ℕ, Bool, ap, true, sym, subst}
use Rattle.std.specs.Prelude.{◌||◌}
use Rattle.std.proofs.lemmas.Result.{err_from_is_err_and}
use Rattle.ws_frame.specs.declared.frame_lines.FrameLines.{FrameLines}
use Rattle.ws_frame.specs.Devices.{HasBegun, watched}
use Rattle.ws_frame.specs.FrameStreaming.{EndsFrames}
use Rattle.ws_frame.specs.Streaming.{WritesAll}
use Rattle.ws_frame.proofs.EitherWay.{ends_whole}
use Rattle.ws_frame.proofs.frame_lines.FrameLines.end.Goals as goal

pub returns-in_err-write_whole-in-Whole-clause-ended : goal.returns-in_err-write_whole-in-Whole-clause-ended
returns-in_err-write_whole-in-Whole-clause-ended g c =
    let lines = c.in-Whole.lines in
    let output = watched g.W.Write.contents c.args.writer.now c.write_whole.new.writer in
    let begun = subst (λ (l : List ℕ). HasBegun l output) c.as_slice.ensures.bytes
    c.in_err-write_whole-in-Whole.ensures.begun in
    let failed : output.failed ≡ true =
    c.in_err-write_whole-in-Whole.ensures.failed ∙ ap (λ (b : Bool). b || true) c.requires.writer_works in
    let p = err_from_is_err_and c.from_residual-in_err-write_whole-in-Whole.result
    c.from_residual-in_err-write_whole-in-Whole.ensures.1 in
    let line = c.end_line-line.result in
    let writes : WritesAll line output (Err p.0) = (begun, failed) in
    rw p.1 (subst (λ (s : FrameLines). EndsFrames s output (Err p.0)) (sym c.in-Whole.is)
    (ends_whole lines output (Err p.0) line c.end_line-line.ensures.ended writes))
