-- More bytes got in a turn are told: the lines of the frames that they complete, or a beginning of these.
use Rattle.std.proofs.Common.{◌∙◌, ◌∷◌, ◌++◌, [], ap, append_assoc, sym}
use Rattle.std.proofs.lemmas.Result.{err_from_is_err_and}
use Rattle.ws_frame.specs.FrameStreaming.{is_of_a_write}
use Rattle.ws_lines.specs.TurnLines.{bytes_in, lines_in, got_by_tester}
use Rattle.ws_lines.proofs.Tellings.{begins_got, certain_of_begun, got_is_told, may_end, may_end_so}
use Rattle.ws_lines.proofs.transcript_lines.TranscriptLines.got_in_turn.Goals as goal

pub returns-in_err-take : goal.returns-in_err-take
returns-in_err-take g c = record {
  told = λ showing turns turn written h.
      let d = got_by_tester showing in
      let piece = c.args.piece.now in
      let (more, appends, (failed, begins)) = c.in_err-take.ensures.taken (bytes_in d (turns ++ turn ∷ [])) (lines_in d h.lines) h.got.shown in
      let certain = certain_of_begun d.source _ (bytes_in d (turns ++ turn ∷ []) ++ piece) (lines_in d h.lines) more (c.in_err-take.ensures.source ∙ h.got.source) begins in
      let p = err_from_is_err_and c.from_residual.result c.from_residual.ensures.1 in
      rw p.1 (more, appends, (failed ∙ sym (ap is_of_a_write p.2), begins_got showing c.args.self.now turns turn written piece (more ++ begins.more) (written ++ more) begins.more h certain (sym (append_assoc written more begins.more)), may_end_so showing.style _ p.0 p.2 (may_end showing.style _ _ h.got.kept c.in_err-take.ensures.memory)));
}

pub returns : goal.returns
returns g c = record {
  told = λ showing turns turn written h.
      let d = got_by_tester showing in
      let piece = c.args.piece.now in
      let (more, appends, (works, shown)) = c.in_ok-take.ensures.taken (bytes_in d (turns ++ turn ∷ [])) (lines_in d h.lines) h.got.shown in
      (more, appends, (works, got_is_told showing c.args.self.now c.take.new.self turns turn written piece more h c.in_ok-take.ensures.source c.in_ok-take.ensures.kept shown));
}
