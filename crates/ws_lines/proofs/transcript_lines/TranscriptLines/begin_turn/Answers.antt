-- A turn that begins is told: its line, and the lines of the frames that its bytes complete, or a beginning of these.
use Rattle.std.specs.Prelude.{◌||◌, true}
use Rattle.std.proofs.Common.{arith, Bool, ◌∙◌, ◌+◌, ◌++◌, List, ℕ, sym, ap, subst}
use Rattle.std.proofs.lemmas.Result.{err_from_is_err_and}
use Rattle.std.proofs.KnownBytes.{Appends-trans}
use Rattle.ws_wire.specs.Header.{AreBytes}
use Rattle.ws_frame.specs.Devices.{watched, HasWritten}
use Rattle.ws_frame.specs.FrameStreaming.{is_of_a_write}
use Rattle.ws_lines.specs.TurnLines.{bytes_in, lines_in, sent_by_tester, turn_line}
use Rattle.ws_lines.proofs.Directions.{some_more}
use Rattle.ws_lines.proofs.Texts.{regroup, regroup_front}
use Rattle.ws_lines.proofs.Tellings.{begins_turn, certain_of_begun, may_end, may_end_so, turn_is_told, write_may_end}
use Rattle.ws_lines.proofs.transcript_lines.TranscriptLines.begin_turn.Goals as goal

pub returns-in_err-write_whole : goal.returns-in_err-write_whole
returns-in_err-write_whole g c = record {
  told = λ showing turns written h.
      let d = sent_by_tester showing in
      let self = c.args.self.now in
      let sent = c.args.sent.now in
      let line = turn_line (self.turns + 1) in
      let are : AreBytes sent = λ i. omega (arith, c.type_inv.sent i) in
      let (next, certain) = some_more d turns h.lines sent h.sent.shown.are_bytes are h.one_each h.sent.stand in
      let (front, behind, e, appends) = c.in_err-write_whole.ensures.begun in
      let parts = ap (λ (t : List ℕ). written ++ (t ++ next)) (sym (c.as_slice.ensures ∙ c.of_turn.ensures) ∙ e) ∙ regroup_front written front behind next in
      let p = err_from_is_err_and c.from_residual.result c.from_residual.ensures.1 in
      rw p.1 (front, appends, (c.in_err-write_whole.ensures.failed ∙ ap (λ (b : Bool). b || true) c.requires.writer_works ∙ sym (ap is_of_a_write p.2), begins_turn showing self turns written sent next (written ++ front) (behind ++ next) h certain parts, write_may_end showing.style p.0 p.2));
}

pub returns-in_err-take : goal.returns-in_err-take
returns-in_err-take g c = record {
  told = λ showing turns written h.
      let d = sent_by_tester showing in
      let self = c.args.self.now in
      let sent = c.args.sent.now in
      let line = turn_line (self.turns + 1) in
      let wrote = subst (λ (t : List ℕ). HasWritten t (watched g.W.Write.contents c.args.writer.now c.write_whole.new.writer)) (c.as_slice.ensures ∙ c.of_turn.ensures) c.in_ok-write_whole.ensures.written in
      let (more, appends, (failed, begins)) = c.in_err-take.ensures.taken (bytes_in d turns) (lines_in d h.lines) h.sent.shown in
      let certain = certain_of_begun d.source _ (bytes_in d turns ++ sent) (lines_in d h.lines) more (c.in_err-take.ensures.source ∙ h.sent.source) begins in
      let p = err_from_is_err_and c.from_residual-in_err-take.result c.from_residual-in_err-take.ensures.1 in
      rw p.1 (line ++ more, Appends-trans _ _ _ _ _ wrote appends, (failed ∙ sym (ap is_of_a_write p.2), begins_turn showing self turns written sent (more ++ begins.more) (written ++ (line ++ more)) begins.more h certain (regroup written line more begins.more), may_end_so showing.style _ p.0 p.2 (may_end showing.style _ _ h.sent.kept c.in_err-take.ensures.memory)));
}

pub returns : goal.returns
returns g c = record {
  told = λ showing turns written h.
      let d = sent_by_tester showing in
      let self = c.args.self.now in
      let sent = c.args.sent.now in
      let line = turn_line (self.turns + 1) in
      let wrote = subst (λ (t : List ℕ). HasWritten t (watched g.W.Write.contents c.args.writer.now c.write_whole.new.writer)) (c.as_slice.ensures ∙ c.of_turn.ensures) c.in_ok-write_whole.ensures.written in
      let (more, appends, (works, shown)) = c.in_ok-take.ensures.taken (bytes_in d turns) (lines_in d h.lines) h.sent.shown in
      (line ++ more, Appends-trans _ _ _ _ _ wrote appends, (works, turn_is_told showing self c.take.new.self turns written sent more h c.in_ok-take.ensures.source c.in_ok-take.ensures.kept shown));
}
