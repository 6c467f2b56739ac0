-- What is got before any turn has begun stands in the first, which begins with it.
use Rattle.std.proofs.Common.{◌∙◌, ◌∷◌, ◌++◌, [], List, ℕ, ap, append_assoc, arith, length, subst, sym}
use Rattle.std.proofs.lemmas.Result.{err_from_is_err_and}
use Rattle.std.proofs.KnownBytes.{Appends-trans}
use Rattle.ws_wire.specs.Header.{AreBytes}
use Rattle.ws_frame.specs.FrameStreaming.{is_of_a_write}
use Rattle.ws_frame.specs.Watching.{has_failed}
use Rattle.ws_lines.specs.Telling.{AreTold, begun_turn, got_first}
use Rattle.ws_lines.proofs.Directions.{length-one-more}
use Rattle.ws_lines.proofs.Tellings.{first_room, may_end_so}
use Rattle.ws_lines.proofs.Wholes.{begins_first}
use Rattle.ws_lines.proofs.transcript_lines.TranscriptLines.got.Goals as goal

pub begin_turn-requires-clause-room : goal.begin_turn-requires-clause-room
begin_turn-requires-clause-room g c =
    let (showing, written, h, fits) = first_room (length c.args.piece.now) c.args.self.now (omega (arith, c.if-self-eq0.true)) c.requires.room in
    (showing, [], written, h, omega arith, omega arith)

pub returns-in_err-begin_turn : goal.returns-in_err-begin_turn
returns-in_err-begin_turn g c = record {
  told = λ showing turns turn written h. absurd (omega (arith, c.if-self-eq0.true, h.count, length-one-more turns turn));
  first = λ showing written h.
      let are : AreBytes c.args.piece.now = λ i. omega (arith, c.type_inv.piece i) in
      let (more, appends, (failed, begins, may)) = c.in_err-begin_turn.ensures.told showing [] written h in
      let p = err_from_is_err_and c.from_residual.result c.from_residual.ensures.1 in
      rw p.1 (more, appends, (failed ∙ sym (ap is_of_a_write p.2), begins_first showing c.args.piece.now (written ++ more) are begins, may_end_so showing.style _ p.0 p.2 may));
}

pub got_in_turn-requires-clause-writer_works : goal.got_in_turn-requires-clause-writer_works
got_in_turn-requires-clause-writer_works g c =
    let (showing, written, h, fits) = first_room (length c.args.piece.now) c.args.self.now (omega (arith, c.if-self-eq0.true)) c.requires.room in
    let (more, appends, (works, after)) = c.in_ok-begin_turn.ensures.told showing [] written h in
    works

pub got_in_turn-requires-clause-room : goal.got_in_turn-requires-clause-room
got_in_turn-requires-clause-room g c =
    let (showing, written, h, fits) = first_room (length c.args.piece.now) c.args.self.now (omega (arith, c.if-self-eq0.true)) c.requires.room in
    let (more, appends, (works, after)) = c.in_ok-begin_turn.ensures.told showing [] written h in
    (showing, begun_turn [] ∷ [], written ++ more, after, omega (arith, fits))

pub returns-in_ok-begin_turn : goal.returns-in_ok-begin_turn
returns-in_ok-begin_turn g c = record {
  told = λ showing turns turn written h. absurd (omega (arith, c.if-self-eq0.true, h.count, length-one-more turns turn));
  first = λ showing written h.
      let (more, appends, (works, after)) = c.in_ok-begin_turn.ensures.told showing [] written h in
      let (next, appended, told) = c.got_in_turn.ensures.told showing [] (begun_turn []) (written ++ more) after in (
        more ++ next,
        Appends-trans _ _ _ _ _ appends appended,
        subst (λ (t : List ℕ). AreTold showing c.got_in_turn.new.self (got_first c.args.piece.now ∷ []) t
            (has_failed c.got_in_turn.new.writer) c.got_in_turn.result) (append_assoc written more next) told,
      );
}

pub returns-else-self-eq0 : goal.returns-else-self-eq0
returns-else-self-eq0 g c = record {
  told = c.got_in_turn-else-self-eq0.ensures.told;
  first = λ showing written h. absurd (c.if-self-eq0.false h.count);
}
