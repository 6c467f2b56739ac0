-- More bytes of a stream: the lines that they make certain are written, and none follow a bad length.
use Rattle.std.proofs.Common.{arith, ◌++◌, List, ℕ, [], true, refl, sym, append-nil, subst}
use Rattle.std.proofs.lemmas.Result.{err_from_is_err_and}
use Rattle.std.proofs.KnownBytes.{Appends-nil, Appends-trans}
use Rattle.ws_frame.specs.Devices.{watched}
use Rattle.ws_frame.specs.Lines.{last_line, AreLinesOf}
use Rattle.ws_frame.specs.declared.showing.StreamEnd.TheVariants.{BadLengthAt}
use Rattle.ws_frame.specs.declared.showing.PieceEnd.TheVariants as piece_end
use Rattle.ws_frame.proofs.Partials.{AreBytes-append}
use Rattle.ws_frame.proofs.Runs.{piece_is}
use Rattle.ws_frame.proofs.Streams.{bad_length_stays, going, stopped, shown_inside, shown_stopped, all_of_bad_length, begun_of_bad_length}
use Rattle.ws_frame.proofs.stream_lines.StreamLines.take.Goals as goal

pub returns-then-self-clause-shown : goal.returns-then-self-clause-shown
returns-then-self-clause-shown g c = λ taken written t.
    let self = c.args.self.now in
    let piece = c.args.piece.now in
    let (place, are) = stopped self.run self.stopped taken written c.if-self.true t.stands in
    let bytes = AreBytes-append taken piece t.are_bytes (λ i. omega (arith, c.type_inv.piece i)) in
    let on = subst (λ (t : List ℕ). AreLinesOf self.run.source (taken ++ piece) (BadLengthAt place) t) (sym (append-nil written)) (bad_length_stays self.run.source taken piece written place are) in
    ([], Appends-nil _, (c.requires.writer_works, shown_stopped self.run self.stopped (taken ++ piece) (written ++ []) place c.if-self.true bytes on))

pub returns-in_err-show_piece-clause-shown : goal.returns-in_err-show_piece-clause-shown
returns-in_err-show_piece-clause-shown g c = λ taken written t.
    let self = c.args.self.now in
    let (none, told) = going self.run self.stopped taken written c.if-self.false t.stands in
    let shown = c.in_err-show_piece.ensures.shown taken written told in
    let p = err_from_is_err_and c.from_residual.result c.from_residual.ensures.1 in
    rw p.1 shown

pub write_last_line-requires-clause-works : goal.write_last_line-requires-clause-works
write_last_line-requires-clause-works g c =
    let self = c.args.self.now in
    let (taken, written, t, small) = c.requires.room in
    let (none, told) = going self.run self.stopped taken written c.if-self.false t.stands in
    let shown = piece_is self.run c.show_piece.new.self c.args.piece.now (watched g.W.Write.contents c.args.writer.now c.show_piece.new.writer) c.in_ok-show_piece.field-0 piece_end.BadLength c.in-BadLength.is c.in_ok-show_piece.ensures.shown in
    let (more, wrote, (works, empty, left)) = shown taken written told in
    works

pub write_last_line-requires-clause-empty : goal.write_last_line-requires-clause-empty
write_last_line-requires-clause-empty g c =
    let self = c.args.self.now in
    let (taken, written, t, small) = c.requires.room in
    let (none, told) = going self.run self.stopped taken written c.if-self.false t.stands in
    let shown = piece_is self.run c.show_piece.new.self c.args.piece.now (watched g.W.Write.contents c.args.writer.now c.show_piece.new.writer) c.in_ok-show_piece.field-0 piece_end.BadLength c.in-BadLength.is c.in_ok-show_piece.ensures.shown in
    let (more, wrote, (works, empty, left)) = shown taken written told in
    empty

pub returns-in_err-write_last_line-in-BadLength-clause-shown : goal.returns-in_err-write_last_line-in-BadLength-clause-shown
returns-in_err-write_last_line-in-BadLength-clause-shown g c = λ taken written t.
    let self = c.args.self.now in
    let piece = c.args.piece.now in
    let new = c.show_piece.new.self in
    let (none, told) = going self.run self.stopped taken written c.if-self.false t.stands in
    let shown = piece_is self.run new piece (watched g.W.Write.contents c.args.writer.now c.show_piece.new.writer) c.in_ok-show_piece.field-0 piece_end.BadLength c.in-BadLength.is c.in_ok-show_piece.ensures.shown in
    let (more, wrote, (works, empty, left)) = shown taken written told in
    let ((front, behind, e, begun), failed) = c.in_err-write_last_line-in-BadLength.ensures.written in
    let p = err_from_is_err_and c.from_residual-in_err-write_last_line-in-BadLength.result c.from_residual-in_err-write_last_line-in-BadLength.ensures.1 in
    rw p.1 (more ++ front, Appends-trans _ _ _ _ _ wrote begun, (failed, begun_of_bad_length new.source (taken ++ piece) written more front behind new.offset left e))

pub returns-in-Inside-clause-shown : goal.returns-in-Inside-clause-shown
returns-in-Inside-clause-shown g c = λ taken written t.
    let self = c.args.self.now in
    let piece = c.args.piece.now in
    let new = c.show_piece.new.self in
    let (none, told) = going self.run self.stopped taken written c.if-self.false t.stands in
    let shown = piece_is self.run new piece (watched g.W.Write.contents c.args.writer.now c.show_piece.new.writer) c.in_ok-show_piece.field-0 piece_end.Inside c.in-Inside.is c.in_ok-show_piece.ensures.shown in
    let (more, wrote, (works, empty, after)) = shown taken written told in
    (more, wrote, (works, shown_inside new self.stopped (taken ++ piece) (written ++ more) c.if-self.false empty after))

pub returns-in_ok-write_last_line-in-BadLength-clause-shown : goal.returns-in_ok-write_last_line-in-BadLength-clause-shown
returns-in_ok-write_last_line-in-BadLength-clause-shown g c = λ taken written t.
    let self = c.args.self.now in
    let piece = c.args.piece.now in
    let new = c.show_piece.new.self in
    let (none, told) = going self.run self.stopped taken written c.if-self.false t.stands in
    let shown = piece_is self.run new piece (watched g.W.Write.contents c.args.writer.now c.show_piece.new.writer) c.in_ok-show_piece.field-0 piece_end.BadLength c.in-BadLength.is c.in_ok-show_piece.ensures.shown in
    let (more, wrote, (works, empty, left)) = shown taken written told in
    let (last, still) = c.in_ok-write_last_line-in-BadLength.ensures.written in
    let bytes = AreBytes-append taken piece t.are_bytes (λ i. omega (arith, c.type_inv.piece i)) in (
      more ++ last_line new.source (BadLengthAt new.offset),
      Appends-trans _ _ _ _ _ wrote last,
      (still, shown_stopped _ true (taken ++ piece) (written ++ (more ++ last_line new.source (BadLengthAt new.offset))) new.offset refl bytes (all_of_bad_length new.source (taken ++ piece) written more new.offset left)),
    )
