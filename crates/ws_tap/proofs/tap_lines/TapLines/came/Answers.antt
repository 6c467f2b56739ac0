-- The bytes behind a head are told by a second call.
use Rattle.std.proofs.Common.{◌≡◌, ◌∙◌, ◌-◌, ◌++◌, ◌∷◌, [], length, take, drop, sym, ap, arith, subst}
use Rattle.std.proofs.lemmas.List.{take_rest}
use Rattle.std.proofs.lemmas.Result.{err_from_is_err_and}
use Rattle.ws_frame.specs.Devices.{watched}
use Rattle.ws_frame.specs.declared.show_fault.ShowFault.{ShowFault}
use Rattle.ws_frame.specs.FrameStreaming.{MayEndBy, is_of_a_write}
use Rattle.ws_tap.specs.Told.{CameFrom}
use Rattle.ws_tap.specs.Texts.{both_sent, sent_of}
use Rattle.ws_tap.specs.Standing.{with_bytes, with_sides_sent}
use Rattle.ws_tap.proofs.Passages.{ended_of}
use Rattle.ws_tap.proofs.TapLemmas.{sent_err, sent_ok}
use Rattle.ws_tap.proofs.ToldLemmas.{came_first, came_in_part, came_in_part_twice, came_twice, came_whole, going_on}
use Rattle.ws_tap.proofs.ToldLemmas.{is_going, rest_fits, written_twice}
use Rattle.ws_tap.proofs.tap_lines.TapLines.came.Goals as goal

pub sent-requires-then-used-piece-clause-output_works : goal.sent-requires-then-used-piece-clause-output_works
sent-requires-then-used-piece-clause-output_works g c =
    let m = c.requires.stands in
    let f = sent_ok c.args.role m.tapped m.stands.answered c.args.self.now c.sent.new.self (both_sent m.told) m.parts
    c.args.piece.now (watched g.W.Write.contents c.args.output.now c.sent.new.output) c.in_ok-used.used m.stands.stands
    (is_going c.args.role m.told m.going) c.in_ok-used.ensures.told in
    f.works

pub sent-requires-then-used-piece-clause-stands : goal.sent-requires-then-used-piece-clause-stands
sent-requires-then-used-piece-clause-stands g c =
    let m = c.requires.stands in
    let role = c.args.role in
    let piece = c.args.piece.now in
    let used = c.in_ok-used.used in
    let f = sent_ok role m.tapped m.stands.answered c.args.self.now c.sent.new.self (both_sent m.told) m.parts piece
    (watched g.W.Write.contents c.args.output.now c.sent.new.output) used m.stands.stands
    (is_going role m.told m.going) c.in_ok-used.ensures.told in record {
      tapped = m.tapped;
      told = m.told ++ CameFrom role (take used piece) ∷ [];
      parts = m.parts ++ f.more;
      stands = came_first role m.tapped m.told c.args.self.now c.sent.new.self m.parts piece
          (watched g.W.Write.contents c.args.output.now c.sent.new.output) used m.stands f;
      going = ended_of role m.told (take used piece) ∙ m.going;
      fits = rest_fits role m.told piece (take (length piece - used) (drop used piece)) used
          (take_rest piece used) f.few
          m.fits;
    }

pub returns-in_err-used : goal.returns-in_err-used
returns-in_err-used g c = record {
  told = λ tapped told parts h going.
      let role = c.args.role in
      let piece = c.args.piece.now in
      let out = watched g.W.Write.contents c.args.output.now c.sent.new.output in
      let f = sent_err role tapped h.answered c.args.self.now c.sent.new.self
      (both_sent told) parts piece out c.in_err-used.field-0.0 h.stands
      (is_going role told going) c.in_err-used.ensures.told in
      let p = err_from_is_err_and c.from_residual.result c.from_residual.ensures.1 in
      rw p.1 (
        f.more,
        f.wrote,
        (
          f.failed ∙ sym (ap is_of_a_write p.2),
          subst (λ (x : ShowFault). MayEndBy tapped.style x) (sym p.2) f.fair,
          came_in_part role tapped told c.args.self.now parts piece out c.in_err-used.field-0.0 h f,
        ),
      );
}

pub returns-in_err-sent : goal.returns-in_err-sent
returns-in_err-sent g c = record {
  told = λ tapped told parts h going.
      let role = c.args.role in
      let piece = c.args.piece.now in
      let used = c.in_ok-used.used in
      let rest = take (length piece - used) (drop used piece) in
      let first = watched g.W.Write.contents c.args.output.now c.sent.new.output in
      let second = watched g.W.Write.contents c.sent.new.output c.sent-then-used-piece.new.output in
      let f = sent_ok role tapped h.answered c.args.self.now c.sent.new.self (both_sent told) parts piece first used
      h.stands (is_going role told going) c.in_ok-used.ensures.told in
      let g = sent_err role tapped f.next c.sent.new.self c.sent-then-used-piece.new.self
      (with_sides_sent role (both_sent told) (with_bytes (sent_of role (both_sent told)) (take used piece)))
      (parts ++ f.more) rest second c.in_err-sent.field-0.0 f.stands
      (going_on role (both_sent told) (take used piece) (is_going role told going)) c.in_err-sent.ensures.told in
      let p = err_from_is_err_and c.from_residual-in_err-sent.result c.from_residual-in_err-sent.ensures.1 in
      rw p.1 (
        f.more ++ g.more,
        written_twice _ _ _ f.more g.more f.wrote g.wrote,
        (
          g.failed ∙ sym (ap is_of_a_write p.2),
          subst (λ (x : ShowFault). MayEndBy tapped.style x) (sym p.2) g.fair,
          came_in_part_twice role tapped told c.args.self.now c.sent.new.self parts piece rest first second used
              c.in_err-sent.field-0.0 h f g
              (take_rest piece used) c.if-used-piece.true,
        ),
      );
}

pub returns-in_ok-sent : goal.returns-in_ok-sent
returns-in_ok-sent g c = record {
  told = λ tapped told parts h going.
      let role = c.args.role in
      let piece = c.args.piece.now in
      let used = c.in_ok-used.used in
      let later = c.in_ok-sent.field-0 in
      let rest = take (length piece - used) (drop used piece) in
      let first = watched g.W.Write.contents c.args.output.now c.sent.new.output in
      let second = watched g.W.Write.contents c.sent.new.output c.sent-then-used-piece.new.output in
      let f = sent_ok role tapped h.answered c.args.self.now c.sent.new.self (both_sent told) parts piece first used
      h.stands (is_going role told going) c.in_ok-used.ensures.told in
      let g = sent_ok role tapped f.next c.sent.new.self c.sent-then-used-piece.new.self
      (with_sides_sent role (both_sent told) (with_bytes (sent_of role (both_sent told)) (take used piece)))
      (parts ++ f.more) rest second later f.stands
      (going_on role (both_sent told) (take used piece) (is_going role told going)) c.in_ok-sent.ensures.told in (
        f.more ++ g.more,
        written_twice _ _ _ f.more g.more f.wrote g.wrote,
        (
          g.works,
          came_twice role tapped told c.args.self.now c.sent.new.self c.sent-then-used-piece.new.self parts piece rest
              first second used later h f g (take_rest piece used) c.if-used-piece.true,
        ),
      );
}

pub returns-else-used-piece : goal.returns-else-used-piece
returns-else-used-piece g c = record {
  told = λ tapped told parts h going.
      let role = c.args.role in
      let piece = c.args.piece.now in
      let used = c.in_ok-used.used in
      let out = watched g.W.Write.contents c.args.output.now c.sent.new.output in
      let f = sent_ok role tapped h.answered c.args.self.now c.sent.new.self (both_sent told) parts piece out used
      h.stands (is_going role told going) c.in_ok-used.ensures.told in
      let whole : used ≡ length piece = omega (arith, f.few, c.if-used-piece.false) in (
        f.more,
        f.wrote,
        (
          f.works,
          came_whole role tapped told c.args.self.now c.sent.new.self parts piece out used h f whole,
        ),
      );
}
