-- Frame after frame of a piece: what was written and what waits are the lines of the frames so far.
use Rattle.std.proofs.Common.{arith, ◌≡◌, ◌∙◌, ◌+◌, ◌-◌, ◌<◌, ◌≤◌, ◌++◌, List, [], ℕ, Option, Some, None, length, take, drop, refl, sym, ap, append-nil, append_assoc, subst}
use Rattle.std.specs.Prelude.{IfSome}
use Rattle.std.proofs.lemmas.List.{take_all}
use Rattle.std.proofs.lemmas.Result.{err_from_is_err_and}
use Rattle.std.proofs.KnownBytes.{Appends-nil, Appends-trans}
use Rattle.ws_frame.specs.Devices.{watched}
use Rattle.ws_frame.specs.declared.showing.StreamEnd.TheVariants.{BadLengthAt}
use Rattle.ws_frame.proofs.Written.{rest_length}
use Rattle.ws_frame.proofs.Runs.{told_so, next_is, begins_so, left_so, whole_piece, more_of_piece, all_out, out_behind_two, end_told, end_begun, begins_left}
use Rattle.ws_frame.proofs.showing.Run.show_piece.Goals as goal

pub loop-at-init : goal.loop-at-init
loop-at-init g c = record {
  works = c.requires.writer_works;
  within = omega arith;
  source = refl;
  count = omega arith;
  told = λ taken written t. ([], Appends-nil _, told_so c.args.self.now taken (taken ++ []) written (written ++ []) t (sym (append-nil taken)) (sym (append-nil written)));
}

pub show_next-requires-clause-going : goal.show_next-requires-clause-going
show_next-requires-clause-going g c =
    let (taken, written, t) = c.requires.going in
    let (more, _, told) = c.loop-at.invariant.told taken written t in
    (taken ++ take c.loop-at.at c.args.piece.now, written ++ more, told)

pub returns-in_err-next-clause-shown : goal.returns-in_err-next-clause-shown
returns-in_err-next-clause-shown g c = λ taken written t.
    let piece = c.args.piece.now in
    let at = c.loop-at.at in
    let (more, appended, told) = c.loop-at.invariant.told taken written t in
    let (next, wrote, (failed, begins)) = c.in_err-next.ensures.shown (taken ++ take at piece) (written ++ more) told in
    let begun = begins_so c.show_next.new.self.source _ (taken ++ piece) _ (written ++ (more ++ next)) begins (whole_piece taken piece at) (append_assoc written more next) in
    let p = err_from_is_err_and c.from_residual.result c.from_residual.ensures.1 in
    rw p.1 (more ++ next, Appends-trans _ _ _ _ _ appended wrote, (failed, begun))

pub flush-requires : goal.flush-requires
flush-requires g c =
    let piece = c.args.piece.now in
    let at = c.loop-at.at in
    let (taken, written, t) = c.requires.going in
    let (more, appended, told) = c.loop-at.invariant.told taken written t in
    let shown = next_is c.loop-at.self c.show_next.new.self (take (length piece - at) (drop at piece)) (watched g.W.Write.contents c.loop-at.writer c.show_next.new.writer) c.in_ok-next.next None c.in-None.is c.in_ok-next.ensures.shown in
    let (next, wrote, (works, left)) = shown (taken ++ take at piece) (written ++ more) told in
    works

pub returns-in_err-flush-in-None-clause-shown : goal.returns-in_err-flush-in-None-clause-shown
returns-in_err-flush-in-None-clause-shown g c = λ taken written t.
    let piece = c.args.piece.now in
    let at = c.loop-at.at in
    let (more, appended, told) = c.loop-at.invariant.told taken written t in
    let shown = next_is c.loop-at.self c.show_next.new.self (take (length piece - at) (drop at piece)) (watched g.W.Write.contents c.loop-at.writer c.show_next.new.writer) c.in_ok-next.next None c.in-None.is c.in_ok-next.ensures.shown in
    let (next, wrote, (works, left)) = shown (taken ++ take at piece) (written ++ more) told in
    let (front, behind, flushed, failed, due) = c.in_err-flush-in-None.ensures.written in
    let new = c.show_next.new.self in
    let is_left = left_so new.source (BadLengthAt new.offset) _ (taken ++ piece) _ _ left (whole_piece taken piece at) refl in
    let begun = begins_left new.source (taken ++ piece) (((written ++ more) ++ next) ++ new.lines) (written ++ (more ++ (next ++ front))) behind new.offset is_left (out_behind_two written more next new.lines front behind due) in
    let p = err_from_is_err_and c.from_residual-in_err-flush-in-None.result c.from_residual-in_err-flush-in-None.ensures.1 in
    rw p.1 (more ++ (next ++ front), Appends-trans _ _ _ _ _ appended (Appends-trans _ _ _ _ _ wrote flushed), (failed, begun))

pub returns-in-None-clause-shown : goal.returns-in-None-clause-shown
returns-in-None-clause-shown g c = λ taken written t.
    let piece = c.args.piece.now in
    let at = c.loop-at.at in
    let (more, appended, told) = c.loop-at.invariant.told taken written t in
    let shown = next_is c.loop-at.self c.show_next.new.self (take (length piece - at) (drop at piece)) (watched g.W.Write.contents c.loop-at.writer c.show_next.new.writer) c.in_ok-next.next None c.in-None.is c.in_ok-next.ensures.shown in
    let (next, wrote, (works, left)) = shown (taken ++ take at piece) (written ++ more) told in
    let (w, flushed, flush_works, due) = c.in_ok-flush-in-None.ensures.written in
    let none = c.in_ok-flush-in-None.ensures.empty in
    let new = c.show_next.new.self in
    let is_left = left_so new.source (BadLengthAt new.offset) _ (taken ++ piece) (((written ++ more) ++ next) ++ new.lines) (written ++ (more ++ (next ++ w))) left (whole_piece taken piece at)
    (all_out written more next new.lines w c.flush.new.lines due none) in
    (more ++ (next ++ w), Appends-trans _ _ _ _ _ appended (Appends-trans _ _ _ _ _ wrote flushed), (flush_works, none, is_left))

pub loop-at-preserved : goal.loop-at-preserved
loop-at-preserved g c =
    let piece = c.args.piece.now in
    let at = c.loop-at.at in
    let used = c.in-Some.used in
    let rest = take (length piece - at) (drop at piece) in
    let new = c.show_next.new.self in
    let (taken0, written0, t0) = c.requires.going in
    let (more0, appended0, told0) = c.loop-at.invariant.told taken0 written0 t0 in
    let shown = next_is c.loop-at.self new rest (watched g.W.Write.contents c.loop-at.writer c.show_next.new.writer) c.in_ok-next.next (Some used) c.in-Some.is c.in_ok-next.ensures.shown in
    let (next0, wrote0, (works, _)) = shown (taken0 ++ take at piece) (written0 ++ more0) told0 in
    let uses : (0 < used) × (used ≤ length rest) × (new.taken ≡ c.loop-at.self.taken + used) =
    subst (λ (o : Option ℕ). IfSome o (λ u. (0 < u) × (u ≤ length rest) × (new.taken ≡ c.loop-at.self.taken + u))) c.in-Some.is c.in_ok-next.ensures.used in
    record {
      works = works;
      within = rest_length at used piece c.loop-at.invariant.within uses.1;
      source = c.in_ok-next.ensures.source ∙ c.loop-at.invariant.source;
      count = omega (arith, uses.2, c.loop-at.invariant.count);
      told = λ taken written t.
          let (more, appended, told) = c.loop-at.invariant.told taken written t in
          let (next, wrote, (_, after)) = shown (taken ++ take at piece) (written ++ more) told in
          (more ++ next, Appends-trans _ _ _ _ _ appended wrote, told_so new _ (taken ++ take (at + used) piece) _ (written ++ (more ++ next)) after (more_of_piece taken piece at used) (append_assoc written more next));
    }

pub returns-in_err-flush-clause-shown : goal.returns-in_err-flush-clause-shown
returns-in_err-flush-clause-shown g c = λ taken written t.
    let piece = c.args.piece.now in
    let self = c.loop-at.self in
    let (more, appended, told) = c.loop-at.invariant.told taken written t in
    let (front, behind, flushed, failed, due) = c.in_err-flush.ensures.written in
    let begun = end_begun self.source taken piece written more self.lines front behind self.offset c.loop-at.at self.partial told.so_far c.loop-at-test.false due in
    let p = err_from_is_err_and c.from_residual-in_err-flush.result c.from_residual-in_err-flush.ensures.1 in
    rw p.1 (more ++ front, Appends-trans _ _ _ _ _ appended flushed, (failed, begun))

pub returns-clause-shown : goal.returns-clause-shown
returns-clause-shown g c = λ taken written t.
    let piece = c.args.piece.now in
    let self = c.loop-at.self in
    let (more, appended, told) = c.loop-at.invariant.told taken written t in
    let (w, flushed, works, due) = c.in_ok-flush.ensures.written in (
      more ++ w,
      Appends-trans _ _ _ _ _ appended flushed,
      (
        works,
        c.in_ok-flush.ensures.empty,
        record {
          count = told.count ∙ ap (λ (l : List ℕ). length (taken ++ l)) (take_all c.loop-at.at piece c.loop-at-test.false);
          so_far = end_told self.source taken piece written more self.lines w c.flush-2.new.lines self.offset c.loop-at.at self.partial told.so_far c.loop-at-test.false due;
        },
      ),
    )
