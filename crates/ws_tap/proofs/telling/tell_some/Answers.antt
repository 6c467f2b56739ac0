-- Nothing is told before a head is whole; then its line is, and what its answer releases; then its frames.
use Rattle.std.proofs.Common.{◌∙◌, ◌||◌, Bool, true, List, ℕ, length, inl, inr, refl, sym, ap, subst, Ok}
use Rattle.std.proofs.Common.{Err}
use Rattle.std.proofs.KnownBytes.{Appends-nil, Appends-trans}
use Rattle.std.proofs.lemmas.Result.{err_from_is_err_and}
use Rattle.ws_frame.specs.Devices.{watched, HasBegun, HasWritten}
use Rattle.ws_frame.specs.Lines.{takes_memory}
use Rattle.ws_frame.specs.declared.source.DataStyle.{DataStyle}
use Rattle.ws_frame.specs.declared.show_fault.ShowFault.{ShowFault}
use Rattle.ws_tap.specs.declared.telling.SideStage.TheVariants as side
use Rattle.ws_tap.specs.Telling.{ReleaseStep, TellsFrames, released_text}
use Rattle.ws_tap.proofs.Sides.{looked_found, looked_in}
use Rattle.ws_tap.proofs.TellLemmas.{begins_both, begins_second, can_tell_at, tells_at}
use Rattle.ws_tap.proofs.telling.tell_some.Goals as goal

pub look_for_head-requires : goal.look_for_head-requires
look_for_head-requires g c = can_tell_at c.args.end.role (length c.args.piece.now) (side.Head c.in-Head.room)
    c.args.stage.now c.args.release.now c.in-Head.is c.requires.stands

pub tell_frames-requires-clause-stands : goal.tell_frames-requires-clause-stands
tell_frames-requires-clause-stands g c = can_tell_at c.args.end.role (length c.args.piece.now)
    (side.Frames c.in-Frames.lines) c.args.stage.now c.args.release.now c.in-Frames.is c.requires.stands

pub returns-in_default : goal.returns-in_default
returns-in_default g c =
    let role = c.args.end.role in
    let tapped = c.args.end.tapped in
    let piece = c.args.piece.now in
    let room = c.look_for_head.new.room in
    let out = watched g.W.Write.contents c.args.writer.now c.args.writer.now in record {
      told = tells_at role tapped (side.Head c.in-Head.room) c.args.stage.now (side.Head room)
          (record { old = c.args.release.now; new = c.args.release.now }) piece out (Ok (length piece)) c.in-Head.is
          (λ bytes l. inl (
            c.requires.writer_works,
            refl,
            Appends-nil _,
            refl,
            (
              room,
              refl,
              looked_in role tapped room bytes piece c.look_for_head.result c.in_default.is
                  (c.look_for_head.ensures bytes l),
            ),
          ));
    }

pub returns-in_err-write_whole-in-Head : goal.returns-in_err-write_whole-in-Head
returns-in_err-write_whole-in-Head g c =
    let role = c.args.end.role in
    let tapped = c.args.end.tapped in
    let piece = c.args.piece.now in
    let found = c.in-Some.found in
    let out = watched g.W.Write.contents c.args.writer.now c.write_whole.new.writer in
    let p = err_from_is_err_and c.from_residual.result c.from_residual.ensures.1 in
    rw p.1 (record {
      told = tells_at role tapped (side.Head c.in-Head.room) c.args.stage.now (side.Frames c.new.result)
          (record { old = c.args.release.now; new = c.args.release.now }) piece out (Err p.0) c.in-Head.is
          (λ bytes l. inr (record {
            found = found;
            lines = c.new.result;
            answer = c.answer_of-answer.result;
            is_found = looked_found role tapped c.look_for_head.new.room bytes piece c.look_for_head.result found
                c.in-Some.is (c.look_for_head.ensures bytes l);
            stage = refl;
            begun = record {
              source = c.new.ensures.source ∙ c.source.ensures.source;
              keeps = c.new.ensures.kept ∙ ap (λ (s : DataStyle). takes_memory s) c.source.ensures.style;
              shown = c.new.ensures.begun;
            };
            answers = c.answer_of-answer.ensures;
            told = (
              c.in_err-write_whole-in-Head.ensures.failed ∙ ap (λ (b : Bool). b || true) c.requires.writer_works,
              p.2,
              begins_both out found.line _
                  (subst (λ (t : List ℕ). HasBegun t out) c.as_slice.ensures
                  c.in_err-write_whole-in-Head.ensures.begun),
            );
          }));
    })

pub returns-in_err-hear-in-Head : goal.returns-in_err-hear-in-Head
returns-in_err-hear-in-Head g c =
    let role = c.args.end.role in
    let tapped = c.args.end.tapped in
    let piece = c.args.piece.now in
    let found = c.in-Some.found in
    let first = watched g.W.Write.contents c.args.writer.now c.write_whole.new.writer in
    let second = watched g.W.Write.contents c.write_whole.new.writer c.hear.new.writer in
    let out = watched g.W.Write.contents c.args.writer.now c.hear.new.writer in
    let (failed, begun) = c.in_err-hear-in-Head.ensures.heard in
    let p = err_from_is_err_and c.from_residual-in_err-hear-in-Head.result
    c.from_residual-in_err-hear-in-Head.ensures.1 in
    rw p.1 (record {
      told = tells_at role tapped (side.Head c.in-Head.room) c.args.stage.now (side.Frames c.new.result)
          (record { old = c.args.release.now; new = c.hear.new.self }) piece out (Err p.0) c.in-Head.is
          (λ bytes l. inr (record {
            found = found;
            lines = c.new.result;
            answer = c.answer_of-answer.result;
            is_found = looked_found role tapped c.look_for_head.new.room bytes piece c.look_for_head.result found
                c.in-Some.is (c.look_for_head.ensures bytes l);
            stage = refl;
            begun = record {
              source = c.new.ensures.source ∙ c.source.ensures.source;
              keeps = c.new.ensures.kept ∙ ap (λ (s : DataStyle). takes_memory s) c.source.ensures.style;
              shown = c.new.ensures.begun;
            };
            answers = c.answer_of-answer.ensures;
            told = (
              failed,
              p.2,
              begins_second second first.old found.line (released_text c.args.release.now c.answer_of-answer.result)
                  (subst (λ (t : List ℕ). HasWritten t first) c.as_slice.ensures
                  c.in_ok-write_whole-in-Head.ensures.written) begun,
            );
          }));
    })

pub returns-in_ok-hear-in-Head : goal.returns-in_ok-hear-in-Head
returns-in_ok-hear-in-Head g c =
    let role = c.args.end.role in
    let tapped = c.args.end.tapped in
    let piece = c.args.piece.now in
    let found = c.in-Some.found in
    let first = watched g.W.Write.contents c.args.writer.now c.write_whole.new.writer in
    let out = watched g.W.Write.contents c.args.writer.now c.hear.new.writer in
    let (works, is, wrote) = c.in_ok-hear-in-Head.ensures.heard in record {
      told = tells_at role tapped (side.Head c.in-Head.room) c.args.stage.now (side.Frames c.new.result)
          (record { old = c.args.release.now; new = c.hear.new.self }) piece out (Ok found.used) c.in-Head.is
          (λ bytes l. inr (record {
            found = found;
            lines = c.new.result;
            answer = c.answer_of-answer.result;
            is_found = looked_found role tapped c.look_for_head.new.room bytes piece c.look_for_head.result found
                c.in-Some.is (c.look_for_head.ensures bytes l);
            stage = refl;
            begun = record {
              source = c.new.ensures.source ∙ c.source.ensures.source;
              keeps = c.new.ensures.kept ∙ ap (λ (s : DataStyle). takes_memory s) c.source.ensures.style;
              shown = c.new.ensures.begun;
            };
            answers = c.answer_of-answer.ensures;
            told = (
              works,
              refl,
              is,
              Appends-trans _ _ _ found.line _
                  (subst (λ (t : List ℕ). HasWritten t first) c.as_slice.ensures
                  c.in_ok-write_whole-in-Head.ensures.written) wrote,
            );
          }));
    }

pub returns-in_err-tell_frames-in-Frames : goal.returns-in_err-tell_frames-in-Frames
returns-in_err-tell_frames-in-Frames g c =
    let lines = c.in-Frames.lines in
    let after = c.tell_frames.new.lines in
    let step : ReleaseStep = record { old = c.args.release.now; new = c.tell_frames.new.release } in
    let piece = c.args.piece.now in
    let out = watched g.W.Write.contents c.args.writer.now c.tell_frames.new.writer in
    let p = err_from_is_err_and c.from_residual-in_err-tell_frames-in-Frames.result
    c.from_residual-in_err-tell_frames-in-Frames.ensures.1 in
    rw p.1 (record {
      told = tells_at c.args.end.role c.args.end.tapped (side.Frames lines) c.args.stage.now (side.Frames after) step
          piece out (Err p.0) c.in-Frames.is (
            after,
            refl,
            subst (λ (f : ShowFault). TellsFrames lines after step piece out (Err f)) (sym p.2)
                c.in_err-tell_frames-in-Frames.ensures.told,
          );
    })

pub returns-in_ok-tell_frames-in-Frames : goal.returns-in_ok-tell_frames-in-Frames
returns-in_ok-tell_frames-in-Frames g c =
    let out = watched g.W.Write.contents c.args.writer.now c.tell_frames.new.writer in record {
      told = tells_at c.args.end.role c.args.end.tapped (side.Frames c.in-Frames.lines) c.args.stage.now
          (side.Frames c.tell_frames.new.lines)
          (record { old = c.args.release.now; new = c.tell_frames.new.release }) c.args.piece.now out
          (Ok (length c.args.piece.now)) c.in-Frames.is
          (c.tell_frames.new.lines, refl, (refl, c.in_ok-tell_frames-in-Frames.ensures.told));
    }
