-- A cut waits, or is told, or it is not.
use Rattle.std.proofs.Common.{◌≡◌, ◌∙◌, List, ℕ, ap, refl, subst, sym, Ok, Err}
use Rattle.std.proofs.KnownBytes.{Appends-nil}
use Rattle.std.proofs.lemmas.Result.{err_from_is_err_and}
use Rattle.ws_frame.specs.Devices.{watched}
use Rattle.ws_frame.specs.FrameStreaming.{EndsFrames}
use Rattle.ws_frame.specs.declared.writing_whole.WriteFault.{WriteFault}
use Rattle.ws_tap.specs.declared.release.Release.TheVariants.{Awaited, Told, Never}
use Rattle.ws_tap.specs.declared.telling.SideStage.TheVariants as side
use Rattle.ws_tap.specs.declared.release.Release.{Release}
use Rattle.ws_tap.specs.Telling.{CanTellFrames, kept_after}
use Rattle.ws_tap.proofs.TellLemmas.{can_end_at, ends_at, ends_by, ends_in_default}
use Rattle.ws_tap.proofs.telling.tell_end.Goals as goal

pub end_line-requires : goal.end_line-requires
end_line-requires g c =
    let (taken, written, stands, small) = subst (λ (r : Release). CanTellFrames 0 c.in-Frames.lines r) c.in-Awaited.is
    (can_end_at (side.Frames c.in-Frames.lines) c.args.stage.now c.args.release.now c.in-Frames.is c.requires.stands) in
    (taken, written, stands)

pub end-requires-clause-going : goal.end-requires-clause-going
end-requires-clause-going g c =
    let (taken, written, stands, small) = subst (λ (r : Release). CanTellFrames 0 c.in-Frames.lines r) c.in-Told.is
    (can_end_at (side.Frames c.in-Frames.lines) c.args.stage.now c.args.release.now c.in-Frames.is c.requires.stands) in
    (taken, written, stands)

pub returns-in_default : goal.returns-in_default
returns-in_default g c = record {
  told = ends_in_default c.args.stage.now c.args.release.now
      (watched g.W.Write.contents c.args.writer.now c.args.writer.now) c.in_default.not-Frames
      c.requires.writer_works (Appends-nil _);
}

pub returns-in-Awaited : goal.returns-in-Awaited
returns-in-Awaited g c =
    let kept = c.in-Awaited.kept in
    let line = c.end_line.result in
    let out = watched g.W.Write.contents c.args.writer.now c.args.writer.now in
    let is : c.push.new.self ≡ kept_after kept line = c.push.ensures
    ∙ ap (λ (t : List ℕ). kept_after kept t) c.as_slice.ensures.bytes in record {
      told = ends_at (side.Frames c.in-Frames.lines) c.args.stage.now (side.Frames c.end_line.new.lines)
          (record { old = c.args.release.now; new = Awaited c.push.new.self }) out (Ok tt) c.in-Frames.is (
            c.end_line.new.lines,
            refl,
            c.end_line.ensures.source,
            ends_by c.in-Frames.lines (Awaited kept) c.args.release.now (Awaited c.push.new.self) out (Ok tt)
                c.in-Awaited.is (
                  c.requires.writer_works,
                  Appends-nil _,
                  (line, c.end_line.ensures.ended, ap Awaited is),
                ),
          );
    }

pub returns-in_err-end-in-Told : goal.returns-in_err-end-in-Told
returns-in_err-end-in-Told g c =
    let out = watched g.W.Write.contents c.args.writer.now c.end.new.writer in
    let p = err_from_is_err_and c.from_residual.result c.from_residual.ensures.1 in
    rw p.1 (record {
      told = ends_at (side.Frames c.in-Frames.lines) c.args.stage.now (side.Frames c.end.new.self)
          (record { old = c.args.release.now; new = c.args.release.now }) out (Err p.0) c.in-Frames.is (
            c.end.new.self,
            refl,
            c.in_err-end-in-Told.ensures.source,
            ends_by c.in-Frames.lines Told c.args.release.now c.args.release.now out (Err p.0) c.in-Told.is (
              c.in-Told.is,
              subst (λ (w : WriteFault). EndsFrames c.in-Frames.lines out (Err w)) (sym p.2)
                  c.in_err-end-in-Told.ensures.ended,
            ),
          );
    })

pub returns-in_ok-end-in-Told : goal.returns-in_ok-end-in-Told
returns-in_ok-end-in-Told g c =
    let out = watched g.W.Write.contents c.args.writer.now c.end.new.writer in record {
      told = ends_at (side.Frames c.in-Frames.lines) c.args.stage.now (side.Frames c.end.new.self)
          (record { old = c.args.release.now; new = c.args.release.now }) out (Ok tt) c.in-Frames.is (
            c.end.new.self,
            refl,
            c.in_ok-end-in-Told.ensures.source,
            ends_by c.in-Frames.lines Told c.args.release.now c.args.release.now out (Ok tt) c.in-Told.is
                (c.in-Told.is, c.in_ok-end-in-Told.ensures.ended),
          );
    }

pub returns-in-Never : goal.returns-in-Never
returns-in-Never g c =
    let out = watched g.W.Write.contents c.args.writer.now c.args.writer.now in record {
      told = ends_at (side.Frames c.in-Frames.lines) c.args.stage.now (side.Frames c.in-Frames.lines)
          (record { old = c.args.release.now; new = c.args.release.now }) out (Ok tt) c.in-Frames.is (
            c.in-Frames.lines,
            refl,
            refl,
            ends_by c.in-Frames.lines Never c.args.release.now c.args.release.now out (Ok tt) c.in-Never.is
                (c.requires.writer_works, Appends-nil _, c.in-Never.is),
          );
    }
