-- Lines of frames wait, or are told, or are not.
use Rattle.std.proofs.Common.{length, refl, subst, sym, Ok, Err}
use Rattle.std.proofs.KnownBytes.{Appends-nil}
use Rattle.std.proofs.lemmas.Result.{err_from_is_err_and}
use Rattle.ws_frame.specs.Devices.{watched}
use Rattle.ws_frame.specs.FrameStreaming.{TakesMore}
use Rattle.ws_frame.specs.declared.show_fault.ShowFault.{ShowFault}
use Rattle.ws_tap.specs.declared.release.Release.{Release}
use Rattle.ws_tap.specs.declared.release.Release.TheVariants.{Awaited, Told, Never}
use Rattle.ws_tap.specs.Telling.{CanTellFrames, LacksFairly}
use Rattle.ws_tap.proofs.TellLemmas.{lacks_fairly, tells_by}
use Rattle.ws_tap.proofs.telling.tell_frames.Goals as goal

pub keep_lines-requires : goal.keep_lines-requires
keep_lines-requires g c = subst (λ (r : Release). CanTellFrames (length c.args.piece.now) c.args.lines.now r)
    c.in-Awaited.is c.requires.stands

pub take-requires-clause-room : goal.take-requires-clause-room
take-requires-clause-room g c = subst (λ (r : Release). CanTellFrames (length c.args.piece.now) c.args.lines.now r)
    c.in-Told.is c.requires.stands

pub returns-in_err-keep_lines-in-Awaited : goal.returns-in_err-keep_lines-in-Awaited
returns-in_err-keep_lines-in-Awaited g c =
    let p = err_from_is_err_and c.from_residual.result c.from_residual.ensures.1 in
    let after = Awaited c.keep_lines.new.kept in
    let out = watched g.W.Write.contents c.args.writer.now c.args.writer.now in
    rw p.1 (record {
      told = (
        record { source = c.keep_lines.ensures.source; keeps = c.keep_lines.ensures.keeps },
        tells_by c.args.lines.now c.keep_lines.new.lines (Awaited c.in-Awaited.kept) c.args.release.now after
            c.args.piece.now out (Err p.0) c.in-Awaited.is (
              c.requires.writer_works,
              Appends-nil _,
              p.2,
              c.in_err-keep_lines-in-Awaited.ensures.memory,
            ),
      );
    })

pub returns-in_ok-keep_lines-in-Awaited : goal.returns-in_ok-keep_lines-in-Awaited
returns-in_ok-keep_lines-in-Awaited g c = record {
  told = (
    record { source = c.keep_lines.ensures.source; keeps = c.keep_lines.ensures.keeps },
    tells_by c.args.lines.now c.keep_lines.new.lines (Awaited c.in-Awaited.kept) c.args.release.now
        (Awaited c.keep_lines.new.kept) c.args.piece.now
        (watched g.W.Write.contents c.args.writer.now c.args.writer.now) (Ok tt) c.in-Awaited.is (
          c.requires.writer_works,
          Appends-nil _,
          (c.keep_lines.new.kept, refl, c.in_ok-keep_lines-in-Awaited.ensures.kept),
        ),
  );
}

pub returns-in_err-take-in-Told : goal.returns-in_err-take-in-Told
returns-in_err-take-in-Told g c =
    let lines = c.args.lines.now in
    let piece = c.args.piece.now in
    let out = watched g.W.Write.contents c.args.writer.now c.take.new.writer in
    let p = err_from_is_err_and c.from_residual-in_err-take-in-Told.result
    c.from_residual-in_err-take-in-Told.ensures.1 in
    rw p.1 (record {
      told = (
        record { source = c.in_err-take-in-Told.ensures.source; keeps = c.in_err-take-in-Told.ensures.kept },
        tells_by lines c.take.new.self Told c.args.release.now c.args.release.now piece out (Err p.0) c.in-Told.is (
          c.in-Told.is,
          subst (λ (f : ShowFault). TakesMore lines c.take.new.self piece out (Err f)) (sym p.2)
              c.in_err-take-in-Told.ensures.taken,
          subst (λ (f : ShowFault). LacksFairly lines (Err f)) (sym p.2)
              (lacks_fairly lines c.in_err-take-in-Told.field-0.0 c.in_err-take-in-Told.ensures.memory),
        ),
      );
    })

pub returns-in_ok-take-in-Told : goal.returns-in_ok-take-in-Told
returns-in_ok-take-in-Told g c = record {
  told = (
    record { source = c.in_ok-take-in-Told.ensures.source; keeps = c.in_ok-take-in-Told.ensures.kept },
    tells_by c.args.lines.now c.take.new.self Told c.args.release.now c.args.release.now c.args.piece.now
        (watched g.W.Write.contents c.args.writer.now c.take.new.writer) (Ok tt) c.in-Told.is
        (c.in-Told.is, c.in_ok-take-in-Told.ensures.taken, tt),
  );
}

pub returns-in-Never : goal.returns-in-Never
returns-in-Never g c = record {
  told = (
    record { source = refl; keeps = refl },
    tells_by c.args.lines.now c.args.lines.now Never c.args.release.now c.args.release.now c.args.piece.now
        (watched g.W.Write.contents c.args.writer.now c.args.writer.now) (Ok tt) c.in-Never.is
        (c.requires.writer_works, Appends-nil _, c.in-Never.is),
  );
}
