-- The lines that a piece makes certain were written, or a beginning of them.
use Rattle.std.proofs.Common.{arith, rules, ◌≡◌, ◌∙◌, ◌++◌, [], List, ℕ, Bool, ap, true, false, sym, subst}
use Rattle.std.specs.Prelude.{◌||◌}
use Rattle.std.proofs.lemmas.Result.{err_from_is_err_and}
use Rattle.std.proofs.KnownBytes.{Appends-nil}
use Rattle.ws_frame.specs.declared.source.Source.{Source}
use Rattle.ws_frame.specs.Devices.{HasWritten, watched}
use Rattle.ws_frame.specs.FrameStreaming.{is_of_a_write}
use Rattle.ws_frame.specs.InnerShowing.{BeginsLines}
use Rattle.ws_frame.proofs.EitherWay.{none_of_piece, some_of_piece}
use Rattle.ws_frame.proofs.frame_lines.write_piece.Goals as goal

pub returns-in_err-take-clause-written : goal.returns-in_err-take-clause-written
returns-in_err-take-clause-written g c = λ taken written t.
    let old = c.args.stream.now in
    let piece = c.args.piece.now in
    let are =
    none_of_piece old.source taken piece written t.are_bytes (λ i. omega (arith, c.type_inv.piece i)) t.certain in
    let p = err_from_is_err_and c.from_residual.result c.from_residual.ensures.1 in
    rw p.1 (
      [],
      Appends-nil _,
      (
        c.requires.works ∙ sym (ap is_of_a_write p.2),
        subst (λ (s : Source). BeginsLines s (taken ++ piece) (written ++ [])) (sym c.take.ensures.source) are,
      ),
    )

pub returns-in_err-write_whole-clause-written : goal.returns-in_err-write_whole-clause-written
returns-in_err-write_whole-clause-written g c = λ taken written t.
    let piece = c.args.piece.now in
    let (more, all, put) = c.in_ok-take.ensures.put taken written t in
    let same : c.as_slice.result.now ≡ more = search rules in
    let (front, behind, parts, begun) = c.in_err-write_whole.ensures.begun in
    let p = err_from_is_err_and c.from_residual-in_err-write_whole.result
    c.from_residual-in_err-write_whole.ensures.1 in
    let output = watched g.W.Write.contents c.args.writer.now c.write_whole.new.writer in
    let failed : output.failed ≡ true =
    c.in_err-write_whole.ensures.failed ∙ ap (λ (b : Bool). b || true) c.requires.works in
    rw p.1 (
      front,
      begun,
      (
        failed ∙ sym (ap is_of_a_write p.2),
        some_of_piece c.take.new.self.source (taken ++ piece) written more front behind put.certain (sym same ∙ parts),
      ),
    )

pub returns-clause-written : goal.returns-clause-written
returns-clause-written g c = λ taken written t.
    let (more, all, put) = c.in_ok-take.ensures.put taken written t in
    let same : c.as_slice.result.now ≡ more = search rules in
    let output = watched g.W.Write.contents c.args.writer.now c.write_whole.new.writer in (
      more,
      subst (λ (l : List ℕ). HasWritten l output) same c.in_ok-write_whole.ensures.written,
      (c.in_ok-write_whole.ensures.failed ∙ ap (λ (b : Bool). b || false) c.requires.works, put),
    )
