-- What waits is told where the server switches, or a beginning of it.
use Rattle.std.proofs.Common.{◌≡◌, ◌∙◌, ◌||◌, Bool, true, List, ℕ, ap, sym, subst}
use Rattle.std.proofs.lemmas.Result.{err_from_is_err_and}
use Rattle.ws_frame.specs.Devices.{watched, HasBegun}
use Rattle.ws_tap.specs.declared.release.Answer.{Answer}
use Rattle.ws_tap.specs.declared.release.Release.{Release}
use Rattle.ws_tap.specs.declared.release.Release.TheVariants.{Awaited}
use Rattle.ws_tap.specs.Telling.{released_text}
use Rattle.ws_tap.proofs.release.Release.hear.Goals as goal

pub returns-in_err-write_whole-in-Switches : goal.returns-in_err-write_whole-in-Switches
returns-in_err-write_whole-in-Switches g c =
    let kept = c.in-Awaited.kept in
    let out = watched g.W.Write.contents c.args.writer.now c.write_whole.new.writer in
    let p = err_from_is_err_and c.from_residual.result c.from_residual.ensures.1 in
    let text : kept.text ≡ released_text c.args.self.now c.args.answer =
    sym (ap (λ (r : Release). released_text r c.args.answer) c.in-Awaited.is
    ∙ ap (λ (a : Answer). released_text (Awaited kept) a) c.in-Switches.is) in
    rw p.1 (record {
      heard = (
        c.in_err-write_whole-in-Switches.ensures.failed ∙ ap (λ (b : Bool). b || true) c.requires.writer_works,
        subst (λ (t : List ℕ). HasBegun t out) (c.as_slice.ensures ∙ text)
            c.in_err-write_whole-in-Switches.ensures.begun,
      );
    })
