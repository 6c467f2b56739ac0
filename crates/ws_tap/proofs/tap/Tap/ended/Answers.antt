-- The direction has ended, and that is told.
use Rattle.std.proofs.Common.{◌≡◌, ◌∙◌, ◌++◌, ◌∷◌, [], arith, sym, ap, subst}
use Rattle.ws_frame.specs.Devices.{watched}
use Rattle.ws_tap.specs.declared.tap.Tap.{Tap}
use Rattle.ws_tap.specs.declared.tap_lines.TapLines.{TapLines}
use Rattle.ws_tap.specs.Told.{EndedBy}
use Rattle.ws_tap.specs.Piping.{with_end_come}
use Rattle.ws_tap.specs.Standing.{CanTellMore, TellsEnded}
use Rattle.ws_tap.specs.Tapping.{StandsEnded, pipe_from}
use Rattle.ws_tap.proofs.TapStands.{can_tell, lines_at, tap_ended}
use Rattle.ws_tap.proofs.tap.Tap.ended.Goals as goal

pub ended-requires-clause-stands : goal.ended-requires-clause-stands
ended-requires-clause-stands g c =
    let role = c.args.role in
    let self = c.args.self.now in
    let (tapped, told, text, h) = c.requires.tapping in
    let same : c.end.new.self.lines ≡ self.lines = ap (λ (t : Tap). t.lines) c.end.ensures.ended
    ∙ lines_at role self (with_end_come (pipe_from role self)) in
    subst (λ (l : TapLines). CanTellMore role 0 l) (sym same)
    (can_tell role tapped told self text 0 h c.requires.room (omega arith))

pub returns : goal.returns
returns g c = record {
  told = λ tapped told text h.
      let role = c.args.role in
      let self = c.args.self.now in
      let out = watched g.W.Write.contents c.args.output.now c.ended.new.output in
      let lines = c.ended.new.self in
      let same : c.end.new.self.lines ≡ self.lines = ap (λ (t : Tap). t.lines) c.end.ensures.ended
      ∙ lines_at role self (with_end_come (pipe_from role self)) in
      let tells = subst (λ (l : TapLines). TellsEnded role l lines out c.ended.result) same c.ended.ensures.told in
      let (more, wrote, stands) = tap_ended role self lines out c.ended.result tapped told text c.requires.room tells h
      in (
        more,
        wrote,
        subst (λ (t : Tap). StandsEnded tapped (told ++ EndedBy role ∷ []) (record t { lines = lines })
            (text ++ more) out.failed c.ended.result) (sym c.end.ensures.ended) stands,
      );
}
