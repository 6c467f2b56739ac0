-- What came is told, and held.
use Rattle.std.proofs.Common.{◌∙◌, ◌++◌, ◌∷◌, List, ℕ, [], length, arith, sym, subst}
use Rattle.ws_frame.specs.Devices.{watched}
use Rattle.ws_tap.specs.declared.tap.Tap.{Tap}
use Rattle.ws_tap.specs.Told.{CameFrom}
use Rattle.ws_tap.specs.Standing.{CanTellMore, TellsPieceOf}
use Rattle.ws_tap.specs.Tapping.{StandsOn}
use Rattle.ws_tap.proofs.TapStands.{can_tell, held_behind, room_behind, tap_came}
use Rattle.ws_tap.proofs.tap.Tap.came.Goals as goal

pub came-told-requires-clause-stands : goal.came-told-requires-clause-stands
came-told-requires-clause-stands g c =
    let role = c.args.role in
    let self = c.args.self.now in
    let piece = c.args.piece in
    let (tapped, told, text, h) = c.requires.tapping in
    subst (λ (p : List ℕ). CanTellMore role (length p) self.lines) (sym c.as_slice.ensures)
    (can_tell role tapped told self text (length piece) h (omega (arith, c.requires.some, c.requires.fits))
    c.requires.fits)

pub hold-requires-clause-fits : goal.hold-requires-clause-fits
hold-requires-clause-fits g c =
    omega (arith, c.requires.fits, room_behind c.args.role c.args.self.now c.came-told.new.self)

pub returns : goal.returns
returns g c = record {
  told = λ tapped told text h.
      let role = c.args.role in
      let self = c.args.self.now in
      let piece = c.args.piece in
      let out = watched g.W.Write.contents c.args.output.now c.came-told.new.output in
      let lines = c.came-told.new.self in
      let tells = subst (λ (p : List ℕ). TellsPieceOf role self.lines lines p out c.came-told.result)
      c.as_slice.ensures c.came-told.ensures.told in
      let (more, wrote, stands) = tap_came role self lines piece out c.came-told.result tapped told text c.requires.some
      c.requires.fits tells h in (
        more,
        wrote,
        subst (λ (t : Tap). StandsOn tapped (told ++ CameFrom role piece ∷ []) t (text ++ more) out.failed
            c.came-told.result) (sym (c.hold.ensures.held ∙ held_behind role self lines piece)) stands,
      );
}
