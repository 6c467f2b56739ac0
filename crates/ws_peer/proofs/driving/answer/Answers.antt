-- A piece fed to an echo: its replies are written, or a beginning of them, or none where memory ran out in the piece.
use Rattle.std.proofs.Common.{rules, List, ℕ, ◌++◌, sym, refl, subst, take, drop, take-append-drop}
use Rattle.std.proofs.KnownBytes.{Appends-nil}
use Rattle.ws_peer.specs.InnerSteps.{IsEchoOfCall}
use Rattle.ws_echo.proofs.Echoing.{piece_answered}
use Rattle.ws_peer.proofs.driving.answer.Goals as goal

pub returns-in-Err : goal.returns-in-Err
returns-in-Err g c call bytes put e is =
    let piece = c.args.piece.now in
    let used = c.in-Err.field-0.used in
    let after = c.pass.new.out.items in (
      c.requires,
      Appends-nil _,
      take used piece,
      drop used piece,
      after,
      sym (take-append-drop used piece),
      piece_answered c.echo_laws.ensures call.role call.limits call.key c.args.key c.args.echo.now c.pass.new.self bytes put (take used piece) c.clear.new.self.items after after _ _ e is c.in-Err.ensures.taken.1 c.clear.ensures.items refl,
    )

pub returns-in-Ok-write_whole : goal.returns-in-Ok-write_whole
returns-in-Ok-write_whole g c call bytes put e is = (
  search rules,
  c.as_slice.result.now,
  c.in-Ok-write_whole.ensures.written,
  piece_answered c.echo_laws.ensures call.role call.limits call.key c.args.key c.args.echo.now c.pass.new.self bytes put c.args.piece.now c.clear.new.self.items c.pass.new.out.items c.as_slice.result.now _ _ e is
      c.in-Ok.ensures.taken.1 c.clear.ensures.items c.as_slice.ensures.value,
)

pub returns-in-Err-write_whole : goal.returns-in-Err-write_whole
returns-in-Err-write_whole g c call bytes put e is =
    let (front, more, parts, begun) = c.in-Err-write_whole.ensures.begun in
    let stands : IsEchoOfCall call (bytes ++ c.args.piece.now) (put ++ c.as_slice.result.now) c.pass.new.self =
    piece_answered c.echo_laws.ensures call.role call.limits call.key c.args.key c.args.echo.now c.pass.new.self bytes put c.args.piece.now c.clear.new.self.items c.pass.new.out.items c.as_slice.result.now _ _ e is
    c.in-Ok.ensures.taken.1 c.clear.ensures.items c.as_slice.ensures.value in (
      search rules,
      front,
      more,
      begun,
      subst (λ (l : List ℕ). IsEchoOfCall call (bytes ++ c.args.piece.now) (put ++ l) c.pass.new.self) parts stands,
    )
