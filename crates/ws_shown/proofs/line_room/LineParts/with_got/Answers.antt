-- The lines of bytes more wait behind the others.
use Rattle.std.proofs.Common.{◌++◌, ◌∷◌, [], Some, ap, length, sym}
use Rattle.ws_lines.specs.Telling.{with_got}
use Rattle.ws_shown.proofs.RoomLemmas.{got_waits, made_at, room_to_get}
use Rattle.ws_shown.proofs.line_room.LineParts.with_got.Goals as goal

pub got-requires-clause-room : goal.got-requires-clause-room
got-requires-clause-room c =
    room_to_get c.args.showing c.args.self c.deref_mut.result.now (length c.args.piece.now)
    (made_at c.args.showing c.args.self.lines _ _ c.deref_mut.ensures.value c.in_ok-lines.ensures) c.requires
    c.in-Some.ensures.fits

pub returns-in-Ok-clause-got : goal.returns-in-Ok-clause-got
returns-in-Ok-clause-got c = λ turns turn taken h.
    let places = c.in-Some.ensures in
    got_waits c.args.showing c.args.self _ c.deref_mut.result.now c.got.new.self turns turn c.args.piece.now taken _ _ _
    (made_at c.args.showing c.args.self.lines _ _ c.deref_mut.ensures.value c.in_ok-lines.ensures)
    (λ l written told. told) (ap (λ v. Some v.items) c.new-room.ensures.holds)
    (ap (λ v. Some v.items) (sym c.into_inner.ensures)) c.in-Ok.ensures places.turns places.sent places.got h

pub returns-in-Ok-clause-sound : goal.returns-in-Ok-clause-sound
returns-in-Ok-clause-sound c =
    let (turns, turn, taken, h) = c.requires in
    (turns ++ with_got turn c.args.piece.now ∷ [], taken, returns-in-Ok-clause-got c turns turn taken h)
