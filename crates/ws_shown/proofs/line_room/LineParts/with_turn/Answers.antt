-- The lines of a turn more wait behind the others.
use Rattle.std.proofs.Common.{◌++◌, ◌∷◌, [], Some, ap, length, sym}
use Rattle.ws_lines.specs.Telling.{begun_turn}
use Rattle.ws_shown.proofs.RoomLemmas.{made_at, room_to_begin, turn_waits}
use Rattle.ws_shown.proofs.line_room.LineParts.with_turn.Goals as goal

pub begin_turn-requires-clause-room : goal.begin_turn-requires-clause-room
begin_turn-requires-clause-room c =
    let fits = c.in-Some.ensures.fits in
    room_to_begin c.args.showing c.args.self c.deref_mut.result.now (length c.args.sent.now)
    (made_at c.args.showing c.args.self.lines _ _ c.deref_mut.ensures.value c.in_ok-lines.ensures) c.requires fits.0
    fits.1

pub returns-in-Ok-clause-turn : goal.returns-in-Ok-clause-turn
returns-in-Ok-clause-turn c = λ turns taken h.
    let places = c.in-Some.ensures in
    turn_waits c.args.showing c.args.self _ c.deref_mut.result.now c.begin_turn.new.self turns c.args.sent.now taken _ _
    _ (made_at c.args.showing c.args.self.lines _ _ c.deref_mut.ensures.value c.in_ok-lines.ensures)
    (λ l written told. told) (ap (λ v. Some v.items) c.new-room.ensures.holds)
    (ap (λ v. Some v.items) (sym c.into_inner.ensures)) c.in-Ok.ensures places.turns places.sent places.got h

pub returns-in-Ok-clause-sound : goal.returns-in-Ok-clause-sound
returns-in-Ok-clause-sound c =
    let (turns, taken, h) = c.requires in
    (turns ++ begun_turn c.args.sent.now ∷ [], taken, returns-in-Ok-clause-turn c turns taken h)
