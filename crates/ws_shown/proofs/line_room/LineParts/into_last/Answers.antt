-- The last lines stand behind those that wait.
use Rattle.std.proofs.Common.{Some, ap, sym}
use Rattle.ws_shown.proofs.RoomLemmas.{last_waits, made_at, open_to_end}
use Rattle.ws_shown.proofs.line_room.LineParts.into_last.Goals as goal

pub end-requires-clause-going : goal.end-requires-clause-going
end-requires-clause-going c = open_to_end c.args.showing c.args.self c.deref_mut.result.now
    (made_at c.args.showing c.args.self.lines _ _ c.deref_mut.ensures.value c.in_ok-lines.ensures) c.requires

pub returns-in-Ok : goal.returns-in-Ok
returns-in-Ok c = last_waits c.args.showing c.args.self c.deref_mut.result.now c.args.ended c.into_inner.result.items _ _
    _ (made_at c.args.showing c.args.self.lines _ _ c.deref_mut.ensures.value c.in_ok-lines.ensures)
    (ap (λ v. Some v.items) c.new-room.ensures.holds) (ap (λ v. Some v.items) (sym c.into_inner.ensures))
    c.in-Ok.ensures
