-- The last lines are those of its parts.
use Rattle.std.proofs.Common.{subst}
use Rattle.ws_shown.specs.LineRooms.{EndsLines, LineRoomValue}
use Rattle.ws_shown.proofs.line_room.LineRoom.into_last.Goals as goal

pub returns : goal.returns
returns c = subst (λ (v : LineRoomValue). EndsLines v.showing v.parts c.args.ended c.in_ok-last.last.items)
    c.self.view_is c.in_ok-last.ensures
