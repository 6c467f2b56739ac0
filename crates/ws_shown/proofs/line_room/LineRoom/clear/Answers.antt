-- Lines that were taken don't wait any more.
use Rattle.std.proofs.Common.{refl}
use Rattle.ws_shown.proofs.RoomLemmas.{still_sound}
use Rattle.ws_shown.proofs.line_room.LineRoom.clear.Goals as goal

pub invariant_of-self : goal.invariant_of-self
invariant_of-self c = still_sound c.self.inside.showing c.self.inside.parts _ refl refl c.new.ensures.items c.self.invariant
