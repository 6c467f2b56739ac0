-- Lines that were made have told nothing yet.
use Rattle.ws_shown.proofs.RoomLemmas.{first_of}
use Rattle.ws_shown.proofs.line_room.made_lines.Goals as goal

pub returns-in-None : goal.returns-in-None
returns-in-None c = first_of c.args.showing c.args.lines c.first_lines.result c.in-None.is c.first_lines.ensures
