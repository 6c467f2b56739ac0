-- Nothing was told yet.
use Rattle.ws_shown.proofs.line_room.LineRoom.new.Goals as goal

pub returns-clause-none : goal.returns-clause-none
returns-clause-none c = c.new.ensures.none c.args.showing
