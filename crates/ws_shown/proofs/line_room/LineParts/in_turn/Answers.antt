-- A turn has begun, or begins.
use Rattle.std.proofs.Common.{◌∙◌, sym}
use Rattle.ws_shown.proofs.RoomLemmas.{begins_in_turn, keeps_no_turn, some_in_turn}
use Rattle.ws_shown.proofs.line_room.LineParts.in_turn.Goals as goal

pub returns-then-is_none-clause-in_turn : goal.returns-then-is_none-clause-in_turn
returns-then-is_none-clause-in_turn c =
    begins_in_turn c.args.showing c.args.self _ c.with_turn.result c.requires c.with_turn.ensures.turn

pub returns-then-is_none-clause-same : goal.returns-then-is_none-clause-same
returns-then-is_none-clause-same c =
    keeps_no_turn c.args.showing c.args.self c.with_turn.result (sym c.is_none.ensures ∙ c.if-is_none.true)

pub returns-clause-in_turn : goal.returns-clause-in_turn
returns-clause-in_turn c =
    some_in_turn c.args.showing c.args.self (sym c.is_none.ensures ∙ c.if-is_none.false) c.requires
