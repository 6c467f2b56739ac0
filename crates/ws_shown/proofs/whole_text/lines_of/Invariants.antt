-- The turns so far were shown.
use Rattle.std.proofs.Common.{◌≡◌, [], take}
use Rattle.ws_shown.specs.LineRooms.{HasLinesOf}
use Rattle.ws_shown.proofs.whole_text.lines_of.Given as goal

abbrev pub invariant-turns : goal.invariant-turns
invariant-turns l = record {
  showing : l.room.showing ≡ l.fn.showing;
  shown : HasLinesOf l.room (take l.turn-index l.turns) [];
}
