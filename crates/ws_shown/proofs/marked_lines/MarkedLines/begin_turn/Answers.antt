-- A turn that is searched first is told.
use Rattle.ws_shown.specs.MarkedLines.{showing_with}
use Rattle.ws_shown.proofs.MarkedTellings.{turn_marked}
use Rattle.ws_shown.proofs.marked_lines.MarkedLines.begin_turn.Goals as goal

pub begin_turn-requires-clause-room : goal.begin_turn-requires-clause-room
begin_turn-requires-clause-room g c =
    let (showing, turns, written, told, bytes, count) = c.requires.room in
    let h = c.in_ok-search_sent.ensures showing turns written told in
    (showing_with showing c.search_sent.new.self.marked, turns, written, h.lines, bytes, count)

pub returns : goal.returns
returns g c = λ showing turns written told.
    turn_marked showing c.search_sent.new.self c.begin_turn.new.self turns written c.args.sent.now _
    c.in_ok-begin_turn.ensures.told (c.in_ok-search_sent.ensures showing turns written told)
