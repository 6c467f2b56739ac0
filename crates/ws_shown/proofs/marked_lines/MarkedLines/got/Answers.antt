-- Bytes that are searched first are told.
use Rattle.std.proofs.Common.{◌++◌, ◌∷◌, []}
use Rattle.ws_shown.specs.MarkedLines.{showing_with}
use Rattle.ws_shown.proofs.MarkedTellings.{got_is_marked}
use Rattle.ws_shown.proofs.marked_lines.MarkedLines.got.Goals as goal

pub got-requires-clause-room : goal.got-requires-clause-room
got-requires-clause-room g c =
    let (showing, turns, written, told, bytes) = c.requires.room in
    let h = c.in_ok-search_got.ensures showing turns written told in
    (showing_with showing c.search_got.new.self.marked, turns, written, h.lines, bytes)

pub returns : goal.returns
returns g c = λ showing turns turn written told.
    got_is_marked showing c.search_got.new.self c.got.new.self turns turn written c.args.piece.now _
    c.in_ok-got.ensures.told (c.in_ok-search_got.ensures showing (turns ++ turn ∷ []) written told)
