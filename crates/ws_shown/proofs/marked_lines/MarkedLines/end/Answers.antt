-- The last lines are those with the marks so far.
use Rattle.ws_shown.specs.MarkedLines.{showing_with}
use Rattle.ws_shown.proofs.MarkedTellings.{ends_marked}
use Rattle.ws_shown.proofs.marked_lines.MarkedLines.end.Goals as goal

pub end-requires-clause-going : goal.end-requires-clause-going
end-requires-clause-going g c =
    let (showing, turns, written, told) = c.requires.going in
    (showing_with showing c.args.self.now.marked, turns, written, told.lines)

pub returns : goal.returns
returns g c = λ showing turns written told.
    ends_marked showing c.args.self.now turns written c.args.ended _ c.end.result c.end.ensures.told told
