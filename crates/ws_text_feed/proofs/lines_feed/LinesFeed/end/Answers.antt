-- The text ends inside a line, or where a line is missing.
use Rattle.std.proofs.Common.{rules, ◌≡◌, ◌<◌, length}
use Rattle.ws_text_feed.proofs.FedLines.{damaged_early, damaged_inside}
use Rattle.ws_text_feed.proofs.lines_feed.LinesFeed.end.Goals as goal

pub returns-then-not-is_empty : goal.returns-then-not-is_empty
returns-then-not-is_empty g c = λ start text h.
    let feed = c.args.self in
    let some : 0 < length feed.partial.items = search rules in
    damaged_inside g.P.PartialText.tells start g.met.P.PartialText.goes_on text feed.part feed.partial.items feed.number h
    some

pub returns : goal.returns
returns g c = λ start text h.
    let feed = c.args.self in
    let none : length feed.partial.items ≡ 0 = search rules in
    damaged_early g.P.PartialText.tells start g.met.P.PartialText.goes_on text feed.part feed.partial.items feed.number h
    none c.in-None.ensures
