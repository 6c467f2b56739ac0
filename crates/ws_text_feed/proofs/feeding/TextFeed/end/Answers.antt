-- The text ends with a line, or inside one.
use Rattle.std.proofs.Common.{rules, ◌≡◌, ◌<◌, length}
use Rattle.ws_text_feed.proofs.Fed.{damaged_end, ended_whole, none_left}
use Rattle.ws_text_feed.proofs.feeding.TextFeed.end.Goals as goal

pub returns-then-is_empty : goal.returns-then-is_empty
returns-then-is_empty g c = λ first text h.
    let line_of = g.T.TakeValues.is_line_of in
    let taken = g.T.TakeValues.has_taken in
    let none : length c.args.self.partial.items ≡ 0 = search rules in (
      h.values,
      ended_whole line_of taken first text c.args.self.taker c.args.self.partial.items c.args.self.number h
          (none_left c.args.self.partial.items none),
      h.taken,
    )

pub returns-else-is_empty : goal.returns-else-is_empty
returns-else-is_empty g c = λ first text h.
    let some : 0 < length c.args.self.partial.items = search rules in
    damaged_end g.T.TakeValues.is_line_of g.T.TakeValues.has_taken first text c.args.self.taker c.args.self.partial.items
    c.args.self.number h some
