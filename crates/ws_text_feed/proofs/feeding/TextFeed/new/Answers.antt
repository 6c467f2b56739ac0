-- Nothing was fed, and nothing taken.
use Rattle.std.proofs.Common.{List, ℕ, [], sym, subst}
use Rattle.ws_text_feed.specs.Feeding.{HasFed}
use Rattle.ws_text_feed.proofs.Fed.{started}
use Rattle.ws_text_feed.proofs.feeding.TextFeed.new.Goals as goal

pub returns : goal.returns
returns g c =
    let line_of = g.T.TakeValues.is_line_of in
    let taken = g.T.TakeValues.has_taken in
    subst (λ (l : List ℕ). HasFed line_of taken c.args.taker [] c.args.taker l 1) (sym c.new.ensures.items)
    (started line_of taken c.args.taker c.requires)
