-- The lines of the piece so far were taken.
use Rattle.std.proofs.Common.{◌≡◌, ◌++◌, List, ℕ, length}
use Rattle.ws_text_feed.specs.Feeding.{HasFed}
use Rattle.ws_text_feed.proofs.feeding.TextFeed.feed.Given as goal

-- what stands before the rest of the piece was fed
abbrev pub invariant-loop-line : goal.invariant-loop-line
invariant-loop-line g l = (done : List ℕ) × (l.fn.piece ≡ done ++ l.rest)
    × ((first : _) (text : List ℕ)
    → HasFed g.T.TakeValues.is_line_of g.T.TakeValues.has_taken first text l.fn.self.taker l.fn.self.partial.items
    l.fn.self.number
    → HasFed g.T.TakeValues.is_line_of g.T.TakeValues.has_taken first (text ++ done) l.self.taker l.self.partial.items
    l.self.number)

abbrev pub decreases-loop-line : goal.decreases-loop-line
decreases-loop-line g l = length l.rest
