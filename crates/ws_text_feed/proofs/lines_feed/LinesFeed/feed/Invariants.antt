-- The lines of the piece so far were taken.
use Rattle.std.proofs.Common.{◌≡◌, ◌++◌, List, ℕ, length}
use Rattle.ws_text_feed.specs.FeedingLines.{AreFedLines}
use Rattle.ws_text_feed.proofs.lines_feed.LinesFeed.feed.Given as goal

-- what stands before the rest of the piece was fed
abbrev pub invariant-loop-line : goal.invariant-loop-line
invariant-loop-line g l = (done : List ℕ) × (l.fn.piece ≡ done ++ l.rest)
    × ((start : _) (text : List ℕ) → AreFedLines g.P.PartialText.tells start text l.fn.self
    → AreFedLines g.P.PartialText.tells start (text ++ done) l.feed)

abbrev pub decreases-loop-line : goal.decreases-loop-line
decreases-loop-line g l = length l.rest
