-- Read after read: what was read was fed.
use Rattle.std.proofs.Common.{◌≡◌, false, List, ◌++◌, ℕ}
use Rattle.std.specs.Io.KnownBytes.{Consumes}
use Rattle.ws_frame.specs.Watching.{has_failed, inner_of}
use Rattle.ws_text_feed.specs.Feeding.{IsFed}
use Rattle.wst_commands.proofs.reading_lines.feed_input.Given as goal

-- no call has failed, and these bytes were read, and fed behind the text before
abbrev pub invariant-reads : goal.invariant-reads
invariant-reads g l = (has_failed l.reader ≡ false)
    × ((read : List ℕ) × Consumes (g.R.Read.remaining (inner_of l.fn.reader)) (g.R.Read.remaining (inner_of l.reader)) read
    × ((first : _) (text : List ℕ) → IsFed g.T.TakeValues.is_line_of g.T.TakeValues.has_taken first text l.fn.feed
    → IsFed g.T.TakeValues.is_line_of g.T.TakeValues.has_taken first (text ++ read) l.feed))
