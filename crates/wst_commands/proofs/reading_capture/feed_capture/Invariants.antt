-- Read after read: what was read was fed.
use Rattle.std.proofs.Common.{◌≡◌, false, List, ℕ}
use Rattle.std.specs.Io.KnownBytes.{Consumes}
use Rattle.ws_frame.specs.Watching.{has_failed, inner_of}
use Rattle.ws_scripts.specs.CaptureFeeds.{IsFedCapture}
use Rattle.wst_commands.proofs.reading_capture.feed_capture.Given as goal

-- no call has failed, and these bytes were read and fed
abbrev pub invariant-reads : goal.invariant-reads
invariant-reads g l = (has_failed l.reader ≡ false)
    × ((read : List ℕ) × Consumes (g.R.Read.remaining (inner_of l.fn.reader)) (g.R.Read.remaining (inner_of l.reader)) read
    × IsFedCapture read l.feed)
