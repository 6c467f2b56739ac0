-- Read after read: no call has failed, and these bytes were read.
use Rattle.std.proofs.Common.{◌≡◌, false, List, ℕ}
use Rattle.std.specs.Io.KnownBytes.{Consumes}
use Rattle.ws_frame.specs.Watching.{has_failed, inner_of}
use Rattle.wst_commands.proofs.reading_lines.drop_rest.Given as goal

-- some bytes were read, and no call has failed
abbrev pub invariant-reads : goal.invariant-reads
invariant-reads g l = (has_failed l.reader ≡ false)
    × ((read : List ℕ) × Consumes (g.R.Read.remaining (inner_of l.fn.reader)) (g.R.Read.remaining (inner_of l.reader)) read)
