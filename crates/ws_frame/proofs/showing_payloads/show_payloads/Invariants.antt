-- Read after read: the lines of all that was read are written, and with what is left it makes up the budget.
use Rattle.std.proofs.Common.{◌≡◌, ◌+◌, false, List, ℕ, length}
use Rattle.std.specs.Io.KnownBytes.{Appends, Consumes}
use Rattle.ws_frame.specs.Watching.{has_failed, inner_of}
use Rattle.ws_frame.specs.PayloadStreaming.{HasPutLines, stream_source}
use Rattle.ws_frame.proofs.showing_payloads.show_payloads.Given as goal

-- the lines of what was read are written
abbrev pub invariant-loop-left : goal.invariant-loop-left
invariant-loop-left g l = record {
  reads : has_failed l.reader ≡ false;
  writes : has_failed l.writer ≡ false;
  source : stream_source l.stream ≡ l.fn.source;
  going : l.stream.stopped ≡ false;
  told : (read : List ℕ) × (written : List ℕ) × (length read + l.left ≡ l.fn.budget)
      × Consumes (g.R.Read.remaining (inner_of l.initial.reader)) (g.R.Read.remaining (inner_of l.reader)) read
      × Appends (g.W.Write.contents (inner_of l.initial.writer)) (g.W.Write.contents (inner_of l.writer)) written
      × HasPutLines l.stream read written;
}

abbrev pub decreases-loop-left : goal.decreases-loop-left
decreases-loop-left g l = l.left
