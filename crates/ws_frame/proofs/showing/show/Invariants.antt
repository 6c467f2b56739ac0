-- Read after read: the lines of all that was read are written, none waits, and the budget isn't passed.
use Rattle.std.proofs.Common.{◌≡◌, ◌≤◌, ◌-◌, false, List, [], ℕ}
use Rattle.std.specs.Io.KnownBytes.{Appends, Consumes}
use Rattle.ws_frame.specs.Lines.{plain}
use Rattle.ws_frame.specs.Watching.{has_failed, inner_of}
use Rattle.ws_frame.specs.InnerShowing.{HasTold}
use Rattle.ws_frame.proofs.showing.show.Given as goal

-- the lines of what was read are written
abbrev pub invariant-loop-run : goal.invariant-loop-run
invariant-loop-run g l = record {
  reads : has_failed l.reader ≡ false;
  writes : has_failed l.writer ≡ false;
  source : l.run.source ≡ plain l.fn.from;
  within : l.run.taken ≤ l.budget;
  none_wait : l.run.lines ≡ [];
  told : (read : List ℕ) × (written : List ℕ) × Consumes (g.R.Read.remaining (inner_of l.initial.reader)) (g.R.Read.remaining (inner_of l.reader)) read
      × Appends (g.W.Write.contents (inner_of l.initial.writer)) (g.W.Write.contents (inner_of l.writer)) written × HasTold l.run read written;
}

abbrev pub decreases-loop-run : goal.decreases-loop-run
decreases-loop-run g l = l.budget - l.run.taken
