-- Read after read: all that was read is kept, and with what is left it makes up the budget.
use Rattle.std.proofs.Common.{length, ◌+◌, ◌-◌, ◌^◌, ◌≡◌, false}
use Rattle.std.specs.Option.{unwrap_or}
use Rattle.std.specs.Io.KnownBytes.{Consumes}
use Rattle.ws_frame.specs.Watching.{has_failed, inner_of}
use Rattle.ws_frame.proofs.reading_input.read_input.Given as goal

-- what was read is kept, and the budget is what was read and what is left
abbrev pub invariant-loop-left : goal.invariant-loop-left
invariant-loop-left g l =
    (has_failed l.reader ≡ false) × (length l.input.items + l.left ≡ unwrap_or l.fn.budget (2 ^ 64 - 1))
    × Consumes (g.R.Read.remaining (inner_of l.initial.reader)) (g.R.Read.remaining (inner_of l.reader)) l.input.items

abbrev pub decreases-loop-left : goal.decreases-loop-left
decreases-loop-left g l = l.left
