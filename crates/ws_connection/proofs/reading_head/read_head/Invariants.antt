-- Read after read: what was read is in the room, and without its last piece it leaves the head undecided.
use Rattle.std.proofs.Common.{◌≡◌, ◌≤◌, length, false, ◌-◌}
use Rattle.std.specs.Io.KnownBytes.{Consumes}
use Rattle.ws_frame.specs.Watching.{has_failed, inner_of}
use Rattle.ws_handshake.specs.ReadingHeads.{ReadsNoFurther}
use Rattle.ws_connection.proofs.reading_head.read_head.Given as goal

-- what was read is in the room, and all but the last piece of it needs more
abbrev pub invariant-loop-decision : goal.invariant-loop-decision
invariant-loop-decision g l =
    (has_failed l.reader ≡ false) × (length l.room ≤ 8192) × ReadsNoFurther (g.D.HeadDecider.needs l.decider) l.room
    × Consumes (g.R.Read.remaining (inner_of l.initial.reader)) (g.R.Read.remaining (inner_of l.reader)) l.room

abbrev pub decreases-loop-decision : goal.decreases-loop-decision
decreases-loop-decision g l = 8192 - length l.room
