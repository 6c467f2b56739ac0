-- Write after write: the front of the bytes is written, and no write has failed.
use Rattle.std.proofs.Common.{length, ◌-◌, ◌≡◌, ◌≤◌, take}
use Rattle.std.specs.Io.KnownBytes.{Appends}
use Rattle.ws_frame.specs.Watching.{has_failed, inner_of}
use Rattle.ws_frame.proofs.writing_whole.write_whole.Given as goal

-- the front of the bytes is written, and no write failed
abbrev pub invariant-loop-at : goal.invariant-loop-at
invariant-loop-at g l =
    (l.at ≤ length l.bytes) × (has_failed l.writer ≡ has_failed l.initial.writer)
    × Appends (g.W.Write.contents (inner_of l.initial.writer)) (g.W.Write.contents (inner_of l.writer)) (take l.at l.bytes)

abbrev pub decreases-loop-at : goal.decreases-loop-at
decreases-loop-at g l = length l.bytes - l.at
