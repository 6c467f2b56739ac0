-- Segment after segment: what the end sent in those so far.
use Rattle.std.proofs.Common.{◌≡◌, take}
use Rattle.ws_followed.specs.Turns.{bytes_from}
use Rattle.ws_followed.proofs.turns.bytes_from.Given as goal

-- the bytes so far
abbrev pub invariant-loop-segment : goal.invariant-loop-segment
invariant-loop-segment l = l.bytes.items ≡ bytes_from l.fn.node (take l.segment-index l.segments)
