-- Segment after segment: with any that follow the turns so far are those of all of them.
use Rattle.std.proofs.Common.{◌≡◌, ◌++◌, List, take}
use Rattle.ws_followed.specs.declared.segment.Segment.{Segment}
use Rattle.ws_followed.specs.Turns.{all_turns_with, turns_behind}
use Rattle.ws_followed.proofs.turns.turns_behind.Given as goal

-- the turns so far go on as those of the segments so far
abbrev pub invariant-loop-segment : goal.invariant-loop-segment
invariant-loop-segment l = (more : List Segment) → all_turns_with l.fn.judged l.turns more
    ≡ turns_behind l.fn.judged l.fn.to_end l.fn.from_end (take l.segment-index l.segments ++ more)
