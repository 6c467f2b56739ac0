-- Segment after segment: none of those so far stands for missing bytes.
use Rattle.std.proofs.Common.{◌-◌, ◌≤◌, All, length, take}
use Rattle.ws_followed.specs.Gaps.{IsNoGap}
use Rattle.ws_followed.proofs.gaps.first_gap.Given as goal

-- none of those so far is one
abbrev pub invariant-loop-at : goal.invariant-loop-at
invariant-loop-at l = (l.at ≤ length l.segments) × All IsNoGap (take l.at l.segments)

abbrev pub decreases-loop-at : goal.decreases-loop-at
decreases-loop-at l = length l.segments - l.at
