-- So many steps at the front are those at as many places.
use Rattle.std.proofs.Common.{◌≡◌, ◌-◌, ◌≤◌, length, take}
use Rattle.ws_sweep.specs.ShortCases.{short_steps}
use Rattle.ws_sweep.proofs.scripting.shared_count.Given as goal

abbrev pub invariant-loop-at : goal.invariant-loop-at
invariant-loop-at l = (l.at ≤ length l.places) × (l.at ≤ length l.steps)
    × (take l.at l.steps ≡ short_steps l.tested (take l.at l.places))

abbrev pub decreases-loop-at : goal.decreases-loop-at
decreases-loop-at l = length l.places - l.at
