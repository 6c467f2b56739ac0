-- The steps so far are those of the first places.
use Rattle.std.proofs.Common.{◌≡◌, ◌-◌, ◌≤◌, length, take}
use Rattle.ws_sweep.specs.ShortCases.{short_steps}
use Rattle.ws_sweep.proofs.scripting.steps_of.Given as goal

abbrev pub invariant-loop-at : goal.invariant-loop-at
invariant-loop-at l = (l.places ≡ l.script) × (l.at ≤ length l.places)
    × (l.steps.items ≡ short_steps l.tested (take l.at l.places))

abbrev pub decreases-loop-at : goal.decreases-loop-at
decreases-loop-at l = length l.places - l.at
