-- Step after step: no step so far is a wait, and what is left grows shorter.
use Rattle.std.proofs.Common.{◌-◌, ◌≤◌, length, take}
use Rattle.std.specs.List.{AllByRecursion}
use Rattle.ws_scripts.specs.Scripts.{IsAct}
use Rattle.ws_scripts.proofs.cutting.first_wait.Given as goal

-- no step so far is a Wait
abbrev pub invariant-loop-at : goal.invariant-loop-at
invariant-loop-at l = record {
  within : l.at ≤ length l.steps;
  acts : AllByRecursion IsAct (take l.at l.steps);
}

abbrev pub decreases-loop-at : goal.decreases-loop-at
decreases-loop-at l = length l.steps - l.at
