-- Step after step: the room so far is that of the bytes of the steps so far.
use Rattle.std.proofs.Common.{◌≡◌, ◌-◌, ◌^◌, length, min, take}
use Rattle.ws_scripts.specs.Scripts.{turn_bytes}
use Rattle.ws_scripts.proofs.cutting.room_for.Given as goal

-- as many as the steps so far have, up to the largest number there is
abbrev pub invariant-loop-step : goal.invariant-loop-step
invariant-loop-step l = l.room ≡ min (length (turn_bytes l.key (take l.step-index l.steps))) (2 ^ 64 - 1)
