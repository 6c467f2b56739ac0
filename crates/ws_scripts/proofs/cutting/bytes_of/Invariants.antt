-- Step after step: the bytes so far are those of the steps so far.
use Rattle.std.proofs.Common.{◌≡◌, take}
use Rattle.ws_scripts.specs.Scripts.{turn_bytes}
use Rattle.ws_scripts.proofs.cutting.bytes_of.Given as goal

-- the bytes of the steps so far
abbrev pub invariant-loop-step : goal.invariant-loop-step
invariant-loop-step l = l.bytes.items ≡ turn_bytes l.key (take l.step-index l.steps)
