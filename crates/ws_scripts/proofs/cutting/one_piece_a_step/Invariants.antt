-- Step after step: the bytes so far are those of the steps so far, and the ends those of their pieces.
use Rattle.std.proofs.Common.{◌≡◌, map, take}
use Rattle.ws_scripts.specs.InnerCutting.{ends_of}
use Rattle.ws_scripts.specs.Scripts.{step_bytes, turn_bytes, without_empty}
use Rattle.ws_scripts.proofs.cutting.one_piece_a_step.Given as goal

-- the bytes of the steps so far, and where their pieces end
abbrev pub invariant-loop-step : goal.invariant-loop-step
invariant-loop-step l = record {
  bytes : l.bytes.items ≡ turn_bytes l.key (take l.step-index l.steps);
  ends : l.ends.items ≡ ends_of 0 (without_empty (map (step_bytes l.key) (take l.step-index l.steps)));
}
