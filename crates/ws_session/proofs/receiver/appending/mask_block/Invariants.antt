-- Lanes after lanes: the bytes so far are masked, and the rest begins at the same phase.
use Rattle.std.proofs.Common.{◌≡◌, ◌++◌, ◌-◌, ◌≤◌, ◌%◌, ℕ, List, length, take, drop}
use Rattle.ws_wire.specs.Masking.{masked, AreKeyLanes}
use Rattle.ws_session.proofs.receiver.appending.mask_block.Given as goal

abbrev pub invariant-loop-at : goal.invariant-loop-at
invariant-loop-at l =
    (l.at ≤ 256) × (l.at % 16 ≡ 0) × (length l.block ≡ 256)
    × ((key : List ℕ) (phase : ℕ) → AreKeyLanes key phase l.lanes → take l.at l.block ++ masked key phase (drop l.at l.block) ≡ masked key phase l.fn.block)

abbrev pub decreases-loop-at : goal.decreases-loop-at
decreases-loop-at l = 256 - l.at
