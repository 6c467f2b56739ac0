-- Block after block: what came so far stands masked behind what was kept, and there is room for the rest.
use Rattle.std.proofs.Common.{◌≡◌, ◌+◌, ◌++◌, ◌-◌, ◌≤◌, ◌%◌, length, take}
use Rattle.std.specs.Prelude.{vec_len, vec_capacity}
use Rattle.ws_wire.specs.Masking.{masked}
use Rattle.ws_session.proofs.receiver.appending.append_blocks.Given as goal

abbrev pub invariant-loop-at : goal.invariant-loop-at
invariant-loop-at l =
    (l.at ≤ length l.bytes) × (l.at % 4 ≡ 0)
    × (l.kept.items ≡ l.fn.kept.items ++ masked l.key l.phase (take l.at l.bytes))
    × (vec_len l.kept + (length l.bytes - l.at) ≤ vec_capacity l.kept)

abbrev pub decreases-loop-at : goal.decreases-loop-at
decreases-loop-at l = length l.bytes - l.at
