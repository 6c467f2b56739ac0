-- Byte after byte: the bytes so far are masked, and the phase moves with them.
use Rattle.std.proofs.Common.{◌≡◌, ◌+◌, ◌++◌, take, drop}
use Rattle.ws_wire.specs.Masking.{masked}
use Rattle.ws_wire.proofs.masking.mask_plainly.Given as goal

-- the bytes so far are masked
abbrev pub invariant-loop-i : goal.invariant-loop-i
invariant-loop-i l = take l.i l.bytes ++ masked l.key (l.phase + l.i) (drop l.i l.bytes) ≡ masked l.fn.key l.fn.phase l.fn.bytes
