-- Vector after vector: the digits so far are those of the bytes so far.
use Rattle.std.proofs.Common.{◌≡◌, ◌≤◌, ◌-◌, ◌*◌, length, take}
use Rattle.ws_formats.specs.Reading.{ArePairs}
use Rattle.ws_formats.proofs.digits.put_digits.Given as goal

-- the digits so far are those of the bytes so far
abbrev pub invariant-loop-at : goal.invariant-loop-at
invariant-loop-at l = record {
  within : l.at ≤ length l.bytes;
  long : length l.digits ≡ 2 * length l.bytes;
  pairs : ArePairs (take l.at l.bytes) (take (2 * l.at) l.digits);
}

abbrev pub decreases-loop-at : goal.decreases-loop-at
decreases-loop-at l = length l.bytes - l.at
