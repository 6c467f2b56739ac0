-- Block after block: the bytes so far are spelled by the digits so far, and the digits behind those are as they were.
use Rattle.std.proofs.Common.{◌≡◌, ◌≤◌, ◌-◌, ◌*◌, length, take, drop}
use Rattle.ws_formats.specs.Reading.{ArePairs}
use Rattle.ws_formats.proofs.hexadecimal.put_pairs_in_front.Given as goal

-- the bytes so far, and the digits that are left
abbrev pub invariant-loop-at : goal.invariant-loop-at
invariant-loop-at l = record {
  within : l.at ≤ l.len;
  long : length l.digits ≡ length l.fn.digits;
  pairs : ArePairs (take l.at l.digits) (take (2 * l.at) l.fn.digits);
  left : drop (2 * l.at) l.digits ≡ drop (2 * l.at) l.fn.digits;
}

abbrev pub decreases-loop-at : goal.decreases-loop-at
decreases-loop-at l = l.len - l.at
