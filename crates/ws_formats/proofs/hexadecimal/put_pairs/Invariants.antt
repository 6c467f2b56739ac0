-- Vector after vector: the pairs so far spell the bytes so far.
use Rattle.std.proofs.Common.{◌≡◌, ◌≤◌, ◌-◌, ◌*◌, length, take}
use Rattle.ws_formats.specs.Reading.{ArePairs}
use Rattle.ws_formats.proofs.hexadecimal.put_pairs.Given as goal

-- the pairs so far spell the bytes so far
abbrev pub invariant-loop-bytes : goal.invariant-loop-bytes
invariant-loop-bytes l = record {
  within : l.at ≤ length l.bytes;
  long : length l.word ≡ 2 * length l.bytes;
  pairs : ArePairs (take l.at l.bytes) (take (2 * l.at) l.word);
}

abbrev pub decreases-loop-bytes : goal.decreases-loop-bytes
decreases-loop-bytes l = length l.bytes - l.at
