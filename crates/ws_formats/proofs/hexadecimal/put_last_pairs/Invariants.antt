-- Pair after pair: each byte so far is spelled by its pair.
use Rattle.std.proofs.Common.{◌≡◌, ◌<◌, ◌+◌, ◌*◌, ℕ, get_or, length}
use Rattle.ws_formats.specs.Reading.{IsPair}
use Rattle.ws_formats.proofs.hexadecimal.put_last_pairs.Given as goal

-- each byte so far is spelled by its pair
abbrev pub invariant-bytes : goal.invariant-bytes
invariant-bytes l = record {
  len : length l.bytes ≡ length l.fn.bytes;
  spelled : (k : ℕ) → k < l.i → IsPair (get_or l.bytes k 0) (get_or l.word (2 * k) 0) (get_or l.word (2 * k + 1) 0);
}
