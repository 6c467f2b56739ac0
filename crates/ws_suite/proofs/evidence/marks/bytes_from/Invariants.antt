-- The bytes of the turns so far from the place on, and how many of those before it come later.
use Rattle.std.proofs.Common.{◌≡◌, ◌-◌, drop, length}
use Rattle.ws_suite.specs.InnerCollecting.{way_bytes}
use Rattle.ws_suite.proofs.TurnBytes.{bytes_before}
use Rattle.ws_suite.proofs.evidence.marks.bytes_from.Given as goal

abbrev pub invariant-loop-number : goal.invariant-loop-number
invariant-loop-number l = record {
  bytes : l.bytes.items ≡ drop l.place (bytes_before (way_bytes l.way) l.fn.transcript.turns l._number);
  left : l.left ≡ l.place - length (bytes_before (way_bytes l.way) l.fn.transcript.turns l._number);
  walk : l.walk ≡ drop l._number l.fn.transcript.turns;
  count : l._number-end ≡ length l.fn.transcript.turns;
}
