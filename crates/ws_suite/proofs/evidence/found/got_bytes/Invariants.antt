-- The first bytes of the turns so far from the place on, and how many of those before it come later.
use Rattle.std.proofs.Common.{◌≡◌, ◌-◌, drop, length, take}
use Rattle.ws_scripts.specs.declared.transcript.Turn.{Turn}
use Rattle.ws_suite.proofs.TurnBytes.{bytes_before}
use Rattle.ws_suite.proofs.evidence.found.got_bytes.Given as goal

abbrev pub invariant-loop-number : goal.invariant-loop-number
invariant-loop-number l = record {
  bytes : l.bytes.items
      ≡ take l.most (drop l.place (bytes_before (λ (turn : Turn). turn.got) l.fn.transcript.turns l._number));
  left : l.left ≡ l.place - length (bytes_before (λ (turn : Turn). turn.got) l.fn.transcript.turns l._number);
  walk : l.walk ≡ drop l._number l.fn.transcript.turns;
  count : l._number-end ≡ length l.fn.transcript.turns;
}
