-- Turn after turn: what is left of the place, with the bytes of the turns so far.
use Rattle.std.proofs.Common.{◌≡◌, ◌+◌, drop, length}
use Rattle.ws_scripts.specs.declared.transcript.Turn.{Turn}
use Rattle.ws_suite.proofs.TurnBytes.{bytes_before}
use Rattle.ws_suite.proofs.evidence.marks.got_turn.Given as goal

abbrev pub invariant-loop-number : goal.invariant-loop-number
invariant-loop-number l = record {
  place : l.left + length (bytes_before (λ (turn : Turn). turn.got) l.fn.transcript.turns l.number) ≡ l.place;
  walk : l.walk ≡ drop l.number l.fn.transcript.turns;
  count : l.number-end ≡ length l.fn.transcript.turns;
}
