-- Turn after turn: the last of those so far in which bytes were sent.
use Rattle.std.proofs.Common.{◌≡◌, drop, length}
use Rattle.ws_suite.specs.Evidence.{sent_turns}
use Rattle.ws_suite.specs.InnerDoom.{IsLastUntil}
use Rattle.ws_suite.proofs.evidence.doom.last_with_bytes.Given as goal

abbrev pub invariant-loop-number : goal.invariant-loop-number
invariant-loop-number l = record {
  left : l.walk ≡ drop l.number l.fn.transcript.turns;
  count : l.number-end ≡ length l.fn.transcript.turns;
  last : IsLastUntil l.number (sent_turns l.fn.transcript.turns) l.last;
}
