-- None of the payloads so far is this one, and their bytes stand before the next.
use Rattle.std.proofs.Common.{◌≡◌, false, sum, take}
use Rattle.ws_suite.specs.InnerUnanswered.{payloads_by}
use Rattle.ws_suite.specs.Progress.{is_pong_owed}
use Rattle.ws_suite.proofs.evidence.unanswered.packed.place_of.Given as goal

abbrev pub invariant-loop-number : goal.invariant-loop-number
invariant-loop-number l = record {
  start : l.start ≡ sum (take l.number l.lens.items);
  none : is_pong_owed l.payload (take l.number (payloads_by l.lens.items l.bytes)) ≡ false;
}
