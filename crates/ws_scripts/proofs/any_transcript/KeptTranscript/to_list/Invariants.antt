-- The turns so far are copied, and the others are to come.
use Rattle.std.proofs.Common.{◌≡◌, drop, length, take}
use Rattle.ws_scripts.proofs.any_transcript.KeptTranscript.to_list.Given as goal

abbrev pub invariant-loop-number : goal.invariant-loop-number
invariant-loop-number l = record {
  copied : l.turns.items ≡ take l.number l.fn.self.turns;
  left : l.walk ≡ drop l.number l.fn.self.turns;
  count : l.number-end ≡ length l.fn.self.turns;
}
