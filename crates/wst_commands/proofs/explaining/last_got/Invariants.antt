-- The turns so far have this last one in which bytes were got.
use Rattle.std.proofs.Common.{◌≡◌, drop, length, take}
use Rattle.wst_commands.specs.Explaining.{IsLastGot}
use Rattle.wst_commands.proofs.explaining.last_got.Given as goal

abbrev pub invariant-loop-number : goal.invariant-loop-number
invariant-loop-number l = record {
  last : IsLastGot (take l.number l.fn.transcript.turns) l.last;
  left : l.walk ≡ drop l.number l.fn.transcript.turns;
  count : l.number-end ≡ length l.fn.transcript.turns;
}
