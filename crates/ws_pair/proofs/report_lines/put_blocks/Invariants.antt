-- Block after block: the digits of the bytes so far are put.
use Rattle.std.proofs.Common.{◌≤◌, ◌-◌, length, take}
use Rattle.ws_formats.specs.Words.{hex}
use Rattle.ws_pair.specs.InnerPrinting.{PutsBehind}
use Rattle.ws_pair.proofs.report_lines.put_blocks.Given as goal

-- the digits of the bytes so far are put
abbrev pub invariant-loop-at : goal.invariant-loop-at
invariant-loop-at g l = record {
  within : l.at ≤ length l.bytes;
  put : PutsBehind g.W.Write.contents (hex (take l.at l.bytes)) l.initial.room l.room l.initial.writer l.writer;
}

abbrev pub decreases-loop-at : goal.decreases-loop-at
decreases-loop-at g l = length l.bytes - l.at
