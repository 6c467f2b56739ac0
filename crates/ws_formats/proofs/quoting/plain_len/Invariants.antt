-- Byte after byte: all so far are plain.
use Rattle.std.proofs.Common.{◌≡◌, ◌≤◌, ◌-◌, length, true, take}
use Rattle.std.specs.List.{list_all}
use Rattle.ws_formats.specs.QuotedText.{is_shown_plainly}
use Rattle.ws_formats.proofs.quoting.plain_len.Given as goal

abbrev pub invariant-loop-count : goal.invariant-loop-count
invariant-loop-count l = record {
  few : l.count ≤ l.most;
  within : l.count ≤ length l.bytes;
  plain : list_all is_shown_plainly (take l.count l.bytes) ≡ true;
}

abbrev pub decreases-loop-count : goal.decreases-loop-count
decreases-loop-count l = l.most - l.count
