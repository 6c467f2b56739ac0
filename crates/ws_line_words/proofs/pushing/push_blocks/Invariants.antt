-- Block after block: the digits of the bytes so far stand at the end of the text.
use Rattle.std.proofs.Common.{◌≡◌, ◌≤◌, ◌-◌, ◌++◌, length, string_bytes, take}
use Rattle.ws_formats.specs.Words.{hex}
use Rattle.ws_line_words.proofs.pushing.push_blocks.Given as goal

-- the digits of the bytes so far stand at the end of the text
abbrev pub invariant-loop-at : goal.invariant-loop-at
invariant-loop-at l = record {
  within : l.at ≤ length l.bytes;
  put : string_bytes l.text ≡ string_bytes l.initial.text ++ hex (take l.at l.bytes);
}

abbrev pub decreases-loop-at : goal.decreases-loop-at
decreases-loop-at l = length l.bytes - l.at
