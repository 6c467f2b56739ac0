-- Block after block: the two digits of each byte so far are written.
use Rattle.std.proofs.Common.{◌≤◌, ◌-◌, length, take}
use Rattle.std.specs.Fmt.{HasWritten, IsPlainFormatter}
use Rattle.ws_formats.specs.Words.{hex}
use Rattle.ws_formats.proofs.showing_hex.HexDigitsDisplay.fmt.Given as goal

-- the bytes so far are written
abbrev pub invariant-loop-at : goal.invariant-loop-at
invariant-loop-at g l = record {
  within : l.at ≤ length l.bytes;
  written : IsPlainFormatter l.initial.f → HasWritten g.W.Write.write_str_gives l.initial.f (hex (take l.at l.bytes)) l.f;
}

abbrev pub decreases-loop-at : goal.decreases-loop-at
decreases-loop-at g l = length l.bytes - l.at
