-- Byte after byte: all so far are plain.
use Rattle.std.proofs.Common.{◌≡◌, true, take}
use Rattle.std.specs.List.{list_all}
use Rattle.ws_formats.specs.QuotedText.{is_shown_plainly}
use Rattle.ws_formats.proofs.quoting.are_plain.Given as goal

abbrev pub invariant-loop-byte : goal.invariant-loop-byte
invariant-loop-byte l = list_all is_shown_plainly (take l.byte-index l.bytes) ≡ true
