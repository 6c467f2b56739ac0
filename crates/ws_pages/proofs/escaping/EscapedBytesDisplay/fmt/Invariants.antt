-- The bytes so far are written.
use Rattle.std.proofs.Common.{take}
use Rattle.std.specs.Fmt.{HasWritten, IsPlainFormatter}
use Rattle.std.specs.List.{flat_map}
use Rattle.ws_pages.specs.PageText.{byte_on_page}
use Rattle.ws_pages.proofs.escaping.EscapedBytesDisplay.fmt.Given as goal

abbrev pub invariant-loop-byte : goal.invariant-loop-byte
invariant-loop-byte g l = IsPlainFormatter l.initial.f
    → HasWritten g.W.Write.write_str_gives l.initial.f
    (flat_map byte_on_page (take l.byte-index l.byte-items)) l.f
