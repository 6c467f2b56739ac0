-- The bytes so far stand behind those before, each as it is shown.
use Rattle.std.proofs.Common.{◌≡◌, ◌++◌, map, take}
use Rattle.ws_tap.specs.Texts.{shown_byte}
use Rattle.ws_tap.proofs.head_line.HeadLine.push_shown.Given as goal

abbrev pub invariant-loop-byte : goal.invariant-loop-byte
invariant-loop-byte l = l.self ≡ l.initial.self ++ map shown_byte (take l.byte-index l.bytes)
