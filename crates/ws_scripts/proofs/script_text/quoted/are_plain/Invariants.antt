-- Byte after byte: whether those so far are plain.
use Rattle.std.proofs.Common.{◌≡◌, take}
use Rattle.std.specs.List.{list_all}
use Rattle.ws_scripts.specs.InnerQuoting.{is_plain_byte}
use Rattle.ws_scripts.proofs.script_text.quoted.are_plain.Given as goal

abbrev pub invariant-loop-byte : goal.invariant-loop-byte
invariant-loop-byte l = l.plain ≡ list_all is_plain_byte (take l.byte-index l.inner)
