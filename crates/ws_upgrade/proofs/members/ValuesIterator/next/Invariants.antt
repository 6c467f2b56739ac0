-- The headers that were passed by have other names.
use Rattle.std.proofs.Common.{All, length, map, ◌≡◌}
use Rattle.httparse.specs.Spans.{header_bytes, IsHeaderWithin}
use Rattle.ws_upgrade.specs.Members.{values_of}
use Rattle.ws_upgrade.proofs.members.ValuesIterator.next.Given as goal

abbrev pub invariant-loop-span : goal.invariant-loop-span
invariant-loop-span l =
    All (IsHeaderWithin (length l.self-inside.bytes.now)) l.self-inside.spans.now
    × (l.fn.self ≡ values_of l.self-inside.name.now (map (header_bytes l.self-inside.bytes.now) l.self-inside.spans.now))

abbrev pub decreases-loop-span : goal.decreases-loop-span
decreases-loop-span l = length l.self-inside.spans.now
