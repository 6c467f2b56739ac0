-- The lines of the headers so far are added.
use Rattle.std.proofs.Common.{◌≡◌, ◌++◌, map, take}
use Rattle.std.specs.List.{flat_map}
use Rattle.ws_upgrade.specs.Texts.{line_end, header_line}
use Rattle.ws_upgrade.specs.AddedHeaders.{header_pair}
use Rattle.ws_upgrade.proofs.head_lines.push_headers.Given as goal

abbrev pub invariant-loop-header : goal.invariant-loop-header
invariant-loop-header l =
    l.text.items ≡ l.fn.text.items ++ flat_map (λ header. header_line header.0 header.1 ++ line_end) (map header_pair (take l.header-index l.headers))
