-- Name after name: the names so far are written, each behind a comma.
use Rattle.std.proofs.Common.{◌≡◌, ◌++◌, map, take, codes}
use Rattle.std.specs.List.{flat_map}
use Rattle.ws_upgrade.proofs.head_lines.push_others.Given as goal

-- the names so far are written
abbrev pub invariant-loop-name : goal.invariant-loop-name
invariant-loop-name l =
    l.text.items ≡ l.fn.text.items ++ flat_map (λ name. codes ", " ++ name) (map (λ name. name.now) (take l.name-index l.names))
