-- The other names so far are counted.
use Rattle.std.proofs.Common.{◌≡◌, ◌≤◌, map, not, string_bytes, take}
use Rattle.std.specs.List.{count_by}
use Rattle.ws_runs.specs.Names.{is_among}
use Rattle.ws_runs.specs.Views.{texts_now}
use Rattle.ws_runs.proofs.rows.count_others.Given as goal

abbrev pub invariant-loop-name : goal.invariant-loop-name
invariant-loop-name l =
    (l.count ≡ count_by (λ name. not (is_among name (texts_now l.ids))) (map string_bytes (take l.name-index l.listed)))
    × (l.count ≤ l.name-index)
