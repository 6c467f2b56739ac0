-- The other names so far are appended.
use Rattle.std.proofs.Common.{◌≡◌, ◌++◌, drop, map, string_bytes}
use Rattle.ws_runs.specs.Rows.{others_listed}
use Rattle.ws_runs.specs.Views.{texts_now}
use Rattle.ws_runs.proofs.rows.push_listed.Given as goal

abbrev pub invariant-loop-name : goal.invariant-loop-name
invariant-loop-name l =
    texts_now l.rows.items ++ others_listed (texts_now l.ids) (map string_bytes (drop l.name-index l.listed))
    ≡ texts_now l.initial.rows.items ++ others_listed (texts_now l.ids) (map string_bytes l.listed)
