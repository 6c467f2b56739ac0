-- The runs so far, and the cases that are left.
use Rattle.std.proofs.Common.{◌≡◌, drop, map, string_bytes}
use Rattle.std.specs.List.{fold}
use Rattle.ws_runs.specs.Summary.{id_runs_of, with_id}
use Rattle.ws_runs.specs.Views.{run_values, texts_now}
use Rattle.ws_runs.proofs.id_runs.id_runs_of.Given as goal

abbrev pub invariant-loop-id : goal.invariant-loop-id
invariant-loop-id l =
    fold (with_id (map string_bytes l.listed)) (run_values l.runs.items) (texts_now (drop l.id-index l.ids))
    ≡ id_runs_of (map string_bytes l.listed) (texts_now l.ids)
