-- None of the names so far is the one that is looked for.
use Rattle.std.proofs.Common.{◌≡◌, false, take}
use Rattle.ws_runs.specs.Names.{is_among}
use Rattle.ws_runs.specs.Views.{texts_now}
use Rattle.ws_runs.proofs.rows.is_among.Given as goal

abbrev pub invariant-loop-id : goal.invariant-loop-id
invariant-loop-id l = is_among l.name (texts_now (take l.id-index l.ids)) ≡ false
