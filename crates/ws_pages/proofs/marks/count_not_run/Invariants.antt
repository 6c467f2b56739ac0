-- The cases so far are counted.
use Rattle.std.proofs.Common.{◌≡◌, ◌≤◌, take}
use Rattle.ws_pages.specs.Page.{count_not_run}
use Rattle.ws_runs.specs.Views.{texts_now}
use Rattle.ws_pages.proofs.marks.count_not_run.Given as goal

abbrev pub invariant-loop-id : goal.invariant-loop-id
invariant-loop-id l = (l.count ≡ count_not_run (texts_now (take l.id-index l.ids)) l.peer) × (l.count ≤ l.id-index)
