-- The cases so far are counted.
use Rattle.std.proofs.Common.{◌≡◌, ◌≤◌, take}
use Rattle.ws_junit.specs.Documents.{count_skipped}
use Rattle.ws_junit.proofs.document.count_skipped.Given as goal

abbrev pub invariant-loop-id : goal.invariant-loop-id
invariant-loop-id l = (l.count ≡ count_skipped l.peer (take l.id-index l.listed)) × (l.count ≤ l.id-index)
