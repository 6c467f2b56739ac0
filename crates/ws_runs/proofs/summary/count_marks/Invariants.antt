-- The cells so far are counted.
use Rattle.std.proofs.Common.{◌≡◌, ◌≤◌, map, take}
use Rattle.std.specs.List.{count_by}
use Rattle.ws_runs.specs.Runs.{ResultValue}
use Rattle.ws_runs.specs.Marks.{mark_of_words}
use Rattle.ws_runs.specs.Marks.{same_mark}
use Rattle.ws_runs.specs.Views.{result_value}
use Rattle.ws_runs.proofs.summary.count_marks.Given as goal

abbrev pub invariant-loop-case : goal.invariant-loop-case
invariant-loop-case l =
    (l.count ≡ count_by (λ (cell : ResultValue). same_mark (mark_of_words cell.words) l.mark) (map result_value (take
    l.case-index l.cells)))
    × (l.count ≤ l.case-index)
