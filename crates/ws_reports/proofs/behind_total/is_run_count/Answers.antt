-- The first count is read, and then the other.
use Rattle.std.proofs.Common.{ℕ, List, [], codes}
use Rattle.ws_reports.specs.KnownLines.{HasCount, IsRunCount}
use Rattle.ws_reports.proofs.BehindTotals.{count_then}
use Rattle.ws_reports.proofs.Parts.{told_false}
use Rattle.ws_reports.proofs.behind_total.is_run_count.Goals as goal

pub returns-in-Some : goal.returns-in-Some
returns-in-Some c = count_then (λ (rest : List ℕ). HasCount (codes "run") [] rest) c.args.line.now (codes "of ")
    c.in-Some.rest.now c.is_count_of.result c.in-Some.ensures c.is_count_of.ensures

pub returns-in-None : goal.returns-in-None
returns-in-None c = told_false (IsRunCount c.args.line.now) (λ (rest, has, others). c.in-None.ensures rest has)
