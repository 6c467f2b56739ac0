-- The cases of the scripts so far stand in their order, and as many scripts are left as make up all.
use Rattle.std.proofs.Common.{◌≡◌, ◌+◌, All, length}
use Rattle.ws_scripts.specs.Scripts.{CanBeRun}
use Rattle.ws_sweep.specs.Order.{count_of_scripts}
use Rattle.wst_run.specs.ClientSweeps.{AreNamedCases}
use Rattle.wst_run.proofs.sweeping_clients.short_cases.Given as goal

abbrev pub invariant-loop-script : goal.invariant-loop-script
invariant-loop-script l = record {
  named : AreNamedCases l.expected 0 l.cases.items;
  many : length l.cases.items ≡ l.scripts.next;
  place : l.scripts.next + l.scripts.left ≡ count_of_scripts l.steps;
  runs : All CanBeRun l.cases.items;
}

abbrev pub decreases-loop-script : goal.decreases-loop-script
decreases-loop-script l = l.scripts.left
