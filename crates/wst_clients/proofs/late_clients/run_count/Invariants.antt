-- Those of the cases so far that were run.
use Rattle.std.proofs.Common.{◌≡◌, ◌≤◌, take}
use Rattle.wst_clients.specs.LateClients.{run_count}
use Rattle.wst_clients.proofs.late_clients.run_count.Given as goal

abbrev pub invariant-loop-place : goal.invariant-loop-place
invariant-loop-place l = record {
  counted : l.count ≡ run_count (take l.place l.standing.behaviors);
  few : l.count ≤ l.place;
}
