-- Nothing stands in the first places.
use Rattle.std.proofs.Common.{◌≡◌, ◌<◌, ◌-◌, ◌≤◌, ℕ, Some, length}
use Rattle.std.specs.List.{slice_get}
use Rattle.ws_networks.specs.NetworkLoops.{Standing}
use Rattle.ws_networks.specs.NetworkLoops.Standing.{Free}
use Rattle.wst_errands.proofs.errands.leave_all.Given as goal

abbrev pub invariant-loop-at : goal.invariant-loop-at
invariant-loop-at g l = record {
  within : l.at ≤ length l.all.standings;
  free : (i : ℕ) (x : Standing g.row.M.Denot g.row.S.Denot g.row.A.Denot g.row.W.Denot) → i < l.at
      → slice_get l.all.standings i ≡ Some x → x ≡ Free;
}

abbrev pub decreases-loop-at : goal.decreases-loop-at
decreases-loop-at g l = length l.all.standings - l.at
