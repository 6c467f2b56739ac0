-- So far there are no more places than are wanted, and nothing goes on for any.
use Rattle.std.proofs.Common.{◌≡◌, ◌-◌, ◌≤◌, ℕ, Some, length}
use Rattle.std.specs.List.{slice_get}
use Rattle.ws_networks.specs.declared.network_loop.Outbound.{Outbound}
use Rattle.ws_networks.specs.declared.network_loop.Outbound.TheVariants.{Idle}
use Rattle.ws_networks.proofs.network_loop.idle.Given as goal

abbrev pub invariant-loop-all : goal.invariant-loop-all
invariant-loop-all g l = record {
  within : length l.all.items ≤ l.len;
  idle : (i : ℕ) (o : Outbound g.row.M.Denot g.row.A.Denot g.row.S.Denot g.row.W.Denot)
      → slice_get l.all.items i ≡ Some o → o ≡ Idle;
}

abbrev pub decreases-loop-all : goal.decreases-loop-all
decreases-loop-all g l = l.len - length l.all.items
