-- So far there are no more places than are wanted, and nothing is held beside any.
use Rattle.std.proofs.Common.{◌≡◌, ◌-◌, ◌≤◌, ℕ, None, Option, Some, length}
use Rattle.std.specs.List.{slice_get}
use Rattle.ws_clients.specs.declared.clients.Held.{Held}
use Rattle.ws_clients.proofs.clients.none_held.Given as goal

abbrev pub invariant-loop-held : goal.invariant-loop-held
invariant-loop-held g l = record {
  within : length l.held.items ≤ l.len;
  none : (i : ℕ) (h : Option (Held g.row.S.Denot)) → slice_get l.held.items i ≡ Some h → h ≡ None;
}

abbrev pub decreases-loop-held : goal.decreases-loop-held
decreases-loop-held g l = l.len - length l.held.items
