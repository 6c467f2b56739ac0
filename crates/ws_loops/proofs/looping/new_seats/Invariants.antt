-- So far there are no more places than are wanted, and nothing stands in any.
use Rattle.std.proofs.Common.{◌≡◌, ◌-◌, ◌≤◌, ℕ, None, Option, Some, length}
use Rattle.std.specs.List.{slice_get}
use Rattle.ws_loops.specs.Limits.{AreAllNone}
use Rattle.ws_loops.specs.Places.{AreEmpty}
use Rattle.ws_loops.specs.declared.poller.Readiness.{Readiness}
use Rattle.ws_loops.proofs.looping.new_seats.Given as goal

abbrev pub invariant-loop-places : goal.invariant-loop-places
invariant-loop-places g l = record {
  within : length l.places.items ≤ l.len;
  empty : AreEmpty l.places.items;
  calls : length l.calls.items ≡ length l.places.items;
  uncalled : (i : ℕ) (call : Option Readiness) → slice_get l.calls.items i ≡ Some call → call ≡ None;
  tickets : length l.tickets.items ≡ length l.places.items;
  none : AreAllNone l.tickets.items;
}

abbrev pub decreases-loop-places : goal.decreases-loop-places
decreases-loop-places g l = l.len - length l.places.items
