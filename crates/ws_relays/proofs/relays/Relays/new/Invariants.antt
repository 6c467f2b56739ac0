-- So far nothing goes on in the places of the clients, and those of their servers are kept.
use Rattle.std.proofs.Common.{◌≡◌, ◌-◌, ◌≤◌, ℕ, Some, length}
use Rattle.std.specs.List.{slice_get}
use Rattle.ws_relays.specs.declared.relays.Pair.TheVariants as pair
use Rattle.ws_relays.proofs.RelayBegins.{AreKeptTo}
use Rattle.ws_relays.proofs.relays.Relays.new.Given as goal

abbrev pub invariant-loop-next : goal.invariant-loop-next
invariant-loop-next g l = record {
  within : l.next ≤ l.len;
  pairs : length l.pairs.items ≡ l.next;
  free : (i : ℕ) (x : _) → slice_get l.pairs.items i ≡ Some x → x ≡ pair.Free;
  kept : AreKeptTo l.len l.next l.ends;
}

abbrev pub decreases-loop-next : goal.decreases-loop-next
decreases-loop-next g l = l.len - l.next
