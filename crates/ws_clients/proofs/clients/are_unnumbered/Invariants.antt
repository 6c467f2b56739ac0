-- So far none is a number.
use Rattle.std.proofs.Common.{◌≡◌, ◌-◌, ◌<◌, ◌≤◌, ℕ, None, length}
use Rattle.ws_clients.specs.Numbers.{client_number}
use Rattle.ws_clients.proofs.clients.are_unnumbered.Given as goal

abbrev pub invariant-loop-next : goal.invariant-loop-next
invariant-loop-next l = record {
  within : l.next ≤ length l.numbers;
  none : (i : ℕ) → i < l.next → client_number l.numbers i ≡ None;
}

abbrev pub decreases-loop-next : goal.decreases-loop-next
decreases-loop-next l = length l.numbers - l.next
