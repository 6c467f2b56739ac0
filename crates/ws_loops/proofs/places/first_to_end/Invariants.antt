-- That of the places in front of this one which ended first.
use Rattle.std.proofs.Common.{◌-◌, ◌≤◌, length}
use Rattle.ws_loops.proofs.EndLemmas.{IsFirstBefore}
use Rattle.ws_loops.proofs.places.first_to_end.Given as goal

abbrev pub invariant-loop-at : goal.invariant-loop-at
invariant-loop-at l = record {
  within : l.at ≤ length l.tickets;
  first : IsFirstBefore l.tickets l.at l.first;
}

abbrev pub decreases-loop-at : goal.decreases-loop-at
decreases-loop-at l = length l.tickets - l.at
