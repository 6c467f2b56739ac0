-- Something stands in each place in front of this one.
use Rattle.std.proofs.Common.{◌-◌, ◌≤◌, length}
use Rattle.ws_loops.specs.Places.{AreOccupied}
use Rattle.ws_loops.proofs.places.free_place.Given as goal

abbrev pub invariant-loop-at : goal.invariant-loop-at
invariant-loop-at g l = record {
  within : l.at ≤ length l.places;
  taken : AreOccupied l.places l.at;
}

abbrev pub decreases-loop-at : goal.decreases-loop-at
decreases-loop-at g l = length l.places - l.at
