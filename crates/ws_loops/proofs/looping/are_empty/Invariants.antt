-- Nothing stands in any place in front of this one.
use Rattle.std.proofs.Common.{◌≡◌, ◌<◌, ◌-◌, ◌≤◌, ℕ, Some, length}
use Rattle.std.specs.List.{slice_get}
use Rattle.ws_loops.specs.declared.places.Place.{Place}
use Rattle.ws_loops.specs.declared.places.Place.TheVariants.{Empty}
use Rattle.ws_loops.proofs.looping.are_empty.Given as goal

abbrev pub invariant-loop-at : goal.invariant-loop-at
invariant-loop-at g l = record {
  within : l.at ≤ length l.places;
  empty : (i : ℕ) (place : Place g.row.M.Denot g.row.S.Denot) → i < l.at → slice_get l.places i ≡ Some place
      → place ≡ Empty;
}

abbrev pub decreases-loop-at : goal.decreases-loop-at
decreases-loop-at g l = length l.places - l.at
