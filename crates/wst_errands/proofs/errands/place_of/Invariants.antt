-- It stands at this place of the line or behind it.
use Rattle.std.proofs.Common.{◌≡◌, ◌-◌, ◌≤◌, ℕ, Some, length}
use Rattle.std.specs.List.{slice_get}
use Rattle.wst_errands.specs.declared.errands.Stage.TheVariants.{UnderWay}
use Rattle.wst_errands.proofs.errands.place_of.Given as goal

abbrev pub invariant-loop-place : goal.invariant-loop-place
invariant-loop-place g l = (j : ℕ) × (l.place ≤ j) × (slice_get l.line.items j ≡ Some (UnderWay l.at))

abbrev pub decreases-loop-place : goal.decreases-loop-place
decreases-loop-place g l = length l.line.items - l.place
