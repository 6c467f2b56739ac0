-- Front after front: what stands before the rest of the piece was taken.
use Rattle.std.proofs.Common.{◌≡◌, ◌++◌, ℕ, List, length}
use Rattle.ws_wire.specs.declared.role.Role.{Role}
use Rattle.ws_faults.specs.Finding.{HasSearched}
use Rattle.ws_faults.proofs.finding.FaultFinder.take.Given as goal

-- what stands before the rest was taken
abbrev pub invariant-loop-rest : goal.invariant-loop-rest
invariant-loop-rest l = (done : List ℕ) × (l.piece ≡ done ++ l.rest)
    × ((role : Role) (bytes : List ℕ) → HasSearched role l.fn.self bytes → HasSearched role l.self (bytes ++ done))

abbrev pub decreases-loop-rest : goal.decreases-loop-rest
decreases-loop-rest l = length l.rest
