-- Part after part: what stands before the rest of the piece was taken and told, and the rest grows shorter.
use Rattle.std.proofs.Common.{◌≡◌, ◌++◌, ℕ, List, length}
use Rattle.ws_calls.specs.InnerSteps.{HasToldPart}
use Rattle.ws_calls.proofs.calling.Caller.take_parts.Given as goal

-- what stands before the rest was taken and told
abbrev pub invariant-loop-rest : goal.invariant-loop-rest
invariant-loop-rest g l = (done : List ℕ) × (l.piece ≡ done ++ l.rest)
    × HasToldPart g.E.Scripted.value g.E.Scripted.reply l.fn.self l.self done l.key

abbrev pub decreases-loop-rest : goal.decreases-loop-rest
decreases-loop-rest g l = length l.rest
