-- Half after half: what stands before the rest of the piece was taken and told, and the rest grows shorter.
use Rattle.std.proofs.Common.{◌≡◌, ◌++◌, ℕ, List, length}
use Rattle.ws_calls.specs.InnerSteps.{HasToldPart}
use Rattle.ws_calls.proofs.calling.Caller.take_piece.Given as goal

-- what stands before the rest was taken and told
abbrev pub invariant-halves : goal.invariant-halves
invariant-halves g l = (done : List ℕ) × (l.fn.piece.items ≡ done ++ l.piece.items)
    × HasToldPart g.E.Scripted.value g.E.Scripted.reply l.fn.self l.self done l.key

abbrev pub decreases-halves : goal.decreases-halves
decreases-halves g l = length l.piece.items
