-- Reply after reply: those before what is left were compared.
use Rattle.std.proofs.Common.{◌≡◌, ◌++◌, List, length}
use Rattle.ws_suite.specs.declared.evidence.InTurn.{InTurn}
use Rattle.ws_suite.specs.declared.evidence.Reply.{Reply}
use Rattle.ws_suite.specs.Pairings.{IsPairingOf}
use Rattle.ws_suite.proofs.evidence.pairing.Pairing.take_due.Given as goal

-- what stands before the rest was compared
abbrev pub invariant-loop-reply : goal.invariant-loop-reply
invariant-loop-reply l = (done : List (InTurn Reply)) × (l.fresh ≡ done ++ l.left)
    × ((dues gots : List (InTurn Reply)) → IsPairingOf dues gots l.fn.self → IsPairingOf (dues ++ done) gots l.self)

abbrev pub decreases-loop-reply : goal.decreases-loop-reply
decreases-loop-reply l = length l.left
