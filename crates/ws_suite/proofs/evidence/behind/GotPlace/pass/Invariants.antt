-- Turn after turn: the place is on its way.
use Rattle.std.proofs.Common.{ℕ, List, ◌+◌, length}
use Rattle.ws_scripts.specs.declared.transcript.Turn.{Turn}
use Rattle.ws_suite.specs.InnerMarks.{IsPlaceIn}
use Rattle.ws_suite.proofs.PassedPlaces.{IsPassing}
use Rattle.ws_suite.proofs.evidence.behind.GotPlace.pass.Given as goal

-- so many bytes are still to be passed
abbrev pub invariant-loop-self : goal.invariant-loop-self
invariant-loop-self l = (turns : List Turn) (n : ℕ) → IsPlaceIn turns n l.fn.self
    → IsPassing turns (n + l.passed) l.self l.to_pass

abbrev pub decreases-loop-self : goal.decreases-loop-self
decreases-loop-self l = length l.self.later
