-- Front after front: what stands before the rest of the part was taken and collected as bytes of the last turn.
use Rattle.std.proofs.Common.{◌≡◌, ◌++◌, ◌∷◌, [], ℕ, List, length, true}
use Rattle.ws_wire.specs.declared.role.Role.{Role}
use Rattle.ws_session.specs.Exchange.{is_over}
use Rattle.ws_suite.specs.declared.evidence.InTurn.{InTurn}
use Rattle.ws_suite.specs.declared.evidence.Reply.{Reply}
use Rattle.ws_suite.specs.InnerCollecting.{HasTakenWay}
use Rattle.ws_suite.specs.InnerMarks.{HasSeenBytes}
use Rattle.ws_suite.proofs.evidence.collecting.take_part.Given as goal

-- what stands before the rest was taken
abbrev pub invariant-loop-rest : goal.invariant-loop-rest
invariant-loop-rest g l = (done : List ℕ) × (l.part ≡ done ++ l.rest)
    × ((handed : List (InTurn Reply)) (role : Role) (turns : List (List ℕ)) (last : List ℕ) → l.number ≡ length turns
    → HasTakenWay (g.K.KeepsReplies.keeps handed) l.way role (turns ++ last ∷ []) l.fn.taken.session l.fn.taken.collected
    → HasTakenWay (g.K.KeepsReplies.keeps handed) l.way role (turns ++ (last ++ done) ∷ []) l.taken.session l.taken.collected)
    × ((role : Role) (bytes : List ℕ) → HasSeenBytes role l.fn.taken.session bytes l.fn.taken.seen
    → HasSeenBytes role l.taken.session (bytes ++ done) l.taken.seen)
    × (is_over l.fn.taken.session.status ≡ true → l.taken.session ≡ l.fn.taken.session)

abbrev pub decreases-loop-rest : goal.decreases-loop-rest
decreases-loop-rest g l = length l.rest
