-- Front after front: what stands before the rest of the part was taken, and what is progress of it is noted.
use Rattle.std.proofs.Common.{◌≡◌, ◌++◌, ◌∷◌, [], ℕ, List, length, true}
use Rattle.ws_wire.specs.declared.role.Role.{Role}
use Rattle.ws_session.specs.Exchange.{is_over}
use Rattle.ws_session.specs.declared.event.Event.{Event}
use Rattle.ws_suite.specs.declared.evidence.InTurn.{InTurn}
use Rattle.ws_suite.specs.declared.evidence.Reply.{Reply}
use Rattle.ws_suite.specs.InnerCollecting.{HasTakenWay}
use Rattle.ws_suite.specs.InnerProgress.{TellsAdded, noted_pings, notes_progress}
use Rattle.ws_suite.proofs.evidence.watching.take_watched_part.Given as goal

-- what stands before the rest was taken, and these events were noted
abbrev pub invariant-loop-rest : goal.invariant-loop-rest
invariant-loop-rest g l = (done : List ℕ) × (l.part ≡ done ++ l.rest)
    × ((handed : List (InTurn Reply)) (role : Role) (turns : List (List ℕ)) (last : List ℕ) → l.number ≡ length turns
    → HasTakenWay (g.K.KeepsReplies.keeps handed) l.way role (turns ++ last ∷ []) l.fn.taken.session l.fn.taken.collected
    → HasTakenWay (g.K.KeepsReplies.keeps handed) l.way role (turns ++ (last ++ done) ∷ []) l.taken.session l.taken.collected)
    × ((later : List Event)
    × TellsAdded l.fn.taken.session l.taken.session done later
    × (l.pings ≡ noted_pings l.way l.fn.pings later) × (l.progress ≡ notes_progress l.way l.fn.pings later))
    × (is_over l.fn.taken.session.status ≡ true → l.taken.session ≡ l.fn.taken.session)

abbrev pub decreases-loop-rest : goal.decreases-loop-rest
decreases-loop-rest g l = length l.rest
