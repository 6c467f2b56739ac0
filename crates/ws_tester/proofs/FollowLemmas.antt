-- One event more behind those that were told, and the turns that follow.
use Rattle.std.proofs.Common.{suc, List, [], ◌∷◌, ◌++◌, refl, subst}
use Rattle.ws_machines.specs.Told.{Told}
use Rattle.ws_tester.specs.RunStates.{RunState, with_next_turn}
use Rattle.ws_tester.specs.Following.{Follows, Happens, HasOutcome, Settles}
use Rattle.ws_tester.specs.declared.outcome.Outcome.TheVariants.{Next}

pub follows_more : (start old new : RunState) (told : List Told) (event : Told) → Follows start old told
    → Happens old event new → Follows start new (told ++ event ∷ [])
follows_more start old new [] event h k = (new, subst (λ (x : RunState). Happens x event new) h k, refl)
follows_more start old new (first ∷ told) event (next, step, rest) k =
    (next, step, follows_more next old new told event rest k)

-- a turn that is over as soon as it has begun, and then those that follow
pub settles_next : (x now : RunState) → HasOutcome x Next → Settles (with_next_turn x) now → Settles x now
settles_next x now h (n, rest) = (suc n, (h, rest))
