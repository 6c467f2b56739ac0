-- What a connection did as a stream, with one call more.
use Rattle.std.proofs.Common.{List, [], ◌∷◌, ◌++◌, refl, subst}
use Rattle.ws_machines.specs.Told.{Told}
use Rattle.ws_machines.specs.Machines.{Extends}
use Rattle.ws_connection.specs.ConnectionValues.{ConnectionValue}
use Rattle.ws_connection.specs.StreamCalls.{DidCalls, IsCallOf}

-- one call behind the others
pub did_one_more : (start old new : ConnectionValue) (told : List Told) (event : Told) → DidCalls start old told
    → IsCallOf event (record { old = old; new = new }) → DidCalls start new (told ++ event ∷ [])
did_one_more start old new [] event h call =
    (new, subst (λ (x : ConnectionValue). IsCallOf event (record { old = x; new = new })) h call, refl)
did_one_more start old new (first ∷ told) event (next, before, h) call =
    (next, before, did_one_more next old new told event h call)

-- a call that is told extends what was done
pub extends_by_call : (old new : ConnectionValue) (event : Told) → IsCallOf event (record { old = old; new = new })
    → Extends DidCalls old new (event ∷ [])
extends_by_call old new event call start told h = did_one_more start old new told event h call
