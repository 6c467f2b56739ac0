-- What was told, with one event more behind it.
use Rattle.std.proofs.Common.{◌≡◌, ◌∙◌, ◌⊎◌, List, [], ◌∷◌, ◌++◌, refl, ap, inl, inr, append_assoc}
use Rattle.ws_scripts.specs.declared.transcript.Turn.{Turn}
use Rattle.ws_machines.specs.Told.{Told}
use Rattle.ws_machines.specs.Told.Told.{NothingCame}
use Rattle.ws_tester.specs.Following.{ScriptValue}
use Rattle.ws_tester.specs.Records.{IsWaitedFor, Was}

pub was_more : (event : Told) (told : List Told) (x : Told) → Was event told → Was event (told ++ x ∷ [])
was_more event [] x h = absurd h
was_more event (first ∷ told) x (inl e) = inl e
was_more event (first ∷ told) x (inr h) = inr (was_more event told x h)

pub was_now : (event : Told) (told : List Told) → Was event (told ++ event ∷ [])
was_now event [] = inl refl
was_now event (first ∷ told) = inr (was_now event told)

pub was_before : (event : Told) (told : List Told) (x : Told) → Was event (told ++ x ∷ [])
    → Was event told ⊎ (x ≡ event)
was_before event [] x (inl e) = inr e
was_before event [] x (inr h) = absurd h
was_before event (first ∷ told) x (inl e) = inl (inl e)
was_before event (first ∷ told) x (inr h) = pick (was_before event told x h)
  where
    pick : Was event told ⊎ (x ≡ event) → Was event (first ∷ told) ⊎ (x ≡ event)
    pick (inl w) = inl (inr w)
    pick (inr e) = inr e

pub waited_more : (run : ScriptValue) (turns : List Turn) (told : List Told) (x : Told) → IsWaitedFor run turns told
    → IsWaitedFor run turns (told ++ x ∷ [])
waited_more run turns told x (inl come) = inl come
waited_more run turns told x (inr (before, at, sent, got)) = inr (
  before,
  record {
    after = at.after ++ x ∷ [];
    parts = ap (λ (l : List Told). l ++ x ∷ []) at.parts ∙ append_assoc before (NothingCame ∷ at.after) (x ∷ []);
  },
  sent,
  got,
)
