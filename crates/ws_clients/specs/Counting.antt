-- A listener of which so many clients are taken, and no more.
use Rattle.std.specs.Prelude.{◌≡◌, ℕ, ◌+◌, ◌⊎◌, List, ◌++◌, Option, None, Some, replicate}
use Rattle.ws_loops.specs.Listeners.{AcceptDeed, HasHeard}
use Rattle.ws_loops.specs.Listeners.AcceptDeed.{HadNoClient}
use Rattle.ws_loops.specs.declared.listener.TryAccept.{TryAccept}
use Rattle.ws_loops.specs.declared.listener.TryAccept.TheVariants as accept
use Rattle.ws_clients.specs.Numbers.{clients_given}

-- the listener, and how many clients may still be taken, if they are counted
pub record CountedValue (L : Type 0) : Type 0 where
  pub listener : L
  pub left : Option ℕ

-- so many may still be taken once so many were
abbrev pub IsLeftBehind : Option ℕ → ℕ → Option ℕ → Type 0
IsLeftBehind None given after = after ≡ None
IsLeftBehind (Some most) given after = (left : ℕ) × (after ≡ Some left) × (given + left ≡ most)

-- so many were left and one was asked for: what came of it leaves so many
abbrev pub IsLeftOf : {S W : Type 0} → ℕ → TryAccept S W → Option ℕ → Type 0
IsLeftOf left (accept.Client stream) after = (rest : ℕ) × (after ≡ Some rest) × (rest + 1 ≡ left)
IsLeftOf left (accept.Lost why) after = after ≡ Some left
IsLeftOf left (accept.Failed why) after = after ≡ Some left
IsLeftOf left accept.NotReady after = after ≡ Some left

-- What the listener did is what is told of it, and once no more may be taken it isn't asked: then it is told that no
-- client has come.
pub record HasCounted {L W : Type 0} (did : L → L → List (AcceptDeed W) → Type 0) (start now : CountedValue L)
    (told : List (AcceptDeed W)) : Type 0 where
  pub deeds : List (AcceptDeed W)
  pub heard : HasHeard did start.listener now.listener deeds
  pub left : IsLeftBehind start.left (clients_given deeds) now.left
  pub unasked : ℕ
  pub all : told ≡ deeds ++ replicate unasked HadNoClient
  pub closed : (unasked ≡ 0) ⊎ (now.left ≡ Some 0)
