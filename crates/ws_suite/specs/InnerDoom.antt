-- Inside the crate: how it is found out whether what was sent is doomed. A reader may skip this file.
use Rattle.std.specs.Prelude.{◌≡◌, ◌≢◌, ℕ, ◌+◌, ◌≤◌, ◌<◌, ◌↔◌, Bool, false, ⊤, List, [], ◌∷◌, length, slice_index_or}
use Rattle.std.specs.Prelude.{Option, Some, None, IsTrue}
use Rattle.ws_wire.specs.declared.role.Role.{Role}
use Rattle.ws_wire.specs.Frame.{Frame, KeyedFrame}
use Rattle.ws_session.specs.Doomed.{EndsDoomed}
use Rattle.ws_session.specs.Exchange.{SessionValue, HasExchanged}
use Rattle.ws_session.specs.Sends.{most_limits}
use Rattle.ws_suite.specs.declared.evidence.InTurn.{InTurn}
use Rattle.ws_suite.specs.declared.evidence.Ending.{Ending}
use Rattle.ws_suite.specs.declared.evidence.doom.Dooms.{Dooms}
use Rattle.ws_suite.specs.Doom.{IsDoomedAfter}

-- nothing was sent in this turn or after it
abbrev pub AreWithoutBytes : ℕ → List (List ℕ) → Type 0
AreWithoutBytes turn turns = (later : ℕ) → turn ≤ later → slice_index_or turns later [] ≡ []

-- of the first turns, so many, this is the last in which bytes were sent
abbrev pub IsLastUntil : ℕ → List (List ℕ) → Option ℕ → Type 0
IsLastUntil count turns None = (turn : ℕ) → turn < count → slice_index_or turns turn [] ≡ []
IsLastUntil count turns (Some last) = (slice_index_or turns last [] ≢ [])
    × ((later : ℕ) → last < later → later < count → slice_index_or turns later [] ≡ [])

-- the last turn with bytes, by that before this turn and what was sent in it
abbrev pub last_sent : Option ℕ → ℕ → List ℕ → Option ℕ
last_sent last turn [] = last
last_sent last turn (byte ∷ bytes) = Some turn

-- a session of this role that takes the largest messages has taken these bytes
pub record HasTakenBytes (role : Role) (bytes : List ℕ) (session : SessionValue) : Type 0 where
  pub sent : List Frame
  pub exchanged : HasExchanged session sent bytes false
  pub same_role : session.role ≡ role
  pub limits : session.limits ≡ most_limits

-- these bytes are doomed at an end of this role
abbrev pub AreDoomed : Role → List ℕ → Type 0
AreDoomed role bytes = (frames : List KeyedFrame) × (rest : List ℕ) × EndsDoomed role most_limits bytes frames rest

-- all that was sent is doomed
abbrev pub IsDoomedAtEnd : Role → List (List ℕ) → Type 0
IsDoomedAtEnd tested turns = IsDoomedAfter tested turns (length turns)

-- a close or a fault was got in this turn
abbrev pub HasEndedInTurn : Option (InTurn Ending) → ℕ → Type 0
HasEndedInTurn None turn = ⊥
HasEndedInTurn (Some got) turn = got.turn ≡ turn

-- It is known whether what was sent was doomed when the turn was over in which a close or a fault was got, if one was.
-- A fault that was got may count as a close.
abbrev pub IsKnownAtClose : Role → List (List ℕ) → Option (InTurn Ending) → Bool → Type 0
IsKnownAtClose tested turns None at_close = ⊤
IsKnownAtClose tested turns (Some got) at_close = IsTrue at_close ↔ IsDoomedAfter tested turns (got.turn + 1)

-- so it is, and at the end
pub record AreDooms (tested : Role) (turns : List (List ℕ)) (got : Option (InTurn Ending)) (dooms : Dooms)
    : Type 0 where
  pub at_end : IsTrue dooms.at_end ↔ IsDoomedAtEnd tested turns
  pub at_close : IsKnownAtClose tested turns got dooms.at_close
