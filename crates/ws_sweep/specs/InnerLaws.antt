-- The laws of the layers below as one fact, for proofs: a reader may skip this file.
use Rattle.std.specs.Prelude.{◌≡◌, ℕ, List, [], ◌∷◌, ◌++◌, Some}
use Rattle.ws_wire.specs.declared.role.Role.{Role}
use Rattle.ws_wire.specs.Header.{AreBytes}
use Rattle.ws_session.specs.declared.event.Event.{Event}
use Rattle.ws_session.specs.Limits.{LimitsValue}
use Rattle.ws_session.specs.Events.{HasEvents}
use Rattle.ws_sweep.specs.ShortCases.{IsCloseOrFault}

-- a stream has one list of events
abbrev pub OneListOfEvents : Type 0
OneListOfEvents = (role : Role) (limits : LimitsValue) (bytes : List ℕ) (events others : List Event)
    → HasEvents role limits bytes events → HasEvents role limits bytes others → events ≡ others

-- bytes have events, more bytes leave them in front, and nothing comes after a close or a fault
pub record EndLaws : Type 0 where
  pub some : (role : Role) (limits : LimitsValue) (bytes : List ℕ) → AreBytes bytes
      → (events : List Event) × HasEvents role limits bytes events
  pub go_on : (role : Role) (limits : LimitsValue) (bytes more : List ℕ) (events all : List Event)
      → HasEvents role limits bytes events → HasEvents role limits (bytes ++ more) all
      → (later : List Event) × (all ≡ events ++ later)
  pub end_last : (role : Role) (limits : LimitsValue) (bytes : List ℕ) (events later : List Event) (last : Event)
      → IsCloseOrFault (Some last) → HasEvents role limits bytes (events ++ last ∷ later) → later ≡ []
