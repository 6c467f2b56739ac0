-- What is known of the steps before the last of a script, for proofs: a reader may skip this file.
use Rattle.std.specs.Prelude.{◌≡◌, ⊤, ℕ, false, List, Option, Some, None}
use Rattle.ws_wire.specs.declared.role.Role.{Role}
use Rattle.ws_wire.specs.Frame.{Frame}
use Rattle.ws_session.specs.Exchange.{HasExchanged, SessionValue}
use Rattle.ws_session.specs.Sends.{most_limits}
use Rattle.ws_sweep.specs.declared.short_cases.Front.{Front}
use Rattle.ws_sweep.specs.ShortCases.{bytes_sent, short_steps}

-- a session of this role, which takes the largest messages, has taken these bytes
pub record IsSessionAfter (tested : Role) (bytes : List ℕ) (session : SessionValue) : Type 0 where
  pub role : session.role ≡ tested
  pub limits : session.limits ≡ most_limits
  pub sent : List Frame
  pub agrees : HasExchanged session sent bytes false

-- nothing, or a session has taken what the steps at some places send
abbrev pub IsFrontOf : Role → Option (List ℕ) → Option Front → Type 0
IsFrontOf tested key None = ⊤
IsFrontOf tested key (Some front) =
    IsSessionAfter tested (bytes_sent (short_steps tested front.places) key) front.session

-- it is of the steps at these places
abbrev pub IsKnown : List ℕ → Option Front → Type 0
IsKnown places None = ⊥
IsKnown places (Some front) = front.places ≡ places
