-- Inside the crate: how progress is noted while bytes are taken. A reader may skip this file.
use Rattle.std.specs.Prelude.{◌≡◌, Bool, false, ℕ, List, ◌++◌}
use Rattle.ws_wire.specs.Frame.{Frame}
use Rattle.ws_session.specs.declared.event.Event.{Event}
use Rattle.ws_session.specs.Events.{HasEvents}
use Rattle.ws_session.specs.Exchange.{HasExchanged, SessionValue}
use Rattle.ws_suite.specs.declared.evidence.collecting.Way.{Way}
use Rattle.ws_suite.specs.declared.evidence.collecting.Way.TheVariants.{Sent, Got, Told}
use Rattle.ws_suite.specs.Progress.{after_pongs, has_progress, with_pings}

-- behind whatever a session took before it took these bytes too, and they add these events
pub record TellsAdded (old new : SessionValue) (bytes : List ℕ) (later : List Event) : Type 0 where
  pub role : new.role ≡ old.role
  pub limits : new.limits ≡ old.limits
  pub events : (sent : List Frame) (taken : List ℕ) → HasExchanged old sent taken false → (events : List Event)
      → HasEvents old.role old.limits taken events → HasEvents old.role old.limits (taken ++ bytes) (events ++ later)
  pub exchanged : (sent : List Frame) (taken : List ℕ) → HasExchanged old sent taken false
      → (more : List Frame) × HasExchanged new more (taken ++ bytes) false

-- the pings that aren't answered after these events, which went this way
abbrev pub noted_pings : Way → List (List ℕ) → List Event → List (List ℕ)
noted_pings Sent pings events = with_pings pings events
noted_pings Got pings events = after_pongs pings events
noted_pings Told pings events = after_pongs pings events

-- whether one of them is progress: what was sent is none
abbrev pub notes_progress : Way → List (List ℕ) → List Event → Bool
notes_progress Sent pings events = false
notes_progress Got pings events = has_progress pings events
notes_progress Told pings events = has_progress pings events
