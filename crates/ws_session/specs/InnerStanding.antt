-- Inside the crate: what holds of what a session keeps, for its invariant. A reader may skip this file.
use Rattle.std.specs.Prelude.{Option}
use Rattle.ws_session.specs.declared.status.Status.{Status}
use Rattle.ws_session.specs.Exchange.{SendingValue}
use Rattle.ws_session.specs.InnerInvariant.{IsSound}
use Rattle.ws_session.specs.InnerReceiver.{ReceiverValue, IsExact, session_with}

-- what shows is sound, and no payload is kept but what shows
pub record IsStanding (v : ReceiverValue) (sending : Option SendingValue) (status : Status) : Type 0 where
  pub sound : IsSound (session_with v sending status)
  pub exact : IsExact v
