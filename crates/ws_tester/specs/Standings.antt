-- How what one end sent stands, at the other one, which takes the largest messages, and what a run makes of it (RFC
-- 6455 sections 5 and 7.1).
use Rattle.std.specs.Prelude.{◌≡◌, ℕ, ◌⊎◌, Bool, true, false, List, Option, Some}
use Rattle.ws_wire.specs.declared.role.Role.{Role}
use Rattle.ws_wire.specs.declared.role.Role.TheVariants.{Client, Server}
use Rattle.ws_wire.specs.Frame.{Frame}
use Rattle.ws_session.specs.declared.event.Event.{Event}
use Rattle.ws_session.specs.declared.event.Event.TheVariants as event
use Rattle.ws_session.specs.Events.{HasEvents}
use Rattle.ws_session.specs.Exchange.{HasExchanged, SessionValue, last_event}
use Rattle.ws_session.specs.Sends.{most_limits}
use Rattle.ws_session.specs.declared.status.Status.{Status}
use Rattle.ws_session.specs.declared.status.Status.TheVariants as status
use Rattle.ws_scripts.specs.declared.expectation.Expectation.{Expectation}
use Rattle.ws_scripts.specs.declared.expectation.Expectation.TheVariants.{Echo, Protocol}
use Rattle.ws_suite.specs.Evidence.{other_role}
use Rattle.ws_suite.specs.Marks.{FailsByUndefinedCode}
use Rattle.ws_tester.specs.declared.standing.Standing.{Standing}
use Rattle.ws_tester.specs.declared.standing.Standing.TheVariants.{Going, Closed, Faulty}

-- by the last event
abbrev pub standing_after : Option Event → Standing
standing_after (Some (event.Close close)) = Closed
standing_after (Some (event.Failed reason)) = Faulty
standing_after _ = Going

-- The bytes stand so: their last event, of those that an end of this role tells of them, is a close, or a fault, or
-- they have neither.
pub record HasStanding (reader : Role) (standing : Standing) (bytes : List ℕ) : Type 0 where
  pub events : List Event
  pub are_events : HasEvents reader most_limits bytes events
  pub last : standing_after (last_event events) ≡ standing

-- ---- how what was got stands to a run

-- the fault at which a close frame's code is one that the standard leaves undefined (section 7.4): by the protocol it
-- counts as a close, of an echo it doesn't
abbrev pub CountsAsClose : Expectation → Role → List ℕ → Type 0
CountsAsClose Echo reader bytes = ⊥
CountsAsClose Protocol reader bytes = (code : ℕ) × FailsByUndefinedCode reader bytes code

-- What was got from the tested end stands so to a run: a fault that counts as a close as a close, all else as it is.
pub record StandsAs (tested : Role) (expected : Expectation) (standing : Standing) (got : List ℕ) : Type 0 where
  pub counted : (CountsAsClose expected (other_role tested) got × (standing ≡ Closed))
      ⊎ ((¬ (CountsAsClose expected (other_role tested) got)) × HasStanding (other_role tested) standing got)

-- ---- what a run makes of it

-- Behind a close of a server, which ends the connection, that is waited for; of a client its close is enough (section
-- 7.1.1).
abbrev pub stops_at_close : Role → Bool
stops_at_close Server = false
stops_at_close Client = true

abbrev pub waits_at_close : Role → Bool
waits_at_close Server = true
waits_at_close Client = false

-- the run ends where what was got from the tested end has a fault, or a close behind which nothing is waited for
abbrev pub stops_run : Role → Standing → Bool
stops_run tested Going = false
stops_run tested Closed = stops_at_close tested
stops_run tested Faulty = true

-- the tester ends its own direction where what was got has a close behind which the end is waited for
abbrev pub is_server_close : Role → Standing → Bool
is_server_close tested Going = false
is_server_close tested Closed = waits_at_close tested
is_server_close tested Faulty = false

-- what was got from the tested end stands in one of these ways
abbrev pub HasStandingBy : (Role → Standing → Bool) → Bool → Role → Expectation → List ℕ → Type 0
HasStandingBy test answer tested expected got =
    (standing : Standing) × (test tested standing ≡ answer) × StandsAs tested expected standing got

-- it has a close of a server
abbrev pub HasServerClose : Role → Expectation → List ℕ → Type 0
HasServerClose tested expected got = HasStandingBy is_server_close true tested expected got

-- ---- by a session

-- the session is that of an end of this role that has taken just these bytes
pub record HearsAll (reader : Role) (session : SessionValue) (bytes : List ℕ) : Type 0 where
  pub role : session.role ≡ reader
  pub limits : session.limits ≡ most_limits
  pub sent : List Frame
  pub exchanged : HasExchanged session sent bytes false

-- by its status, where its stream has not ended
abbrev pub standing_of_status : Status → Standing
standing_of_status (status.Clean code) = Closed
standing_of_status (status.Failed reason) = Faulty
standing_of_status _ = Going
