-- Inside the crate: clients that are served, step by step.
use Rattle.std.specs.Prelude.{◌≡◌, ℕ, ◌⊎◌, ⊤, List, [], ◌∷◌, Option, None, Some, length, slice_set}
use Rattle.ws_loops.specs.Deeds.{Deed, Happened}
use Rattle.ws_loops.specs.Listeners.{AcceptDeed, HasHeard}
use Rattle.ws_loops.specs.declared.places.Place.{Place}
use Rattle.ws_handshake.specs.declared.admission.AcceptedRequest.{AcceptedRequest}
use Rattle.ws_handshake.specs.declared.admission.Admission.{Admission}
use Rattle.ws_handshake.specs.declared.admission.Admission.TheVariants as admission
use Rattle.ws_echo.specs.EchoMachines.{BeginsEcho, EchoValue, WasEchoing}
use Rattle.ws_echo.specs.declared.echo_machine.EchoEnd.{EchoEnd}
use Rattle.ws_clients.specs.Clients.{ClientsValue, IsHeldAt, IsPlaying, PlayNothing, PlaysAt}
use Rattle.ws_clients.specs.declared.clients.Event.{Event}
use Rattle.ws_clients.specs.declared.clients.Event.TheVariants.{Decided, Gone, Played, TooLate}
use Rattle.ws_clients.specs.declared.clients.Event.TheVariants as event
use Rattle.ws_clients.specs.Counting.{CountedValue, HasCounted}
use Rattle.ws_clients.specs.Numbers.{AreUnnumbered, HasNumbered, IsNumberedAt, client_number, reasons_given}
use Rattle.ws_clients.specs.Talks.{IsAdmission}
use Rattle.ws_clients.specs.declared.talking.Talk.{Talk}
use Rattle.ws_serving.specs.ClientEnds.{IsClientEnd, echo_behind, known_to}
use Rattle.ws_serving.specs.declared.client_end.ClientEnd.{ClientEnd}
use Rattle.ws_serving.specs.declared.client_end.ClientEnd.TheVariants.{Echoed, NoMemory}
use Rattle.ws_serving.specs.declared.guests.Guests.{Guests}
use Rattle.ws_serving.specs.declared.guests.Service.{Service}
use Rattle.ws_serving.specs.declared.guests.Step.{Step}
use Rattle.ws_serving.specs.declared.guests.Step.TheVariants.{Deaf, Ended, Full, On}

-- in this place an echo of the service goes on, over the stream from which a request was read that was accepted
abbrev pub EchoesAt : {S : Type 0} → (S → S → List Deed → Type 0) → Service → List (Place (Talk EchoValue) S) → ℕ
    → Type 0
EchoesAt did service places at = (request : AcceptedRequest)
    × (is : IsAdmission did (known_to service) (admission.Accepted request))
    × (start : EchoValue) × BeginsEcho (echo_behind service request) start
    × (happened : List Happened)
    × IsPlaying (λ begun now told. WasEchoing begun now told) did start is.last happened places at

-- whatever is played to clients are such echoes
abbrev pub AreEchoes : {S : Type 0} → (S → S → List Deed → Type 0) → Service → List (Place (Talk EchoValue) S) → Type 0
AreEchoes did service places = (at : ℕ) → PlaysAt places at → EchoesAt did service places at

-- the client of this number is told of, which was in some place and isn't any more
abbrev pub HasGone : ℕ → List (Option ℕ) → List (Option ℕ) → Type 0
HasGone number before after = (at : ℕ) × (client_number before at ≡ Some number) × (after ≡ slice_set before at None)

-- nobody who has a number has gone
abbrev pub NobodyHasGone : List (Option ℕ) → List (Option ℕ) → Type 0
NobodyHasGone before after = (after ≡ before)
    ⊎ ((at : ℕ) × (client_number before at ≡ None) × (after ≡ slice_set before at None))

-- what is told where these were there, and these are
abbrev pub TellsStep : {S : Type 0} → (S → S → List Deed → Type 0) → Service → List (Option ℕ) → List (Option ℕ) → Step
    → Type 0
TellsStep did service before after (Ended number end) = IsClientEnd did service end × HasGone number before after
TellsStep did service before after Full = after ≡ before
TellsStep did service before after On = NobodyHasGone before after
TellsStep did service before after Deaf = AreUnnumbered before × (after ≡ before)

-- it is told for each reason for which no client can be taken
abbrev pub TellsReasons : {W : Type 0} → Step → List W → Type 0
TellsReasons (Ended number end) reasons = reasons ≡ []
TellsReasons On reasons = reasons ≡ []
TellsReasons {W} Full reasons = (why : W) × (reasons ≡ why ∷ [])
TellsReasons {W} Deaf reasons = (why : W) × (reasons ≡ why ∷ [])

-- no reason why no client can be taken is told
abbrev pub IsQuiet : Step → Type 0
IsQuiet (Ended number end) = ⊤
IsQuiet On = ⊤
IsQuiet Full = ⊥
IsQuiet Deaf = ⊥

-- what was seen to in a place, where these were there: so it is told
pub record SeesTo {S : Type 0} (did : S → S → List Deed → Type 0) (service : Service) (before : List (Option ℕ))
    (x y : ClientsValue EchoValue S) (step : Step) : Type 0 where
  pub tells : TellsStep did service before y.numbers step
  pub taken : y.taken ≡ x.taken
  pub known : y.known ≡ x.known
  pub plays : AreEchoes did service y.places

-- the stream is held beside this place from which the request was read of which this came
abbrev pub HoldsAsked : {S : Type 0} → (S → S → List Deed → Type 0) → Service → List (Option S) → ℕ → Admission → Type 0
HoldsAsked did service held at admission = (is : IsAdmission did (known_to service) admission)
    × IsHeldAt held at is.last

-- a stream is held beside this place
abbrev pub HoldsSome : {S : Type 0} → List (Option S) → ℕ → Type 0
HoldsSome {S} held at = (stream : S) × IsHeldAt held at stream

-- this has happened, where these were there, and is to be seen to
abbrev pub IsToSeeTo : {S W : Type 0} → (S → S → List Deed → Type 0) → Service → List (Option ℕ)
    → ClientsValue EchoValue S → Event EchoEnd W → Type 0
IsToSeeTo did service before x (Decided at admission) = IsNumberedAt before at × (x.numbers ≡ before)
    × HoldsAsked did service x.held at admission
IsToSeeTo did service before x (Played at end) = IsNumberedAt before at × (x.numbers ≡ before)
    × HoldsSome x.held at × IsClientEnd did service (Echoed end)
IsToSeeTo did service before x (Gone at number) = (number ≡ client_number before at)
    × (x.numbers ≡ slice_set before at None)
IsToSeeTo did service before x TooLate = x.numbers ≡ before
IsToSeeTo did service before x (event.Full why) = x.numbers ≡ before
IsToSeeTo did service before x (event.Deaf why) = AreUnnumbered before × (x.numbers ≡ before)

-- something has, whoever was there
abbrev pub HasToSeeTo : {S W : Type 0} → (S → S → List Deed → Type 0) → Service → ClientsValue EchoValue S
    → Event EchoEnd W → Type 0
HasToSeeTo did service x event = (before : List (Option ℕ)) × IsToSeeTo did service before x event

-- the client in this place is left, and how its connection has ended is told with its number
abbrev pub HasLeft : {S : Type 0} → ℕ → ClientEnd → ClientsValue EchoValue S → ClientsValue EchoValue S → Step → Type 0
HasLeft at end x y step = (n : ℕ) × (client_number x.numbers at ≡ Some n) × (step ≡ Ended n end)
    × (y.numbers ≡ slice_set x.numbers at None)

-- nobody has come, to be served so
pub record IsUnserved {S : Type 0} (service : Service) (x : ClientsValue EchoValue S) : Type 0 where
  pub taken : x.taken ≡ 0
  pub numbers : AreUnnumbered x.numbers
  pub len : length x.numbers ≡ service.at_once
  pub known : x.known ≡ known_to service
  pub plays : PlayNothing x.places

-- what is told where memory ran out for a client that had this number, if it wasn't left before
abbrev pub gone_step : Option ℕ → Step
gone_step None = On
gone_step (Some number) = Ended number NoMemory

-- the service, the listener and the room to read into are as they were
pub record StaysBeside {L P S W : Type 0} (old new : Guests L P S W) : Type 0 where
  pub service : new.service.now ≡ old.service.now
  pub listener : new.listener ≡ old.listener
  pub room : new.room.items ≡ old.room.items

-- One thing has happened among clients, and was seen to. The listener did these things until then, and gave clients by
-- them.
pub record StepsOn {S L W : Type 0} (did : S → S → List Deed → Type 0) (ldid : L → L → List (AcceptDeed W) → Type 0)
    (service : Service) (l m : CountedValue L) (x y : ClientsValue EchoValue S) (step : Step) : Type 0 where
  pub deeds : List (AcceptDeed W)
  pub heard : HasHeard (λ start now told. HasCounted ldid start now told) l m deeds
  pub before : List (Option ℕ)
  pub given : HasNumbered deeds x.taken x.numbers y.taken before
  pub tells : TellsStep did service before y.numbers step
  pub reasons : TellsReasons step (reasons_given deeds)
  pub known : y.known ≡ x.known
  pub plays : AreEchoes did service y.places
