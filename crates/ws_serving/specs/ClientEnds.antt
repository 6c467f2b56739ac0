-- How the connection of a client that is served may end (RFC 6455 sections 4.2, 5 and 7): it follows from what its
-- stream did.
use Rattle.std.specs.Prelude.{◌≡◌, ℕ, ⊤, List, [], ◌∷◌, map}
use Rattle.ws_wire.specs.declared.role.Role.TheVariants.{Server}
use Rattle.ws_loops.specs.Deeds.{Deed, Happened, HasDone, all_done, all_told}
use Rattle.ws_handshake.specs.declared.admission.AcceptedRequest.{AcceptedRequest}
use Rattle.ws_handshake.specs.declared.admission.Admission.TheVariants as admission
use Rattle.ws_echo.specs.Echoes.{DriveCall}
use Rattle.ws_echo.specs.EchoMachines.{EchoGives}
use Rattle.ws_echo.specs.declared.echo_machine.EchoEnd.{EchoEnd}
use Rattle.ws_clients.specs.Talks.{IsAdmission}
use Rattle.ws_serving.specs.declared.client_end.ClientEnd.{ClientEnd}
use Rattle.ws_serving.specs.declared.client_end.ClientEnd.TheVariants.{Echoed, Lost, NoMemory, Refused}
use Rattle.ws_serving.specs.declared.guests.Service.{Service}

-- the subprotocols that a service knows
abbrev pub known_to : Service → List (List ℕ)
known_to service = map (λ name. name.now) service.protocols.now

-- the echo of a service, which takes first what came behind the head of a request
abbrev pub echo_behind : Service → AcceptedRequest → DriveCall
echo_behind service request = record {
  role = Server;
  limits = service.limits;
  key = 0 ∷ 0 ∷ 0 ∷ 0 ∷ [];
  first = request.behind.items;
  budget = service.budget;
}

-- An echo of this call has ended so over this stream: that follows from what its machine was told, and this is what the
-- stream did.
pub record EchoesOver {S : Type 0} (did : S → S → List Deed → Type 0) (stream : S) (call : DriveCall) (end : EchoEnd)
    : Type 0 where
  pub happened : List Happened
  pub gives : EchoGives call (all_told happened) end
  pub last : S
  pub done : HasDone did stream last (all_done happened)

-- The connection of a client of a service may end so: by what came of its request; or by the echo, over the very stream
-- from which the request was read that was accepted. Memory may run out at any time.
abbrev pub IsClientEnd : {S : Type 0} → (S → S → List Deed → Type 0) → Service → ClientEnd → Type 0
IsClientEnd did service (Refused fault) = IsAdmission did (known_to service) (admission.Refused fault)
IsClientEnd did service Lost = IsAdmission did (known_to service) admission.Lost
IsClientEnd did service (Echoed end) = (request : AcceptedRequest)
    × (is : IsAdmission did (known_to service) (admission.Accepted request))
    × EchoesOver did is.last (echo_behind service request) end
IsClientEnd did service NoMemory = ⊤
