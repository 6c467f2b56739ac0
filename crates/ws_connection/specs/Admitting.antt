-- The opening handshake of a server that goes on over the connection itself (RFC 6455 section 4.2): the request is read
-- and answered, and what it asks for is handed back.
use Rattle.std.specs.Prelude.{◌≡◌, ℕ, ◌⊎◌, true, List, [], drop}
use Rattle.ws_frame.specs.Devices.{HasBegun}
use Rattle.ws_upgrade.specs.Texts.{refusal_bytes}
use Rattle.ws_upgrade.specs.declared.faults.HeadFault.{HeadFault}
use Rattle.ws_upgrade.specs.declared.requests.Upgrade.{Upgrade}
use Rattle.ws_upgrade.specs.declared.requests.RequestRead.TheVariants as read
use Rattle.ws_machines.specs.Told.{Told}
use Rattle.ws_connection.specs.ConnectionValues.{ConnectionRun, ConnectionValue}
use Rattle.ws_connection.specs.Connections.{IsReady, ReadsBytes, WritesBytes, output_of}
use Rattle.ws_connection.specs.Serving.{ReadsRequest}
use Rattle.ws_connection.specs.StreamCalls.{DidCalls}
use Rattle.ws_connection.specs.declared.incoming.Incoming.TheVariants.{Late}
use Rattle.ws_handshake.specs.Admissions.{AdmitGives, AdmitValue, response_to}
use Rattle.ws_handshake.specs.ReadingHeads.{IsUndecided}
use Rattle.ws_handshake.specs.Requests.{IsAnswer, NeedsRequest}
use Rattle.ws_handshake.specs.declared.request_head.RequestDecision.TheVariants.{Accepted, Refused as RefusedHead}
use Rattle.ws_handshake.specs.declared.admission.AcceptedRequest.{AcceptedRequest}
use Rattle.ws_handshake.specs.declared.admission.Admission.{Admission}
use Rattle.ws_handshake.specs.declared.admission.Admission.TheVariants as admission

-- ---- what was called

-- What came of the request is what the calls of the connection say, one by one: they were told to a machine that reads
-- a request and answers it, and that gives this.
pub record AdmitsByCalls (known : List (List ℕ)) (admission : Admission) (run : ConnectionRun) : Type 0 where
  pub start : AdmitValue
  pub knows : start.known ≡ known
  pub told : List Told
  pub did : DidCalls run.old run.new told
  pub gives : AdmitGives start told admission

-- ---- what was read

-- These bytes were read for the head by an endpoint that knows these subprotocols: they begin with a head of this
-- length that asks for this upgrade.
pub record ReadsUpgrade (known : List (List ℕ)) (head : List ℕ) (upgrade : Upgrade) (used : ℕ) : Type 0 where
  pub asks : IsAnswer known head (read.Got upgrade used)
  pub is_head : ReadsRequest known head (Accepted upgrade.accept upgrade.protocol used)

-- ---- what came of it

-- The request was accepted, and the response was written: its path is handed back, and what came behind its head. A
-- script can be run.
pub record AcceptsRequest (known : List (List ℕ)) (request : AcceptedRequest) (run : ConnectionRun) : Type 0 where
  pub calls : AdmitsByCalls known (admission.Accepted request) run
  pub head : List ℕ
  pub upgrade : Upgrade
  pub used : ℕ
  pub reads : ReadsUpgrade known head upgrade used
  pub has_got : ReadsBytes head run
  pub has_put : WritesBytes (response_to known upgrade) run
  pub path : request.path.items ≡ upgrade.path.now
  pub behind : request.behind.items ≡ drop used head
  pub ready : IsReady run.new
  pub allowance : run.new.input.allowance ≡ run.old.input.allowance

-- a write has failed, or by the last call the deadline had passed
abbrev pub IsBrokenOff : ConnectionValue → Type 0
IsBrokenOff connection = (connection.output.failed ≡ true) ⊎ (connection.input.state ≡ Late)

-- the refusal was written, or a beginning of it
abbrev pub PutsRefusal : HeadFault → ConnectionRun → Type 0
PutsRefusal fault run = WritesBytes (refusal_bytes fault) run
    ⊎ (IsBrokenOff run.new × HasBegun (refusal_bytes fault) (output_of run))

-- the request was refused
pub record RefusesRequest (known : List (List ℕ)) (fault : HeadFault) (run : ConnectionRun) : Type 0 where
  pub calls : AdmitsByCalls known (admission.Refused fault) run
  pub head : List ℕ
  pub is_head : ReadsRequest known head (RefusedHead fault)
  pub has_got : ReadsBytes head run
  pub put : PutsRefusal fault run

-- the request was accepted, and the response could not be written
pub record LosesRequest (known : List (List ℕ)) (run : ConnectionRun) : Type 0 where
  pub calls : AdmitsByCalls known admission.Lost run
  pub head : List ℕ
  pub upgrade : Upgrade
  pub used : ℕ
  pub reads : ReadsUpgrade known head upgrade used
  pub has_got : ReadsBytes head run
  pub broken_off : IsBrokenOff run.new
  pub begun : HasBegun (response_to known upgrade) (output_of run)

-- there was no whole head: these bytes were read, which decide nothing, and nothing was written
pub record StopsInRequest (known : List (List ℕ)) (run : ConnectionRun) : Type 0 where
  pub calls : AdmitsByCalls known admission.Lost run
  pub read : List ℕ
  pub is_open : IsUndecided (NeedsRequest known) read
  pub has_got : ReadsBytes read run
  pub has_put : WritesBytes [] run

-- what came of the request of a connection, at an endpoint that knows these subprotocols
abbrev pub Admits : List (List ℕ) → Admission → ConnectionRun → Type 0
Admits known (admission.Accepted request) run = AcceptsRequest known request run
Admits known (admission.Refused fault) run = RefusesRequest known fault run
Admits known admission.Lost run = StopsInRequest known run ⊎ LosesRequest known run
