-- What `serve` is asked for, the lines that it tells, and its run.
use Rattle.std.specs.Prelude.{◌≡◌, ℕ, ◌+◌, ◌≤◌, ◌⊎◌, ⊤, true, false, List, [], ◌∷◌, ◌++◌, Option, Some, Result}
use Rattle.std.specs.Prelude.{Ok, Err, Bool, codes, length, map}
use Rattle.std.specs.List.{All, concat}
use Rattle.ws_frame.specs.Devices.{Device, HasBegun, HasWritten, IsUntouched}
use Rattle.ws_machines.specs.Told.{Told}
use Rattle.ws_loops.specs.Deeds.{Deed}
use Rattle.ws_loops.specs.Listeners.{AcceptDeed, HasHeard}
use Rattle.ws_loops.specs.declared.fault.LoopFault.TheVariants as loop
use Rattle.ws_session.specs.Limits.{AreLimits}
use Rattle.ws_upgrade.specs.Protocols.{AreOffers}
use Rattle.ws_echo.specs.EchoMachines.{EchoGives}
use Rattle.ws_echo.specs.declared.echo_machine.EchoEnd.TheVariants as echo
use Rattle.ws_handshake.specs.Admissions.{AdmitGives, AdmitValue}
use Rattle.ws_handshake.specs.declared.admission.AcceptedRequest.{AcceptedRequest}
use Rattle.ws_handshake.specs.declared.admission.Admission.{Admission}
use Rattle.ws_handshake.specs.declared.admission.Admission.TheVariants as admission
use Rattle.ws_clients.specs.Numbers.{clients_given}
use Rattle.ws_serving.specs.ClientEnds.{IsClientEnd, known_to}
use Rattle.ws_serving.specs.EndNumbers.{AreEndNumbers}
use Rattle.ws_serving.specs.Serving.{IsStillOpen, IsWithinCount}
use Rattle.ws_serving.specs.declared.client_end.ClientEnd.{ClientEnd}
use Rattle.ws_serving.specs.declared.guests.Service.{Service}
use Rattle.ws_serving.specs.declared.serving.ServingEnd.{ServingEnd}
use Rattle.ws_serving.specs.declared.serving.ServingEnd.TheVariants as serving
use Rattle.ws_connection.specs.Protocols.{protocols_given}
use Rattle.ws_connection.specs.Serving.{connection}
use Rattle.ws_connection.specs.declared.serving.Served.{Served}
use Rattle.ws_connection.specs.declared.serving.Served.TheVariants as served
use Rattle.wst_words.specs.declared.serve.ServeOptions.{ServeOptions}
use Rattle.wst_commands.specs.Devices.{Tells}
use Rattle.wst_commands.specs.Faults.{Ends, TellsFault}
use Rattle.wst_commands.specs.Limits.{limits_given}
use Rattle.wst_commands.specs.TimeLimits.{GivesDeadline, GivesTimeout, HasDeadline, HasTimeout, HasUnit, IsCountWord}
use Rattle.wst_commands.specs.TimeLimits.{milliseconds_of}
use Rattle.wst_commands.specs.declared.exit.Exit.{Exit}
use Rattle.wst_commands.specs.declared.exit.Exit.TheVariants.{Done, Failed}
use Rattle.wst_commands.specs.declared.fault.Fault.{Fault}
use Rattle.wst_commands.specs.declared.fault.Fault.TheVariants.{BadAtOnce, BadDeadline, BadLimits, BadProtocols}
use Rattle.wst_commands.specs.declared.fault.Fault.TheVariants.{BadTimeout, DeadlineWithUnit, NoMemory, TimeoutWithUnit}
use Rattle.wst_commands.specs.declared.time_limit.TimeLimit.TheVariants.{Unlimited}
use Rattle.wst_sockets.specs.Listening.{CanNotListen, IsToldFor}
use Rattle.wst_services.specs.ServedLines.{connection_line, connection_lines, full_text, served_as}
use Rattle.wst_services.specs.declared.serve.ServePlan.{ServePlan}
use Rattle.wst_services.specs.declared.served_lines.LineFault.{LineFault}
use Rattle.wst_services.specs.declared.served_lines.LineFault.TheVariants as line

-- ---- what is asked for

-- the word gives a number of connections that can go on at a time
abbrev pub HasAtOnce : ServeOptions → Type 0
HasAtOnce options = (count : ℕ) × IsCountWord 1000 count options.at_once.now

-- it gives none
abbrev pub LacksAtOnce : ServeOptions → Type 0
LacksAtOnce options = (count : ℕ) → IsCountWord 1000 count options.at_once.now → ⊥

-- this server: its limits are those of the words, which an endpoint can have, it knows the subprotocols that are given,
-- which can be offered, and the rest is as it was given
abbrev pub IsServePlan : ServeOptions → ServePlan → Type 0
IsServePlan options plan =
    (AreLimits (limits_given options.limit options.frame) × (plan.limits ≡ limits_given options.limit options.frame))
    × GivesTimeout options.timeout plan.timeout × (plan.budget ≡ options.budget) × (plan.address ≡ options.address)
    × (plan.count ≡ options.count)
    × (AreOffers (protocols_given options.protocols) × (plan.protocols ≡ protocols_given options.protocols))
    × GivesDeadline Unlimited options.deadline plan.deadline × IsCountWord 1000 plan.at_once options.at_once.now

-- Why there is none, the first of these that applies: the names that are given can't be offered; the seconds are no
-- limit of time, of a wait or of a connection, and have a unit or not; not so many connections can go on at a time; no
-- endpoint can have the limits. Or memory ran out for the names.
abbrev pub CanNotServe : ServeOptions → Fault → Type 0
CanNotServe options BadProtocols = ¬ (AreOffers (protocols_given options.protocols))
CanNotServe options BadTimeout = AreOffers (protocols_given options.protocols) × ¬ (HasTimeout options.timeout)
    × ¬ (HasUnit options.timeout)
CanNotServe options TimeoutWithUnit = AreOffers (protocols_given options.protocols) × ¬ (HasTimeout options.timeout)
    × HasUnit options.timeout
CanNotServe options BadDeadline = AreOffers (protocols_given options.protocols) × HasTimeout options.timeout
    × ¬ (HasDeadline options.deadline) × ¬ (HasUnit options.deadline)
CanNotServe options DeadlineWithUnit = AreOffers (protocols_given options.protocols) × HasTimeout options.timeout
    × ¬ (HasDeadline options.deadline) × HasUnit options.deadline
CanNotServe options BadAtOnce = AreOffers (protocols_given options.protocols) × HasTimeout options.timeout
    × HasDeadline options.deadline × LacksAtOnce options
CanNotServe options BadLimits = AreOffers (protocols_given options.protocols) × HasTimeout options.timeout
    × HasDeadline options.deadline × HasAtOnce options
    × ¬ (AreLimits (limits_given options.limit options.frame))
CanNotServe options fault = fault ≡ NoMemory

-- nobody is to be served, or somebody is
abbrev pub AsksNobody : Option ℕ → Bool → Type 0
AsksNobody count true = count ≡ Some 0
AsksNobody count false = IsStillOpen count 0

-- what a plan asks for, as clients are to be served
pub record IsServiceOf (plan : ServePlan) (service : Service) : Type 0 where
  pub known : known_to service ≡ plan.protocols
  pub limits : service.limits ≡ plan.limits
  pub budget : service.budget ≡ plan.budget
  pub limit : service.times.limit ≡ milliseconds_of plan.timeout
  pub deadline : service.times.deadline ≡ milliseconds_of plan.deadline
  pub at_once : service.at_once ≡ plan.at_once
  pub count : service.count ≡ plan.count

-- ---- what is told

-- the line before the first of them
abbrev pub listening_line : List ℕ → List ℕ
listening_line address = concat (codes "listening on " ∷ address ∷ codes "\n" ∷ [])

-- the first bytes were written, and then a beginning of the others
abbrev pub HasWrittenThenBegun : List ℕ → List ℕ → Device → Type 0
HasWrittenThenBegun first next output =
    (front : List ℕ) × (more : List ℕ) × (next ≡ front ++ more) × HasWritten (first ++ front) output

-- it was told at most once that no connection can be taken for now
abbrev pub TellsFullOnce : Device → Type 0
TellsFullOnce faults = IsUntouched faults ⊎ Tells full_text faults

-- ---- its clients

-- the connection of a client that is served as a plan asks may be told so, over streams that do what they say
abbrev pub IsServedOver : {S : Type 0} → (S → S → List Deed → Type 0) → ServePlan → Served → Type 0
IsServedOver did plan served = (service : Service) × IsServiceOf plan service × (end : ClientEnd)
    × IsClientEnd did service end × (served ≡ served_as end)

-- what is left of that where nothing is known of streams: a request, and then an echo, can end so by something that was
-- told; and a connection may be stopped at any time
abbrev pub GivesAdmission : List (List ℕ) → Admission → Type 0
GivesAdmission known admission = (start : AdmitValue) × (start.known ≡ known) × (told : List Told)
    × AdmitGives start told admission

abbrev pub IsServedBy : ServePlan → Served → Type 0
IsServedBy plan (served.Ended status) = (request : AcceptedRequest)
    × GivesAdmission plan.protocols (admission.Accepted request) × (told : List Told)
    × EchoGives (connection plan.limits plan.budget request.behind.items) told (echo.Done status)
IsServedBy plan (served.Refused fault) = GivesAdmission plan.protocols (admission.Refused fault)
IsServedBy plan served.Stopped = ⊤

-- the listener gave so many clients, by what it did
abbrev pub GaveClients : {L W : Type 0} → (L → L → List (AcceptDeed W) → Type 0) → L → ℕ → Type 0
GaveClients {L} {W} did first came = (last : L) × (deeds : List (AcceptDeed W)) × HasHeard did first last deeds
    × (clients_given deeds ≡ came)

-- The connections of clients ended so, each with its number, as a client's may end. So many clients came, no more than
-- are to be served; each of these is one of them, and stands here once. At most so many were there at a time.
pub record HaveBeenServed (Gave : ℕ → Type 0) (MayEnd : Served → Type 0) (plan : ServePlan) (ends : List (ℕ × Served))
    : Type 0 where
  pub came : ℕ
  pub gave : Gave came
  pub within : IsWithinCount plan.count came
  pub numbers : AreEndNumbers plan.at_once came (map (λ end. end.0) ends)
  pub few : came ≤ length ends + plan.at_once
  pub may : All (λ end. MayEnd end.1) ends

-- their lines were written after these bytes, and nothing else
abbrev pub HasServed : List ℕ → List (ℕ × Served) → Device → Type 0
HasServed before ends output = (output.failed ≡ false) × HasWritten (before ++ connection_lines ends) output

-- the line of one client more could not be written, or not flushed: then nothing is written after it
abbrev pub StopsAtServed : (Served → Type 0) → List ℕ → List (ℕ × Served) → Device → Type 0
StopsAtServed MayEnd before ends output = (number : ℕ) × (next : Served) × MayEnd next
    × All (λ end. end.0 ≡ number → ⊥) ends × (output.failed ≡ true)
    × HasWrittenThenBegun (before ++ connection_lines ends) (connection_line number next) output

-- How the serving ended after these clients: as many as were asked for were told, which is done. Else more were to be
-- told, and no client could come, or a line failed: a failure, or want of memory. That it is so is not said.
abbrev pub EndsServing : (Served → Type 0) → ServePlan → List ℕ → List (ℕ × Served) → Result Exit Fault → Device
    → Type 0
EndsServing MayEnd plan before ends (Ok Done) output = (plan.count ≡ Some (length ends)) × HasServed before ends output
EndsServing MayEnd plan before ends (Ok Failed) output = IsStillOpen plan.count (length ends)
    × (HasServed before ends output ⊎ StopsAtServed MayEnd before ends output)
EndsServing MayEnd plan before ends (Ok exit) output = ⊥
EndsServing MayEnd plan before ends (Err fault) output = (fault ≡ NoMemory) × IsStillOpen plan.count (length ends)
    × HasServed before ends output

-- the exit of a server whose serving has ended so
abbrev pub exit_as : ServingEnd LineFault → Result Exit Fault
exit_as serving.Done = Ok Done
exit_as serving.Deaf = Ok Failed
exit_as (serving.Stopped loop.NoMemory) = Err NoMemory
exit_as (serving.Stopped loop.WaitFailed) = Ok Failed
exit_as (serving.Stopped loop.NoOutput) = Ok Failed
exit_as (serving.Refused line.Output) = Ok Failed
exit_as (serving.Refused line.NoMemory) = Err NoMemory

-- clients were served, and so it ended; when each came is not said
abbrev pub ServesClients : (ℕ → Type 0) → (Served → Type 0) → ServePlan → List ℕ → Result Exit Fault → Device → Device
    → Type 0
ServesClients Gave MayEnd plan before ended output faults = (ends : List (ℕ × Served))
    × HaveBeenServed Gave MayEnd plan ends × EndsServing MayEnd plan before ends ended output × TellsFullOnce faults

-- ---- a run

-- nothing was written: it is told why nothing can be listened at, or that memory ran out; that it is so is not said
abbrev pub ServesNone : Result Exit Fault → Device → Type 0
ServesNone ended output = ((fault : Fault) × CanNotListen fault × (ended ≡ Err fault))
    × (output.failed ≡ false) × IsUntouched output

-- the first line could not be written, or not flushed, and nothing was written after it
abbrev pub StopsAtListening : List ℕ → Result Exit Fault → Device → Type 0
StopsAtListening address ended output =
    (ended ≡ Ok Failed) × (output.failed ≡ true) × HasBegun (listening_line address) output

-- it is told that connections to this address are taken, and then they are served; or the line came to nothing
abbrev pub ServesToldAt : ServePlan → List ℕ → Result Exit Fault → Device → Device → Type 0
ServesToldAt plan address ended output faults =
    ServesClients (λ came. ⊤) (IsServedBy plan) plan (listening_line address) ended output faults
    ⊎ (StopsAtListening address ended output × IsUntouched faults)

-- what is told of the address is told, and then connections are served; or nothing can be listened at
abbrev pub ServesAt : ServePlan → Result Exit Fault → Device → Device → Type 0
ServesAt plan ended output faults =
    ((address : List ℕ) × IsToldFor plan.address.now address × ServesToldAt plan address ended output faults)
    ⊎ (ServesNone ended output × IsUntouched faults)

-- connections are served as is asked for, and how that ended is told behind what was told before
abbrev pub RunsServer : ServePlan → Exit → Device → Device → Type 0
RunsServer plan exit output faults = (ended : Result Exit Fault) × (mid : Option (List ℕ)) × (failed : Bool)
    × ServesAt plan ended output (record { failed = failed; old = faults.old; new = mid })
    × Ends ended exit (record { failed = faults.failed; old = mid; new = faults.new })

-- what the words ask for is served; or it is told why there is nothing to serve, and nothing was written
abbrev pub RunsServe : ServeOptions → Exit → Device → Device → Type 0
RunsServe options exit output faults =
    ((plan : ServePlan) × IsServePlan options plan × RunsServer plan exit output faults)
    ⊎ ((fault : Fault) × CanNotServe options fault × IsUntouched output × (output.failed ≡ false)
    × TellsFault fault exit faults)
