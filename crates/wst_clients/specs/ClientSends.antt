-- A script that is sent to the first client whose request is accepted, whatever it asks for.
use Rattle.std.specs.Prelude.{◌≡◌, ◌⊎◌, ℕ, ⊤, List, [], ◌∷◌, ◌++◌, Option, None, Some, Result, Ok, Err}
use Rattle.std.specs.List.{All}
use Rattle.std.specs.Prelude.{Vec}
use Rattle.std.specs.declared.alloc.Global.{Global}
use Rattle.ws_frame.specs.Devices.{Device, IsUntouched}
use Rattle.ws_loops.specs.Deeds.{Deed, Happened, HasDone, all_done, all_told}
use Rattle.ws_loops.specs.Listeners.{AcceptDeed}
use Rattle.ws_machines.specs.Told.{Told}
use Rattle.ws_lines.specs.declared.transcript_lines.Showing.{Showing}
use Rattle.ws_clients.specs.Clients.{HasLines, IsAskedInVain, IsHeldAt}
use Rattle.ws_clients.specs.Talks.{IsAdmission}
use Rattle.ws_clients.specs.declared.clients.Event.{Event}
use Rattle.ws_clients.specs.declared.clients.Event.TheVariants.{Gone, Played}
use Rattle.ws_handshake.specs.declared.admission.AcceptedRequest.{AcceptedRequest}
use Rattle.ws_handshake.specs.declared.admission.Admission.{Admission}
use Rattle.ws_handshake.specs.declared.admission.Admission.TheVariants as admission
use Rattle.ws_scripts.specs.declared.transcript.Transcript.{Transcript}
use Rattle.wst_sockets.specs.Meetings.{miss_line}
use Rattle.wst_sockets.specs.declared.meeting.ConnectFault.TheVariants.{TimedOut}
use Rattle.wst_testing.specs.LineWriting.{HasWrittenRun}
use Rattle.wst_testing.specs.Notes.{TellsEach}
use Rattle.wst_testing.specs.Servers.{DidThese}
use Rattle.ws_loops.specs.Sinks.{HasTakenLines, lines_at}
use Rattle.wst_clients.specs.Turns.{IsDeafNow}
use Rattle.wst_clients.specs.Visitors.{HaveWaited}
use Rattle.ws_shown.specs.ShownTesters.{without_reports}
use Rattle.ws_tester.specs.Records.{IsRecorded}
use Rattle.ws_tester.specs.RunStates.{RunState}
use Rattle.wst_clients.specs.Visits.{BeginsScript, IsPlayed, Passing, client_plan, notes_of_passing, refused_line}
use Rattle.wst_clients.specs.Visits.Passing.{Answered, Lost, Refused}
use Rattle.wst_clients.specs.declared.sending_to_client.ScriptRules.{ScriptRules}
use Rattle.wst_clients.specs.declared.sending_to_client.Search.{Search}
use Rattle.wst_clients.specs.declared.sending_to_client.Search.TheVariants.{Found, GoesOn, Over}
use Rattle.wst_clients.specs.declared.visitors.Visitors.{Visitors}

-- who passes by, where these subprotocols are known: whose request was not whole, or was refused
abbrev pub PassesUnsent : List (List ℕ) → Passing → Type 0
PassesUnsent known Lost = ⊤
PassesUnsent known (Refused fault) = IsAdmission DidThese known (admission.Refused fault)
PassesUnsent known (Answered purpose) = ⊥

-- The request of a client was accepted, and the script run over it, to its end.
pub record IsScripted (known : List (List ℕ)) (rules : ScriptRules) (transcript : Transcript) : Type 0 where
  pub request : AcceptedRequest
  pub accepted : IsAdmission DidThese known (admission.Accepted request)
  pub played : IsPlayed (client_plan rules.expected rules.has_timeouts) rules.budget rules.case.now
      request.behind.items transcript

-- What is told behind those who passed by where the script was run; or it was run over none, since none came in time,
-- where one may be waited for in vain, or since none can come any more.
abbrev pub IsSentSo : Type 0 → Type 0 → List (List ℕ) → ScriptRules → Option Transcript → List (List ℕ) → Type 0
IsSentSo MayBeLate Nobody known rules None next = (MayBeLate × (next ≡ miss_line TimedOut ∷ []))
    ⊎ (Nobody × (next ≡ []))
IsSentSo MayBeLate Nobody known rules (Some transcript) next = IsScripted known rules transcript × (next ≡ [])

-- Such clients passed by, and what was told of them, and behind them.
pub record ScriptsClient (MayBeLate Nobody : Type 0) (known : List (List ℕ)) (rules : ScriptRules)
    (sent : Option Transcript) (faults : Device) : Type 0 where
  pub passing : List Passing
  pub pass : All (PassesUnsent known) passing
  pub next : List (List ℕ)
  pub is_sent : IsSentSo MayBeLate Nobody known rules sent next
  pub noted : TellsEach (notes_of_passing passing ++ next) faults

-- where they come to a listener: by the clock a request was waited for so long, and the listener was asked in vain last
abbrev pub MayBeMissed : {M L P E S W : Type 0} → (L → L → List (AcceptDeed W) → Type 0) → (P → ℕ)
    → Visitors M L P E S W → Visitors M L P E S W → Type 0
MayBeMissed did time old new =
    (new.wait ≡ old.wait) × HaveWaited time new × IsAskedInVain did new.listener new.clients

-- or it has said last that it can give no client: so a script is sent there, and others are left
abbrev pub ScriptsFirst : {M L P E S W : Type 0} → (L → L → List (AcceptDeed W) → Type 0) → (P → ℕ) → ScriptRules
    → Visitors M L P E S W → Visitors M L P E S W → Option Transcript → Device → Type 0
ScriptsFirst did time rules old new sent faults =
    ScriptsClient (MayBeMissed did time old new) (IsDeafNow did new.listener) old.clients.known rules sent faults

-- and then those who are left are read to the end, while nothing is asked of the listener
abbrev pub ScriptsOver : {M L P E S W : Type 0} → (L → L → List (AcceptDeed W) → Type 0) → (P → ℕ) → ScriptRules
    → Visitors M L P E S W → Visitors M L P E S W → Option Transcript → Device → Type 0
ScriptsOver {M} {L} {P} {E} {S} {W} did time rules old new sent faults = (mid : Visitors M L P E S W)
    × (new.listener ≡ mid.listener) × ScriptsFirst did time rules old mid sent faults

-- the lines of the run were written, where there was one; or nothing was
abbrev pub ShowsSent : Showing → Option Transcript → Device → Type 0
ShowsSent showing None output = IsUntouched output
ShowsSent showing (Some transcript) output = HasWrittenRun showing transcript output

-- a request was accepted, where these subprotocols are known, behind whose head this came
abbrev pub IsRequestOf : List (List ℕ) → Vec ℕ Global → Type 0
IsRequestOf known behind = (request : AcceptedRequest) × IsAdmission DidThese known (admission.Accepted request)
    × (request.behind.items ≡ behind.items)

-- the place of the first whose request is accepted, and what came behind its head; or there is none
abbrev pub FindsFirst : {M L P E S W : Type 0} → (L → L → List (AcceptDeed W) → Type 0) → (P → ℕ)
    → Visitors M L P E S W → Visitors M L P E S W → Option (ℕ × Vec ℕ Global) → Device → Type 0
FindsFirst did time old new None faults = (passing : List Passing) × All (PassesUnsent old.clients.known) passing
    × ((MayBeMissed did time old new × TellsEach (notes_of_passing passing ++ miss_line TimedOut ∷ []) faults)
    ⊎ (IsDeafNow did new.listener × TellsEach (notes_of_passing passing) faults))
FindsFirst did time old new (Some found) faults = (passing : List Passing)
    × All (PassesUnsent old.clients.known) passing × TellsEach (notes_of_passing passing) faults
    × IsRequestOf old.clients.known found.1

-- where this came of a request: it was accepted, and this came behind its head; or its client passes by, which is told
abbrev pub TakesAccepted : Admission → Option (Vec ℕ Global) → Device → Type 0
TakesAccepted (admission.Accepted request) (Some behind) faults =
    (request.behind.items ≡ behind.items) × IsUntouched faults
TakesAccepted (admission.Refused fault) None faults = TellsEach (refused_line fault ∷ []) faults
TakesAccepted admission.Lost None faults = IsUntouched faults
TakesAccepted _ _ faults = ⊥

-- such ones passed by, to whom nothing is sent
pub record HavePassedUnsent (known : List (List ℕ)) (faults : Device) : Type 0 where
  pub passing : List Passing
  pub pass : All (PassesUnsent known) passing
  pub noted : TellsEach (notes_of_passing passing) faults

-- What one wait has come to: a request was accepted, behind whose head this came; none came in time, which is told, or
-- none can come any more; or only such ones were met.
abbrev pub SeeksFirst : {M L P E S W : Type 0} → (L → L → List (AcceptDeed W) → Type 0) → (P → ℕ)
    → Visitors M L P E S W → Visitors M L P E S W → Search → Device → Type 0
SeeksFirst did time old new (Found at behind) faults = IsRequestOf old.clients.known behind × IsUntouched faults
SeeksFirst did time old new Over faults = (MayBeMissed did time old new × TellsEach (miss_line TimedOut ∷ []) faults)
    ⊎ (IsDeafNow did new.listener × IsUntouched faults)
SeeksFirst did time old new GoesOn faults = HavePassedUnsent old.clients.known faults

-- the request of the client in this place was accepted, behind whose head this came, and the stream from which it was
-- read is held there
abbrev pub IsFirstAt : {M L P E S W : Type 0} → (S → S → List Deed → Type 0) → Visitors M L P E S W → ℕ → Vec ℕ Global
    → Type 0
IsFirstAt did v at behind = (request : AcceptedRequest)
    × ((is : IsAdmission did v.clients.known (admission.Accepted request)) × IsHeldAt v.clients.held at is.last)
    × (request.behind.items ≡ behind.items)

abbrev pub IsFoundAt : {M L P E S W : Type 0} → (S → S → List Deed → Type 0) → Visitors M L P E S W → Search → Type 0
IsFoundAt did v (Found at behind) = IsFirstAt did v at behind
IsFoundAt did v Over = ⊤
IsFoundAt did v GoesOn = ⊤

-- A run that began in this state went over this stream, to its end.
pub record IsRunFrom {S : Type 0} (did : S → S → List Deed → Type 0) (stream : S) (start : RunState)
    (transcript : Transcript) : Type 0 where
  pub happened : List Happened
  pub told : List Told
  pub is_told : without_reports told ≡ without_reports (all_told happened)
  pub recorded : IsRecorded start told transcript
  pub last : S
  pub done : HasDone did stream last (all_done happened)

-- over the stream that was held beside this place
abbrev pub IsRunAt : {S : Type 0} → (S → S → List Deed → Type 0) → List (Option S) → ℕ → RunState → Transcript
    → Type 0
IsRunAt {S} did held at start transcript = (stream : S) × IsHeldAt held at stream
    × IsRunFrom did stream start transcript

-- the script was played there to its end, behind the head of whose request this came
abbrev pub IsPlayedAt : {S : Type 0} → (S → S → List Deed → Type 0) → List (Option S) → ℕ → ScriptRules → List ℕ
    → Transcript → Type 0
IsPlayedAt did held at rules first transcript = (start : RunState)
    × BeginsScript (client_plan rules.expected rules.has_timeouts) rules.budget rules.case.now first start
    × IsRunAt did held at start transcript

-- A request was accepted, where these subprotocols are known, and the script was played over the stream from which it
-- was read, to its end.
pub record IsSentThere {S : Type 0} (did : S → S → List Deed → Type 0) (known : List (List ℕ)) (rules : ScriptRules)
    (transcript : Transcript) : Type 0 where
  pub request : AcceptedRequest
  pub accepted : IsAdmission did known (admission.Accepted request)
  pub start : RunState
  pub begins : BeginsScript (client_plan rules.expected rules.has_timeouts) rules.budget rules.case.now
      request.behind.items start
  pub runs : IsRunFrom did accepted.last start transcript

-- the same subprotocols are known, and so long a request is waited for
abbrev pub AreMetSo : {M L P E S W : Type 0} → Visitors M L P E S W → Visitors M L P E S W → Type 0
AreMetSo old new = (new.clients.known ≡ old.clients.known) × (new.wait ≡ old.wait)

-- what this event tells of what is played in this place: that it has ended so, or memory ran out for it; or nothing
abbrev pub TellsNothingOf : {E W : Type 0} → ℕ → Event E W → Type 0
TellsNothingOf at (Played place end) = place ≡ at → ⊥
TellsNothingOf at (Gone place number) = place ≡ at → ⊥
TellsNothingOf at event = ⊤

abbrev pub EndsInPlace : {E W X : Type 0} → ℕ → Event E W → Option (Result E X) → Type 0
EndsInPlace at event None = TellsNothingOf at event
EndsInPlace at event (Some (Ok end)) = event ≡ Played at end
EndsInPlace at event (Some (Err lack)) = (number : Option ℕ) × (event ≡ Gone at number)

-- A machine was run to its end in this place, over the stream that was held there: this follows from all that it was
-- told, and that is what the stream did, and what the clock says; and of the lines that the sink took meanwhile those
-- of this place are those of which it was told.
pub record GivesOver {M S K E : Type 0} (heard : K → K → List (ℕ × List ℕ) → Type 0)
    (did : S → S → List Deed → Type 0) (gives : M → List Told → E → Type 0) (held : List (Option S)) (at : ℕ)
    (start : M) (end : E) (old_sink new_sink : K) : Type 0 where
  pub first : S
  pub is_held : IsHeldAt held at first
  pub last : S
  pub happened : List Happened
  pub given : gives start (all_told happened) end
  pub done : HasDone did first last (all_done happened)
  pub lines : List (ℕ × List ℕ)
  pub put : HasTakenLines heard old_sink new_sink lines
  pub shown : HasLines happened (lines_at at lines)
