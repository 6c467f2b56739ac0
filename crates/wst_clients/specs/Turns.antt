-- Whose turn it is: what a client asks for whose turn it is, or why it is nobody's.
use Rattle.std.specs.Prelude.{◌≡◌, ℕ, IsTrue, ⊤, List, [], ◌∷◌, ◌++◌, Option, Result, Ok, Err, None, Some, length}
use Rattle.std.specs.List.{All}
use Rattle.ws_clients.specs.Clients.{IsAskedInVain, IsDeaf, IsHeldAt, IsPlaying}
use Rattle.ws_clients.specs.Talks.{IsAdmission}
use Rattle.ws_clients.specs.declared.talking.Talk.{Talk}
use Rattle.ws_frame.specs.Devices.{Device}
use Rattle.ws_handshake.specs.declared.admission.AcceptedRequest.{AcceptedRequest}
use Rattle.ws_handshake.specs.declared.admission.Admission.{Admission}
use Rattle.ws_handshake.specs.declared.admission.Admission.TheVariants as admission
use Rattle.ws_loops.specs.Deeds.{Deed, Happened, HasDone, all_done, all_told}
use Rattle.ws_loops.specs.Listeners.{AcceptDeed}
use Rattle.ws_loops.specs.declared.fault.LoopFault.{LoopFault}
use Rattle.ws_loops.specs.declared.fault.LoopFault.TheVariants as loop
use Rattle.ws_loops.specs.declared.places.Place.{Place}
use Rattle.ws_paths.specs.Paths.{AsksWithin, number_to_run}
use Rattle.ws_paths.specs.Standings.{StandingValue}
use Rattle.ws_paths.specs.declared.purpose.Purpose.{Purpose}
use Rattle.ws_paths.specs.declared.purpose.Purpose.TheVariants.{UpdateReports}
use Rattle.ws_scripts.specs.declared.script.Case.{Case}
use Rattle.ws_scripts.specs.declared.transcript.Transcript.{Transcript}
use Rattle.ws_tester.specs.Following.{TesterValue, WasTold}
use Rattle.ws_tester.specs.Records.{IsRecorded}
use Rattle.ws_tester.specs.RunStates.{RunState}
use Rattle.wst_commands.specs.TimeLimits.{is_limited}
use Rattle.wst_testing.specs.Notes.{TellsEach}
use Rattle.wst_clients.specs.Visitors.{AsksNow, HaveWaited, IsAcceptedAt, NobodyAt, PassedOver, WaitsBehind}
use Rattle.wst_clients.specs.Visitors.{ending_for}
use Rattle.wst_clients.specs.Visits.{BeginsScript, HavePassed, IsAsked, IsPlayed, IsToldAtOnce}
use Rattle.wst_clients.specs.Visits.{IsTurnTaken, Met}
use Rattle.wst_clients.specs.Visits.{Passes, Passing, TellsFor, Unmet, Visits, case_for, case_notes}
use Rattle.wst_clients.specs.Visits.{known_by, notes_of_passing, unmet_by, visit_plan}
use Rattle.wst_clients.specs.declared.visiting.NoVisit.{NoVisit}
use Rattle.wst_clients.specs.declared.visiting.NoVisit.TheVariants.{Never, TooLate}
use Rattle.wst_clients.specs.declared.visiting.Turn.{Turn}
use Rattle.wst_clients.specs.declared.visiting.Turn.TheVariants as turn
use Rattle.wst_clients.specs.declared.visiting.Visit.{Visit}
use Rattle.wst_clients.specs.declared.visiting.Visit.TheVariants as visit
use Rattle.wst_clients.specs.declared.visiting.VisitRules.{VisitRules}
use Rattle.wst_clients.specs.declared.visitors.Ending.{Ending}
use Rattle.wst_clients.specs.declared.visitors.Ending.TheVariants.{Answered}
use Rattle.wst_clients.specs.declared.visitors.Visitors.{Visitors}
use Rattle.wst_clients.specs.declared.visitors.Waiting.{Waiting}

-- the last that this listener did was that it could give no client
abbrev pub IsDeafNow : {L W : Type 0} → (L → L → List (AcceptDeed W) → Type 0) → L → Type 0
IsDeafNow {L} {W} did listener = (why : W) × IsDeaf did listener why

-- Why there is no turn: a request may be waited for in vain, by the clock it was waited for so long, and the listener
-- was asked in vain last; or none can come any more.
abbrev pub IsWhyNone : {M L P E S W : Type 0} → (L → L → List (AcceptDeed W) → Type 0) → (P → ℕ) → VisitRules → NoVisit
    → Visitors M L P E S W → Type 0
IsWhyNone did time rules TooLate v =
    IsTrue (is_limited rules.wait) × HaveWaited time v × IsAskedInVain did v.listener v.clients
IsWhyNone did time rules Never v = IsDeafNow did v.listener

-- any may fail to be waited for
abbrev pub MayFail : {C : Type 0} → C → Type 0
MayFail clients = ⊤

-- what is known of those who come to a listener
abbrev pub met_clients : Met
met_clients = record { visits = Visits; passes = Passes }

-- and where nobody is met, of the listener of those who come as these do
abbrev pub unmet_as : {M L P E S W : Type 0} → (L → L → List (AcceptDeed W) → Type 0) → (P → ℕ) → Visitors M L P E S W
    → Unmet
unmet_as {M} {L} {P} {E} {S} {W} did time v = unmet_by {C = Visitors M L P E S W} (IsWhyNone did time) MayFail

-- a case is asked for
abbrev pub AsksForCase : VisitRules → Purpose → Type 0
AsksForCase rules purpose = (case : Case) × (case_for rules.cases.now purpose ≡ Some case)

-- Whose turn it is: a case is asked for by a request that was accepted; the end of the run is asked for; or nobody's,
-- for a reason of which this holds.
abbrev pub IsTurn : (NoVisit → Type 0) → VisitRules → StandingValue → Turn → Type 0
IsTurn IsWhy rules standing (turn.Case at purpose behind) = (request : AcceptedRequest)
    × IsAsked rules standing purpose request × (request.behind.items ≡ behind.items)
    × AsksWithin (length rules.cases.now) purpose
    × AsksForCase rules purpose
IsTurn IsWhy rules standing turn.Over = IsToldAtOnce rules standing UpdateReports
IsTurn IsWhy rules standing (turn.None why) = IsWhy why

-- The turn of the first of those who wait that asks for a case by now, who waits no longer; or nobody is left who
-- waits, and it is nobody's any more just where the end of the run was answered.
abbrev pub TakesFirst : VisitRules → StandingValue → Ending → List Waiting → List Waiting → Option Turn → Type 0
TakesFirst rules standing ending old new None =
    PassedOver rules standing old [] × (new ≡ []) × (ending ≡ Answered → ⊥)
TakesFirst rules standing ending old new (Some (turn.Case at purpose behind)) = (first : Waiting)
    × PassedOver rules standing old (first ∷ new) × (first.at ≡ at) × AsksNow rules standing first.request purpose
TakesFirst rules standing ending old new (Some turn.Over) = PassedOver rules standing old [] × (new ≡ [])
    × (ending ≡ Answered)
TakesFirst rules standing ending old new (Some (turn.None why)) = ⊥

-- ---- what comes of a request that was accepted

-- The text that it asks for, and its close, are begun over this stream, behind these bytes of its client.
pub record BeginsTold {S : Type 0} (did : S → S → List Deed → Type 0) (rules : VisitRules) (standing : StandingValue)
    (purpose : Purpose) (first : List ℕ) (stream : S) (places : List (Place (Talk TesterValue) S)) (at : ℕ) : Type 0
  where
    pub script : Case
    pub tells : TellsFor rules standing purpose script
    pub tester : TesterValue
    pub begins : BeginsScript (visit_plan rules) rules.budget script first tester.run
    pub plays : IsPlaying (λ start now told. WasTold start now told) did tester stream [] places at

-- so it is in this place over the stream that was held there, if one was
abbrev pub TellsThere : {L P E S W : Type 0} → (S → S → List Deed → Type 0) → VisitRules → StandingValue → Purpose
    → List ℕ → ℕ → Visitors TesterValue L P E S W → Visitors TesterValue L P E S W → Type 0
TellsThere {L} {P} {E} {S} {W} did rules standing purpose first at old new = (stream : S)
    → IsHeldAt old.clients.held at stream
    → BeginsTold did rules standing purpose first stream new.clients.places at

-- who asks for a case waits behind the others, and nobody else: what another one asks for is told at once, and by that
-- the end of the run may be asked for
abbrev pub WaitsOrHears : {L P E S W : Type 0} → (S → S → List Deed → Type 0) → VisitRules → StandingValue → Purpose
    → Option ℕ → ℕ → AcceptedRequest → Visitors TesterValue L P E S W → Visitors TesterValue L P E S W → Type 0
WaitsOrHears did rules standing purpose None at request old new = (new.waiting.items ≡ old.waiting.items)
    × (new.ending ≡ ending_for purpose at old.ending)
    × TellsThere did rules standing purpose request.behind.items at old new
WaitsOrHears did rules standing purpose (Some number) at request old new =
    WaitsBehind old.ending at request old.waiting.items new.waiting.items

-- so it is by what the request of the client in this place asks for while the cases stand so
abbrev pub IsTakenIn : {L P E S W : Type 0} → (S → S → List Deed → Type 0) → VisitRules → StandingValue → ℕ
    → AcceptedRequest → Visitors TesterValue L P E S W → Visitors TesterValue L P E S W → Type 0
IsTakenIn did rules standing at request old new = (purpose : Purpose) × AsksNow rules standing request purpose
    × WaitsOrHears did rules standing purpose (number_to_run purpose) at request old new

-- and by what came of it: who was not accepted doesn't wait
abbrev pub IsAdmitted : {L P E S W : Type 0} → (S → S → List Deed → Type 0) → VisitRules → StandingValue → ℕ
    → Admission → Visitors TesterValue L P E S W → Visitors TesterValue L P E S W → Type 0
IsAdmitted did rules standing at (admission.Accepted request) old new = IsTakenIn did rules standing at request old new
IsAdmitted did rules standing at (admission.Refused fault) old new = new.waiting.items ≡ old.waiting.items
IsAdmitted did rules standing at admission.Lost old new = new.waiting.items ≡ old.waiting.items

-- ---- a case that is run

-- this tester plays in this place over this stream, whatever has happened there
abbrev pub RunsStill : {S : Type 0} → (S → S → List Deed → Type 0) → List (Place (Talk TesterValue) S) → ℕ → S
    → TesterValue → Type 0
RunsStill {S} did places at stream tester = (happened : List Happened)
    × IsPlaying (λ start now told. WasTold start now told) did tester stream happened places at

-- so it does over the stream that was held beside this place
abbrev pub RunsHeld : {S : Type 0} → (S → S → List Deed → Type 0) → List (Option S) → List (Place (Talk TesterValue) S)
    → ℕ → TesterValue → Type 0
RunsHeld {S} did held places at tester = (stream : S) × IsHeldAt held at stream
    × RunsStill did places at stream tester

-- a run that began so was run to its end over this stream: by what happened there the tester gives this transcript
abbrev pub RunsFrom : {S : Type 0} → (S → S → List Deed → Type 0) → S → RunState → Transcript → Type 0
RunsFrom {S} did stream start transcript = (last : S) × (happened : List Happened)
    × IsRecorded start (all_told happened) transcript × HasDone did stream last (all_done happened)

-- Whatever tester plays in this place, it still does; or its case was run to its end, and this is the transcript.
abbrev pub RunsOn : {S : Type 0} → (S → S → List Deed → Type 0) → List (Place (Talk TesterValue) S)
    → List (Place (Talk TesterValue) S) → ℕ → Option Transcript → Type 0
RunsOn {S} did old new at None = (tester : TesterValue) (stream : S) → RunsStill did old at stream tester
    → RunsStill did new at stream tester
RunsOn {S} did old new at (Some transcript) = (tester : TesterValue) (stream : S)
    → RunsStill did old at stream tester → RunsFrom did stream tester.run transcript

-- so it was run over the stream that was held beside this place
abbrev pub RunsThere : {S : Type 0} → (S → S → List Deed → Type 0) → List (Option S) → ℕ → RunState → Transcript
    → Type 0
RunsThere {S} did held at start transcript = (stream : S) × IsHeldAt held at stream
    × RunsFrom did stream start transcript

-- The turn is that of a client who waits no longer, from whose stream, which is held beside its place, the request was
-- read that asks for this; and no other waits in that place.
pub record IsTurnOf {L P E S W : Type 0} (did : S → S → List Deed → Type 0) (rules : VisitRules)
    (standing : StandingValue) (at : ℕ) (purpose : Purpose) (first : List ℕ) (v : Visitors TesterValue L P E S W)
    : Type 0 where
  pub nobody : NobodyAt at v.waiting.items
  pub request : AcceptedRequest
  pub accepted : IsAcceptedAt did v.clients.known v.clients.held at request
  pub asks : AsksNow rules standing request purpose
  pub behind : request.behind.items ≡ first

-- so it is where it is that of one who asks for a case
abbrev pub IsTurnAt : {L P E S W : Type 0} → (S → S → List Deed → Type 0) → VisitRules → StandingValue
    → Visitors TesterValue L P E S W → Turn → Type 0
IsTurnAt did rules standing v (turn.Case at purpose behind) = IsTurnOf did rules standing at purpose behind.items v
IsTurnAt did rules standing v turn.Over = ⊤
IsTurnAt did rules standing v (turn.None why) = ⊤

-- The case that a request asks for was run to its end over the stream from which the request was read.
pub record IsPlayedTo {S : Type 0} (did : S → S → List Deed → Type 0) (rules : VisitRules) (standing : StandingValue)
    (purpose : Purpose) (transcript : Transcript) : Type 0 where
  pub request : AcceptedRequest
  pub accepted : IsAdmission did (known_by rules) (admission.Accepted request)
  pub asks : AsksNow rules standing request purpose
  pub case : Case
  pub is_case : case_for rules.cases.now purpose ≡ Some case
  pub start : RunState
  pub begins : BeginsScript (visit_plan rules) rules.budget case request.behind.items start
  pub runs : RunsFrom did accepted.last start transcript

-- so it was, if one was run
abbrev pub IsPlayedSo : {S : Type 0} → (S → S → List Deed → Type 0) → VisitRules → StandingValue → Visit → Type 0
IsPlayedSo did rules standing visit.Over = ⊤
IsPlayedSo did rules standing (visit.Ran purpose transcript) = IsPlayedTo did rules standing purpose transcript

-- ---- a turn

-- a loop was stopped so: memory ran out, or nothing can be waited for any more
abbrev pub StopsFor : Type 0 → LoopFault → Type 0
StopsFor Fails loop.NoMemory = ⊤
StopsFor Fails loop.WaitFailed = Fails
StopsFor Fails loop.NoOutput = Fails

-- the next turn was taken, or it was told why there is none, behind those who passed by
abbrev pub TakesNext : Met → Unmet → VisitRules → StandingValue → Result Visit NoVisit → Device → Type 0
TakesNext c n rules standing (Ok visit) faults = IsTurnTaken c rules standing visit faults
TakesNext c n rules standing (Err why) faults = n.none rules why × HavePassed c rules standing faults

-- The case that was asked for was run, where these bytes had come behind the head; before that its name was told, and
-- such ones passed by meanwhile.
pub record RunsTurn (rules : VisitRules) (standing : StandingValue) (purpose : Purpose) (first : List ℕ)
    (transcript : Transcript) (faults : Device) : Type 0 where
  pub case : Case
  pub is_case : case_for rules.cases.now purpose ≡ Some case
  pub played : IsPlayed (visit_plan rules) rules.budget case first transcript
  pub during : List Passing
  pub pass : All (Passes rules standing) during
  pub noted : TellsEach (case_notes rules.progress (Some case) ++ notes_of_passing during) faults
