-- The turns of clients under test: the request of each who comes is answered (RFC 6455 sections 4.2 and 5 to 7), and
-- what it asks for is told at once, or run when it is its turn.
use Rattle.std.specs.Prelude.{◌≡◌, ℕ, ◌-◌, ⊤, Bool, List, [], ◌∷◌, ◌++◌, Option, Some, None, String, length, map}
use Rattle.std.specs.Prelude.{codes, flat_map, slice_get, string_bytes}
use Rattle.std.specs.List.{All, concat}
use Rattle.std.specs.declared.alloc.Global.{Global}
use Rattle.ws_wire.specs.declared.role.Role.TheVariants.{Client}
use Rattle.ws_frame.specs.Devices.{Device}
use Rattle.ws_upgrade.specs.Protocols.{AreOffers}
use Rattle.ws_upgrade.specs.Words.{head_fault_name}
use Rattle.ws_upgrade.specs.declared.faults.HeadFault.{HeadFault}
use Rattle.ws_clients.specs.Talks.{IsAdmission}
use Rattle.ws_handshake.specs.declared.admission.AcceptedRequest.{AcceptedRequest}
use Rattle.ws_handshake.specs.declared.admission.Admission.TheVariants as admission
use Rattle.ws_loops.specs.Deeds.{Deed, Happened, HasDone, all_done, all_told}
use Rattle.ws_machines.specs.Told.{Told}
use Rattle.ws_paths.specs.Paths.{AsksWithin, IsPurpose}
use Rattle.ws_paths.specs.Standings.{StandingValue, behavior_of}
use Rattle.ws_paths.specs.Telling.{IsToldBy}
use Rattle.ws_paths.specs.Texts.{count_text, info_text, status_text}
use Rattle.ws_paths.specs.declared.purpose.Purpose.{Purpose}
use Rattle.ws_paths.specs.declared.purpose.Purpose.TheVariants.{CaseCount, CaseInfo, CaseStatus, NextCase, NoCase}
use Rattle.ws_paths.specs.declared.purpose.Purpose.TheVariants.{RunCase, UpdateReports}
use Rattle.ws_scripts.specs.Scripts.{CanBeRun, turn_bytes, turns_of}
use Rattle.ws_scripts.specs.declared.expectation.Expectation.{Expectation}
use Rattle.ws_scripts.specs.declared.script.Case.{Case}
use Rattle.ws_scripts.specs.declared.transcript.Transcript.{Transcript}
use Rattle.ws_tester.specs.Following.{BeginsRun}
use Rattle.ws_tester.specs.Outgoings.{HaveBytes, Pieces}
use Rattle.ws_tester.specs.Records.{IsRecorded}
use Rattle.ws_tester.specs.RunStates.{PlanValue, RunState}
use Rattle.ws_shown.specs.ShownTesters.{without_reports}
use Rattle.wst_testing.specs.Notes.{TellsEach, progress_notes}
use Rattle.wst_testing.specs.Servers.{DidThese}
use Rattle.wst_clients.specs.ClientLines.{name_told}
use Rattle.wst_clients.specs.declared.visiting.NoVisit.{NoVisit}
use Rattle.wst_clients.specs.declared.visiting.Visit.{Visit}
use Rattle.wst_clients.specs.declared.visiting.Visit.TheVariants.{Over, Ran}
use Rattle.wst_clients.specs.declared.visiting.VisitRules.{VisitRules}

-- ---- what is asked for

-- the subprotocols that are known
abbrev pub known_by : VisitRules → List (List ℕ)
known_by rules = map (λ name. name.now) rules.protocols.now

-- the cases can be run, as many as stand in some way, and the subprotocols can be known
pub record CanBeVisited (rules : VisitRules) (standing : StandingValue) : Type 0 where
  pub can_be_run : All CanBeRun rules.cases.now
  pub counted : length standing.behaviors ≡ length rules.cases.now
  pub known : AreOffers (known_by rules)

-- the case that is run for what is asked for, if one is: cases are numbered from 1
abbrev pub case_for : List Case → Purpose → Option Case
case_for cases (RunCase number) = slice_get cases (number - 1)
case_for cases (NextCase number) = slice_get cases (number - 1)
case_for cases CaseCount = None
case_for cases (CaseInfo number) = None
case_for cases (CaseStatus number) = None
case_for cases UpdateReports = None
case_for cases NoCase = None

-- these bytes are the text
abbrev pub HasText : List ℕ → Option (String Global) → Type 0
HasText bytes None = ⊥
HasText bytes (Some text) = string_bytes text ≡ bytes

-- the text that is told to a connection for which no case is run: how many cases there are; the name of a case, and how
-- many turns it has; what came of it; or none
abbrev pub IsTextFor : VisitRules → StandingValue → Purpose → Option (String Global) → Type 0
IsTextFor rules standing CaseCount text = HasText (count_text (length rules.cases.now)) text
IsTextFor rules standing (CaseInfo number) text = (case : Case) × (slice_get rules.cases.now (number - 1) ≡ Some case)
    × HasText (info_text (name_told rules.telling number case) (length (turns_of case.steps))) text
IsTextFor rules standing (CaseStatus number) text = HasText (status_text (behavior_of standing number)) text
IsTextFor rules standing UpdateReports text = text ≡ None
IsTextFor rules standing NoCase text = text ≡ None
IsTextFor rules standing (RunCase number) text = text ≡ None
IsTextFor rules standing (NextCase number) text = text ≡ None

-- the script that tells it
abbrev pub TellsFor : VisitRules → StandingValue → Purpose → Case → Type 0
TellsFor rules standing purpose script =
    (text : Option (String Global)) × IsTextFor rules standing purpose text × IsToldBy text script

-- ---- a script that is played

-- how a script is run with a client of which this is expected, whether waits can be in vain or not
abbrev pub client_plan : Expectation → Bool → PlanValue
client_plan expected timeouts = record { tested = Client; expected = expected; timeouts = timeouts }

-- The tester of a script for a client begins so, where at most so many bytes are read behind its head, and these have
-- come with it: the frames of a server are not masked.
pub record BeginsScript (plan : PlanValue) (budget : ℕ) (script : Case) (first : List ℕ) (start : RunState) : Type 0
  where
    pub pieces : List Pieces
    pub bytes : map concat pieces ≡ map (turn_bytes None) (turns_of script.steps)
    pub has_bytes : HaveBytes pieces
    pub begins : BeginsRun (record { plan = plan; script = pieces; budget = budget; first = first }) start

-- A run that began so was run to its end over some stream: the transcript is what the tester gives, by all that it was
-- told, and that is what the stream did, and what the clock says.
pub record IsRunOver (start : RunState) (transcript : Transcript) : Type 0 where
  pub happened : List Happened
  pub told : List Told
  pub is_told : without_reports told ≡ without_reports (all_told happened)
  pub recorded : IsRecorded start told transcript
  pub before : List Deed
  pub last : List Deed
  pub done : HasDone DidThese before last (all_done happened)

-- the script was played to its end so
abbrev pub IsPlayed : PlanValue → ℕ → Case → List ℕ → Transcript → Type 0
IsPlayed plan budget script first transcript = (start : RunState) × BeginsScript plan budget script first start
    × IsRunOver start transcript

abbrev pub visit_plan : VisitRules → PlanValue
visit_plan rules = client_plan rules.expected rules.has_timeouts

-- ---- what came of a turn

-- a request was accepted, whose path has this purpose
pub record IsAsked (rules : VisitRules) (standing : StandingValue) (purpose : Purpose) (request : AcceptedRequest)
    : Type 0 where
  pub accepted : IsAdmission DidThese (known_by rules) (admission.Accepted request)
  pub is_purpose : IsPurpose (length rules.cases.now) standing.asked request.path.items purpose

-- Who asked for this was told so at once: for it no case is run.
pub record IsToldAtOnce (rules : VisitRules) (standing : StandingValue) (purpose : Purpose) : Type 0 where
  pub request : AcceptedRequest
  pub asked : IsAsked rules standing purpose request
  pub no_case : case_for rules.cases.now purpose ≡ None
  pub script : Case
  pub tells : TellsFor rules standing purpose script

-- The case was run that was asked for, to its end.
pub record IsRun (rules : VisitRules) (standing : StandingValue) (purpose : Purpose) (transcript : Transcript) : Type 0
  where
    pub request : AcceptedRequest
    pub asked : IsAsked rules standing purpose request
    pub case : Case
    pub is_case : case_for rules.cases.now purpose ≡ Some case
    pub played : IsPlayed (visit_plan rules) rules.budget case request.behind.items transcript

-- what a turn came to: the end of the run was asked for, or a case was run
abbrev pub Visits : VisitRules → StandingValue → Visit → Type 0
Visits rules standing Over = IsToldAtOnce rules standing UpdateReports
Visits rules standing (Ran purpose transcript) = IsRun rules standing purpose transcript

-- the case that was run is one of those that are given
abbrev pub IsInside : VisitRules → Visit → Type 0
IsInside rules Over = ⊤
IsInside rules (Ran purpose transcript) = AsksWithin (length rules.cases.now) purpose

-- ---- who passes by: others, before a turn and in it

-- Its request was not whole, or it could not be answered; it was refused; or it was told at once what it asked for.
pub data Passing : Type 0 where
  Lost : Passing
  Refused : HeadFault → Passing
  Answered : Purpose → Passing

abbrev pub Passes : VisitRules → StandingValue → Passing → Type 0
Passes rules standing Lost = ⊤
Passes rules standing (Refused fault) = IsAdmission DidThese (known_by rules) (admission.Refused fault)
Passes rules standing (Answered purpose) = IsToldAtOnce rules standing purpose

-- ---- what is told on the fault output

-- the name of a case before it runs, where there is one and that is asked for
abbrev pub case_notes : Bool → Option Case → List (List ℕ)
case_notes progress None = []
case_notes progress (Some case) = progress_notes progress case

-- a request that is refused
abbrev pub refused_line : HeadFault → List ℕ
refused_line fault = codes "refused " ++ head_fault_name fault ++ codes "\n"

-- of who passes by
abbrev pub passing_notes : Passing → List (List ℕ)
passing_notes Lost = []
passing_notes (Refused fault) = refused_line fault ∷ []
passing_notes (Answered purpose) = []

abbrev pub notes_of_passing : List Passing → List (List ℕ)
notes_of_passing passing = flat_map passing_notes passing

-- What is known of those who are met: what may come of a turn, and who may pass by, by these rules and where the cases
-- stand so.
pub record Met : Type 1 where
  pub visits : VisitRules → StandingValue → Visit → Type 0
  pub passes : VisitRules → StandingValue → Passing → Type 0

-- What is known where nobody is met: that there is no turn by these rules, for this reason; and that none can be waited
-- for any more.
pub record Unmet : Type 1 where
  pub none : VisitRules → NoVisit → Type 0
  pub fails : Type 0

-- some of them can't be waited for any more
abbrev pub AreFailing : {C : Type 0} → (C → Type 0) → Type 0
AreFailing {C} fails = (clients : C) × fails clients

-- so of clients of a kind, of which some have said why there is no turn, or can't be waited for
abbrev pub unmet_by : {C : Type 0} → (VisitRules → NoVisit → C → Type 0) → (C → Type 0) → Unmet
unmet_by {C} none fails = record {
  none = λ rules why. (clients : C) × none rules why clients;
  fails = AreFailing fails;
}

-- such ones passed by, and what was told of them is told
pub record HavePassed (c : Met) (rules : VisitRules) (standing : StandingValue) (faults : Device) : Type 0 where
  pub passing : List Passing
  pub pass : All (c.passes rules standing) passing
  pub noted : TellsEach (notes_of_passing passing) faults

-- a case begins, of which this is told
abbrev pub begun_notes : VisitRules → Visit → List (List ℕ)
begun_notes rules Over = []
begun_notes rules (Ran purpose transcript) = case_notes rules.progress (case_for rules.cases.now purpose)

-- A turn came to this, where such ones passed by before it, and such ones in it; and that was told.
pub record IsTurnTaken (c : Met) (rules : VisitRules) (standing : StandingValue) (visit : Visit) (faults : Device)
    : Type 0 where
  pub before : List Passing
  pub pass : All (c.passes rules standing) before
  pub visits : c.visits rules standing visit
  pub during : List Passing
  pub pass_too : All (c.passes rules standing) during
  pub noted : TellsEach (notes_of_passing before ++ begun_notes rules visit ++ notes_of_passing during) faults

-- Where a turn is not taken to its end such ones passed by, and perhaps a case has begun.
pub record BreaksTurn (c : Met) (rules : VisitRules) (standing : StandingValue) (faults : Device) : Type 0 where
  pub before : List Passing
  pub pass : All (c.passes rules standing) before
  pub case : Option Case
  pub during : List Passing
  pub pass_too : All (c.passes rules standing) during
  pub noted : TellsEach (notes_of_passing before ++ case_notes rules.progress case ++ notes_of_passing during) faults
