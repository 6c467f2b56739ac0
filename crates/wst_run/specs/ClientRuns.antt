-- Clients under test that come to an address of a network.
use Rattle.std.specs.Prelude.{◌≡◌, ◌⊎◌, ⊤, ℕ, Bool, true, false, IsTrue, List, [], ◌∷◌, Option, None, Some, Result, Ok}
use Rattle.std.specs.Prelude.{Err}
use Rattle.ws_wire.specs.declared.role.Role.{Role}
use Rattle.ws_wire.specs.declared.role.Role.TheVariants.{Client}
use Rattle.ws_frame.specs.declared.source.DataStyle.{DataStyle}
use Rattle.ws_frame.specs.Devices.{Device, HasBegun, HasWritten, IsUntouched}
use Rattle.ws_lines.specs.declared.transcript_lines.Showing.{Showing}
use Rattle.ws_reports.specs.Reports.{ReportValue}
use Rattle.ws_scripts.specs.Captures2.{written_capture2}
use Rattle.ws_scripts.specs.declared.expectation.Expectation.{Expectation}
use Rattle.ws_scripts.specs.declared.script.Case.{Case}
use Rattle.ws_scripts.specs.declared.transcript.Transcript.{Transcript}
use Rattle.wst_commands.specs.CloseCodes.{HasCodeNotes}
use Rattle.wst_commands.specs.Devices.{Tells}
use Rattle.wst_commands.specs.Faults.{Ends}
use Rattle.wst_commands.specs.TimeLimits.{is_limited}
use Rattle.wst_commands.specs.declared.exit.Exit.{Exit}
use Rattle.wst_commands.specs.declared.exit.Exit.TheVariants.{Done, Failed}
use Rattle.wst_commands.specs.declared.fault.Fault.{Fault}
use Rattle.wst_clients.specs.ClientCaptures.{CapturesClient, client_capture}
use Rattle.wst_clients.specs.ClientSends.{ScriptsClient}
use Rattle.wst_clients.specs.ClientTests.{DocumentsClients, IsVisitFault, TestsClients}
use Rattle.wst_testing.specs.Hints.{MissesEcho, missed_echo_notes}
use Rattle.wst_testing.specs.LineWriting.{HasWrittenRun}
use Rattle.wst_sockets.specs.Listening.{CanNotListen, IsToldFor}
use Rattle.wst_testing.specs.Notes.{TellsEach}
use Rattle.wst_services.specs.Serve.{listening_line}
use Rattle.wst_clients.specs.Turns.{met_clients}
use Rattle.wst_clients.specs.Visits.{Unmet, known_by}
use Rattle.wst_clients.specs.declared.visiting.NoVisit.{NoVisit}
use Rattle.wst_clients.specs.declared.visiting.NoVisit.TheVariants.{Never, TooLate}
use Rattle.wst_run.specs.declared.clients_at.ClientJob.{ClientJob}
use Rattle.wst_run.specs.declared.clients_at.ClientJob.TheVariants.{Capture, Document, Lines}
use Rattle.wst_run.specs.declared.send.SendPlan.{SendPlan}
use Rattle.wst_clients.specs.declared.sending_to_client.ScriptRules.{ScriptRules}
use Rattle.wst_run.specs.declared.test.TestPlan.{TestPlan}
use Rattle.wst_clients.specs.declared.visiting.Telling.{Telling}
use Rattle.wst_clients.specs.declared.visiting.Telling.TheVariants.{Cases, Scripts}
use Rattle.wst_clients.specs.declared.visiting.VisitRules.{VisitRules}

-- ---- one thing behind another on the fault output

-- the first device tells what was told up to some point of all, since when the output may have failed
abbrev pub GoesBefore : Device → Device → Type 0
GoesBefore first all = (first.old ≡ all.old) × (first.failed ≡ true → all.failed ≡ true)

-- a run ended, and how it ended is told behind what was told before
abbrev pub EndsBehind : (Result Exit Fault → Device → Type 0) → Exit → Device → Type 0
EndsBehind Runs exit faults = (ended : Result Exit Fault) × (first : Device) × GoesBefore first faults
    × Runs ended first × Ends ended exit (record faults { old = first.new })

-- it is told there at which address is listened, and that is done behind it
abbrev pub NotesBefore : List ℕ → (Device → Type 0) → Device → Type 0
NotesBefore address Runs faults = (first : Device) × GoesBefore first faults
    × TellsEach (listening_line address ∷ []) first × Runs (record faults { old = first.new })

-- what is to be remarked of the close frames of a script is told
abbrev pub NotesCodes : List ℕ → Device → Type 0
NotesCodes script faults = (notes : List ℕ) × HasCodeNotes script notes × Tells notes faults

-- ---- tests

-- cases are told of as this report has them
abbrev pub TellsBy : ReportValue → Telling → Type 0
TellsBy report (Cases told) = told.now ≡ report
TellsBy report (Scripts all) = ⊥

-- these are the rules of a plan, told of so
pub record AreRulesOf (plan : TestPlan) (report : ReportValue) (rules : VisitRules) : Type 0 where
  pub cases : rules.cases.now ≡ plan.cases.items
  pub protocols : known_by rules ≡ plan.run.protocols
  pub budget : rules.budget ≡ plan.run.budget
  pub has_timeouts : rules.has_timeouts ≡ is_limited plan.run.timeout
  pub wait : rules.wait ≡ plan.run.wait
  pub expected : rules.expected ≡ plan.run.expected
  pub explains : rules.explains ≡ plan.explain
  pub progress : rules.progress ≡ plan.progress
  pub max_fail : rules.max_fail ≡ plan.max_fail
  pub telling : TellsBy report rules.telling

-- the first line could not be written, or not flushed, and nothing was written after it
abbrev pub StopsAtFirstLine : List ℕ → Result Exit Fault → Device → Device → Type 0
StopsAtFirstLine address ended output faults = (ended ≡ Ok Failed) × (output.failed ≡ true)
    × HasBegun (listening_line address) output × IsUntouched faults

-- so nothing was written or told
abbrev pub TestsNone : Result Exit Fault → Device → Device → Type 0
TestsNone ended output faults = ((fault : Fault) × CanNotListen fault × (ended ≡ Err fault))
    × IsUntouched output × IsUntouched faults

-- what is known of an address where nobody is met: a request may be waited for in vain
abbrev pub unmet_there : VisitRules → NoVisit → Type 0
unmet_there rules TooLate = IsTrue (is_limited rules.wait)
unmet_there rules Never = ⊤

abbrev pub unmet_at : Unmet
unmet_at = record { none = unmet_there; fails = ⊤ }

-- a capture is of one case
abbrev pub IsJobFor : ClientJob → VisitRules → Type 0
IsJobFor Capture rules = (case : Case) × (rules.cases.now ≡ case ∷ [])
IsJobFor (Document document) rules = ⊤
IsJobFor Lines rules = ⊤

-- It is told at which address is listened, on the fault output where a capture or a document is written of the clients,
-- else on the output, and they are tested; or that line could not be written, or memory ran out for it.
abbrev pub VisitsTold : Unmet → List ℕ → ClientJob → VisitRules → Result Exit Fault → Device → Device → Type 0
VisitsTold n address Capture rules ended output faults = ((case : Case) × (rules.cases.now ≡ case ∷ [])
    × NotesBefore address (λ behind. CapturesClient met_clients n rules case ended output behind) faults)
    ⊎ TestsNone ended output faults
VisitsTold n address (Document document) rules ended output faults = NotesBefore address
    (λ behind. DocumentsClients met_clients n rules document.target.now document.report.now ended output behind) faults
    ⊎ TestsNone ended output faults
VisitsTold n address Lines rules ended output faults =
    ((told : Option (List ℕ)) × HasWritten (listening_line address) (record output { new = told })
    × TestsClients met_clients n rules ended (record output { old = told }) faults)
    ⊎ StopsAtFirstLine address ended output faults ⊎ TestsNone ended output faults

-- what is told of the address is told, and clients are tested so; or nothing is told
abbrev pub VisitsAt : List ℕ → ClientJob → VisitRules → Result Exit Fault → Device → Device → Type 0
VisitsAt address job rules ended output faults = ((told : List ℕ) × IsToldFor address told
    × VisitsTold unmet_at told job rules ended output faults) ⊎ TestsNone ended output faults

-- what is written of the clients of a plan: their capture, a document, or lines
abbrev pub IsJobOf : TestPlan → ReportValue → ClientJob → Type 0
IsJobOf plan report Capture = plan.capture ≡ true
IsJobOf plan report (Document document) = (plan.capture ≡ false) × (report.is_junit ≡ true)
    × (document.target.now ≡ plan.target.now) × (document.report.now ≡ report)
IsJobOf plan report Lines = (plan.capture ≡ false) × (report.is_junit ≡ false)

abbrev pub TestsAt : List ℕ → TestPlan → ReportValue → Result Exit Fault → Device → Device → Type 0
TestsAt address plan report ended output faults = (rules : VisitRules) × AreRulesOf plan report rules
    × ((job : ClientJob) × IsJobOf plan report job × VisitsAt address job rules ended output faults)

-- and how that ended is told behind what was told before
abbrev pub TestsClientsAt : List ℕ → TestPlan → ReportValue → Exit → Device → Device → Type 0
TestsClientsAt address plan report exit output faults =
    EndsBehind (λ ended first. TestsAt address plan report ended output first) exit faults

-- ---- a script that is sent

-- these are the rules of a plan
pub record AreScriptRulesOf (plan : SendPlan) (given : Case) (rules : ScriptRules) : Type 0 where
  pub case : rules.case.now ≡ given
  pub budget : rules.budget ≡ plan.run.budget
  pub has_timeouts : rules.has_timeouts ≡ is_limited plan.run.timeout
  pub expected : rules.expected ≡ plan.run.expected

-- how the lines of a run over a client are shown
abbrev pub client_showing : DataStyle → Showing
client_showing style = record { tested = Client; style = style; sent_fault = None; got_fault = None }

-- the lines of the run were written, flushed, or its capture
abbrev pub WritesClientRun : DataStyle → Bool → Transcript → Device → Type 0
WritesClientRun style false transcript output = HasWrittenRun (client_showing style) transcript output
WritesClientRun style true transcript output =
    HasWritten (written_capture2 (client_capture transcript)) output × (output.failed ≡ false)

-- it is told that the replies are none of an echo only where that is so; where memory lacks to find it out, it isn't
abbrev pub MayTellMissed : Expectation → Role → Transcript → Bool → Type 0
MayTellMissed expected tested transcript missed = (missed ≡ true) → MissesEcho expected tested transcript true

-- it is told what to type only where an echo is expected and the replies are none of one
abbrev pub HintsEcho : Expectation → Role → Transcript → Device → Type 0
HintsEcho expected tested transcript faults = (missed : Bool) × MayTellMissed expected tested transcript missed
    × TellsEach (missed_echo_notes missed) faults

-- so it may be behind what was told of the connections; behind a capture it isn't
abbrev pub HintsBehind : Bool → Expectation → Transcript → (Device → Type 0) → Device → Type 0
HintsBehind true expected transcript Runs faults = Runs faults
HintsBehind false expected transcript Runs faults = (first : Device) × GoesBefore first faults × Runs first
    × HintsEcho expected Client transcript (record faults { old = first.new })

-- the script of a plan was sent so: where none can come any more, that is the word of the listener
abbrev pub ScriptsPlan : Type 0 → SendPlan → Case → Option Transcript → Device → Type 0
ScriptsPlan Nobody plan case sent faults = (rules : ScriptRules) × AreScriptRulesOf plan case rules
    × ScriptsClient (IsTrue (is_limited plan.run.wait)) Nobody plan.run.protocols rules sent faults

-- a write failed: of a capture, where one is asked for, a beginning was written; of lines it is not said what was
abbrev pub BreaksClientRun : Type 0 → SendPlan → Case → Device → Device → Type 0
BreaksClientRun Nobody plan case output faults = (output.failed ≡ true) × ((plan.capture ≡ true)
    → (transcript : Transcript) × ScriptsPlan Nobody plan case (Some transcript) faults
    × HasBegun (written_capture2 (client_capture transcript)) output)

-- The script was run over a client, and that was written; or a write failed, or none came in time or can come any
-- more; or memory ran out, or nothing could be waited for, and nothing was written of a capture.
abbrev pub SendsScript : Type 0 → SendPlan → Case → Result Exit Fault → Device → Device → Type 0
SendsScript Nobody plan case (Ok Done) output faults = (transcript : Transcript)
    × HintsBehind plan.capture plan.run.expected transcript (ScriptsPlan Nobody plan case (Some transcript)) faults
    × WritesClientRun plan.style plan.capture transcript output
SendsScript Nobody plan case (Ok Failed) output faults = BreaksClientRun Nobody plan case output faults
    ⊎ (ScriptsPlan Nobody plan case None faults × IsUntouched output)
SendsScript Nobody plan case (Ok other) output faults = ⊥
SendsScript Nobody plan case (Err fault) output faults = IsVisitFault ⊤ fault
    × ((plan.capture ≡ true) → IsUntouched output)

-- It is told at which address is listened, and the script is sent; or nothing can be listened at, or memory ran out.
abbrev pub SendsAt : List ℕ → SendPlan → Case → Result Exit Fault → Device → Device → Type 0
SendsAt address plan case ended output faults =
    ((told : List ℕ) × IsToldFor address told
    × NotesBefore told (λ behind. SendsScript ⊤ plan case ended output behind) faults)
    ⊎ TestsNone ended output faults
