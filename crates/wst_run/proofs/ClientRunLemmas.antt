-- Runs over clients at an address: what is known of a listener may be said of the address; and scripts that were sent.
use Rattle.std.proofs.Common.{◌≡◌, ◌∙◌, ℕ, Bool, true, false, IsErrAnd, List, [], ◌∷◌, Option, None, Some, Result, Ok}
use Rattle.std.proofs.Common.{Err, ap, arith, inl, inr, length, refl, subst, sym}
use Rattle.std.proofs.lemmas.Bool.{false≢true}
use Rattle.std.specs.Bool.{⊤}
use Rattle.std.specs.Prelude.{IsTrue, MatchResult, is_some}
use Rattle.ws_frame.specs.Devices.{Device, IsUntouched}
use Rattle.ws_loops.specs.Listeners.{AcceptDeed}
use Rattle.ws_networks.specs.declared.bounds.Limits.{Limits}
use Rattle.ws_reports.specs.Reports.{ReportValue}
use Rattle.ws_scripts.specs.Captures2.{written_capture2}
use Rattle.ws_scripts.specs.declared.script.Case.{Case}
use Rattle.ws_scripts.specs.declared.transcript.Transcript.{Transcript}
use Rattle.ws_wire.specs.declared.role.Role.TheVariants.{Client}
use Rattle.wst_commands.specs.Devices.{Delivers}
use Rattle.wst_commands.specs.TimeLimits.{is_limited}
use Rattle.wst_commands.specs.declared.exit.Exit.{Exit}
use Rattle.wst_commands.specs.declared.exit.Exit.TheVariants.{Done, Failed}
use Rattle.wst_commands.specs.declared.fault.Fault.{Fault}
use Rattle.wst_commands.specs.declared.fault.Fault.TheVariants.{NoMemory}
use Rattle.wst_commands.specs.declared.time_limit.TimeLimit.{TimeLimit}
use Rattle.wst_commands.specs.declared.time_limit.TimeLimit.TheVariants.{Seconds, Unlimited}
use Rattle.wst_sockets.specs.Listening.{CanNotListen}
use Rattle.wst_sockets.specs.declared.waits.Waits.{Waits}
use Rattle.wst_testing.specs.Hints.{missed_echo_notes}
use Rattle.wst_testing.specs.Notes.{TellsEach}
use Rattle.wst_commands.specs.TimeLimits.{milliseconds_of}
use Rattle.wst_clients.specs.ClientCaptures.{client_capture}
use Rattle.wst_clients.specs.ClientSends.{IsSentSo, MayBeMissed, ScriptsClient, ScriptsOver}
use Rattle.wst_clients.specs.ClientTests.{IsVisitFault}
use Rattle.wst_clients.specs.Turns.{IsDeafNow, met_clients, unmet_as}
use Rattle.wst_clients.specs.Visitors.{AreVisitors}
use Rattle.wst_clients.specs.Visits.{Unmet}
use Rattle.wst_clients.specs.declared.sending_to_client.ScriptRules.{ScriptRules}
use Rattle.wst_clients.specs.declared.visiting.NoVisit.{NoVisit}
use Rattle.wst_clients.specs.declared.visiting.NoVisit.TheVariants.{Never, TooLate}
use Rattle.wst_clients.specs.declared.visiting.VisitRules.{VisitRules}
use Rattle.wst_clients.specs.declared.visitors.Visitors.{Visitors}
use Rattle.wst_clients.proofs.UnmetLemmas.{captures_by, documents_by, tests_by}
use Rattle.wst_clients.proofs.VisitorLemmas.{limited_by}
use Rattle.wst_run.specs.ClientRuns.{AreRulesOf, AreScriptRulesOf, HintsBehind, HintsEcho, IsJobFor, IsJobOf}
use Rattle.wst_run.specs.ClientRuns.{ScriptsPlan, SendsScript, TestsNone, VisitsTold, WritesClientRun, unmet_at}
use Rattle.wst_run.specs.Test.{CanBeTested}
use Rattle.wst_run.specs.declared.test.TestPlan.{TestPlan}
use Rattle.wst_run.specs.declared.clients_at.ClientJob.{ClientJob}
use Rattle.wst_run.specs.declared.clients_at.ClientJob.TheVariants.{Capture, Document, Lines}
use Rattle.wst_run.specs.declared.send.SendPlan.{SendPlan}

-- nothing can be listened at, or memory ran out
pub none_heard : (ended : Result Exit Fault) (output faults : Device) → IsErrAnd ended CanNotListen
    → IsUntouched output → IsUntouched faults → TestsNone ended output faults
none_heard (Ok exit) output faults is same kept = absurd is
none_heard (Err fault) output faults is same kept = ((fault, is, refl), same, kept)

pub none_lacks : (ended : Result Exit Fault) (output faults : Device) → IsErrAnd ended (λ fault. fault ≡ NoMemory)
    → IsUntouched output → IsUntouched faults → TestsNone ended output faults
none_lacks (Ok exit) output faults is same kept = absurd is
none_lacks (Err fault) output faults is same kept = ((fault, inr is, refl), same, kept)

-- those who wait so are those that are tested
pub waits_as : {M L P E S W : Type 0} (v : Visitors M L P E S W) (names known : List (List ℕ)) (limit wait : Option ℕ)
    → names ≡ known → limit ≡ wait → AreVisitors names limit v → AreVisitors known wait v
waits_as v names known limit wait same is are = subst (λ (l : List (List ℕ)). AreVisitors l wait v) same
    (subst (λ (w : Option ℕ). AreVisitors names w v) is are)

-- by these waits they have a limit where there is one
limited_time : (limit : TimeLimit) → is_some (milliseconds_of limit) ≡ is_limited limit
limited_time Unlimited = refl
limited_time (Seconds seconds) = refl

pub limited_so : (limits : Limits) (waits : Waits) (timeout : TimeLimit)
    → limits ≡ record { limit = milliseconds_of waits.byte; deadline = milliseconds_of waits.deadline }
    → waits.byte ≡ timeout → is_some limits.limit ≡ is_limited timeout
limited_so limits waits timeout is byte = ap (λ (l : Limits). is_some l.limit) is
    ∙ (ap (λ (limit : TimeLimit). is_some (milliseconds_of limit)) byte ∙ limited_time timeout)

-- ---- tests

module _ {M L P E S W : Type 0} (did : L → L → List (AcceptDeed W) → Type 0) (time : P → ℕ) (v : Visitors M L P E S W)
    (rules : VisitRules) where
  none_at : (why : NoVisit) → (unmet_as did time v).none rules why → unmet_at.none rules why
  none_at TooLate (now, late) = late.0
  none_at Never never = tt

  -- what is known of their listener may be said of its address
  pub visits_by : (address : List ℕ) (job : ClientJob) (ended : Result Exit Fault) (output faults : Device)
      → VisitsTold (unmet_as did time v) address job rules ended output faults
      → VisitsTold unmet_at address job rules ended output faults
  visits_by address Capture ended output faults (inl (case, is, (first, before, told, h))) = inl (
    case,
    is,
    (first, before, told, captures_by met_clients (unmet_as did time v) unmet_at rules none_at (λ f. tt) case ended output _ h),
  )
  visits_by address Capture ended output faults (inr none) = inr none
  visits_by address (Document document) ended output faults (inl (first, before, told, h)) = inl (
    first,
    before,
    told,
    documents_by met_clients (unmet_as did time v) unmet_at rules none_at (λ f. tt) document.target.now
        document.report.now ended output _ h,
  )
  visits_by address (Document document) ended output faults (inr none) = inr none
  visits_by address Lines ended output faults (inl (told, wrote, h)) = inl (
    told,
    wrote,
    tests_by met_clients (unmet_as did time v) unmet_at rules none_at (λ f. tt) ended _ faults h,
  )
  visits_by address Lines ended output faults (inr rest) = inr rest

-- as this job says
pub told_as : (n : Unmet) (address : List ℕ) (job said : ClientJob) (rules : VisitRules) (ended : Result Exit Fault)
    (output faults : Device) → job ≡ said → VisitsTold n address said rules ended output faults
    → VisitsTold n address job rules ended output faults
told_as n address job said rules ended output faults is told =
    subst (λ (j : ClientJob). VisitsTold n address j rules ended output faults) (sym is) told

only_case : (cases : List Case) → length cases ≡ 1 → (case : Case) × (cases ≡ case ∷ [])
only_case [] one = absurd (omega (arith, one))
only_case (case ∷ []) one = (case, refl)
only_case (case ∷ other ∷ more) one = absurd (omega (arith, one))

-- the job of a plan is one for its rules
pub job_for : (plan : TestPlan) (report : ReportValue) (job : ClientJob) (rules : VisitRules) → CanBeTested plan
    → AreRulesOf plan report rules → IsJobOf plan report job → IsJobFor job rules
job_for plan report Capture rules can are is =
    let (case, one) = only_case plan.cases.items (can.1 is) in (case, are.cases ∙ one)
job_for plan report (Document document) rules can are is = tt
job_for plan report Lines rules can are is = tt

-- ---- a script that is sent

module _ {M L P E S W : Type 0} (did : L → L → List (AcceptDeed W) → Type 0) (time : P → ℕ)
    (old new : Visitors M L P E S W) (plan : SendPlan) (case : Case) (rules : ScriptRules)
    (are : AreScriptRulesOf plan case rules) (known : old.clients.known ≡ plan.run.protocols)
    (waits : old.wait ≡ milliseconds_of plan.run.wait) where
  sent_by : (mid : Visitors M L P E S W) (sent : Option Transcript) (next : List (List ℕ))
      → IsSentSo (MayBeMissed did time old mid) (IsDeafNow did mid.listener) old.clients.known rules sent next
      → IsSentSo (IsTrue (is_limited plan.run.wait)) ⊤ old.clients.known rules sent next
  sent_by mid None next (inl ((same, waited, asked), is)) =
      inl (limited_by plan.run.wait mid.ending mid.wait mid.since (time mid.poller) (same ∙ waits) waited, is)
  sent_by mid None next (inr (never, is)) = inr (tt, is)
  sent_by mid (Some transcript) next h = h

  -- the script of a plan was sent so
  pub plan_sent : (sent : Option Transcript) (faults : Device) → ScriptsOver did time rules old new sent faults
      → ScriptsPlan ⊤ plan case sent faults
  plan_sent sent faults (mid, same, h) = (
    rules,
    are,
    subst (λ (l : List (List ℕ)). Sent l) known (record {
      passing = h.passing;
      pass = h.pass;
      next = h.next;
      is_sent = sent_by mid sent h.next h.is_sent;
      noted = h.noted;
    }),
  )
    where
      Sent : List (List ℕ) → Type 0
      Sent l = ScriptsClient (IsTrue (is_limited plan.run.wait)) ⊤ l rules sent faults

-- the capture of a script that was sent is written, or that failed
pub sends_captured : (plan : SendPlan) (case : Case) (transcript : Transcript) (exit : Exit) (output faults : Device)
    → ScriptsPlan ⊤ plan case (Some transcript) faults → plan.capture ≡ true
    → Delivers Done (written_capture2 (client_capture transcript)) exit output
    → SendsScript ⊤ plan case (Ok exit) output faults
sends_captured plan case transcript exit output faults sent captures (inl (is, works, written)) =
    subst (λ (e : Exit). SendsScript ⊤ plan case (Ok e) output faults) (sym is) (
      transcript,
      subst (λ (b : Bool). HintsBehind b plan.run.expected transcript
          (λ (d : Device). ScriptsPlan ⊤ plan case (Some transcript) d) faults) (sym captures) sent,
      subst (λ (b : Bool). WritesClientRun plan.style b transcript output) (sym captures) (written, works),
    )
sends_captured plan case transcript exit output faults sent captures (inr (is, fails, begun)) =
    subst (λ (e : Exit). SendsScript ⊤ plan case (Ok e) output faults) (sym is)
    (inl (fails, λ asked. (transcript, sent, begun)))

-- the lines of a script that was sent are written, and behind them it may be told what to type
pub sends_shown : (plan : SendPlan) (case : Case) (transcript : Transcript) (output first last : Device)
    → ScriptsPlan ⊤ plan case (Some transcript) first → plan.capture ≡ false
    → WritesClientRun plan.style false transcript output → first.new ≡ last.old
    → (first.failed ≡ true → last.failed ≡ true) → HintsEcho plan.run.expected Client transcript last
    → SendsScript ⊤ plan case (Ok Done) output (record last { old = first.old })
sends_shown plan case transcript output first last sent shows written same still (missed, may, told) = (
  transcript,
  subst (λ (b : Bool). HintsBehind b plan.run.expected transcript
      (λ (d : Device). ScriptsPlan ⊤ plan case (Some transcript) d) (record last { old = first.old })) (sym shows)
      (first, (refl, still), sent, (missed, may, subst (λ (o : Option (List ℕ)). Told o) (sym same) told)),
  subst (λ (b : Bool). WritesClientRun plan.style b transcript output) (sym shows) written,
)
  where
    Told : Option (List ℕ) → Type 0
    Told o = TellsEach (missed_echo_notes missed) (record last { old = o })

-- or not all of them could be written
pub sends_stopped : (plan : SendPlan) (case : Case) (ended : Result Exit Fault) (failed : Bool) (output faults : Device)
    → plan.capture ≡ false → output.failed ≡ failed
    → MatchResult ended (λ exit. (exit ≡ Failed) × (failed ≡ true)) (IsVisitFault ⊤)
    → SendsScript ⊤ plan case ended output faults
sends_stopped plan case (Ok exit) failed output faults shows same (is, fails) =
    subst (λ (e : Exit). SendsScript ⊤ plan case (Ok e) output faults) (sym is)
    (inl (same ∙ fails, λ asked. absurd (false≢true (sym shows ∙ asked))))
sends_stopped plan case (Err fault) failed output faults shows same is =
    (is, λ asked. absurd (false≢true (sym shows ∙ asked)))

-- or nothing was, since memory ran out, or nothing could be waited for
pub sends_none : (plan : SendPlan) (case : Case) (ended : Result Exit Fault) (output faults : Device)
    → IsErrAnd ended (IsVisitFault ⊤) → IsUntouched output → SendsScript ⊤ plan case ended output faults
sends_none plan case (Ok exit) output faults is kept = absurd is
sends_none plan case (Err fault) output faults is kept = (is, λ asked. kept)

-- the same, of an error that was handed on
pub sends_fault : (plan : SendPlan) (case : Case) (ended : Result Exit Fault) (given : Fault) (output faults : Device)
    → IsErrAnd ended (λ fault. fault ≡ given) → IsVisitFault ⊤ given → IsUntouched output
    → SendsScript ⊤ plan case ended output faults
sends_fault plan case (Ok exit) given output faults is stops kept = absurd is
sends_fault plan case (Err fault) given output faults is stops kept =
    (subst (λ (f : Fault). IsVisitFault ⊤ f) (sym is) stops, λ asked. kept)

-- the same, where memory ran out
pub sends_lacks : (plan : SendPlan) (case : Case) (ended : Result Exit Fault) (output faults : Device)
    → IsErrAnd ended (λ fault. fault ≡ NoMemory) → IsUntouched output → SendsScript ⊤ plan case ended output faults
sends_lacks plan case (Ok exit) output faults lacks kept = absurd lacks
sends_lacks plan case (Err fault) output faults lacks kept = (inl lacks, λ asked. kept)
