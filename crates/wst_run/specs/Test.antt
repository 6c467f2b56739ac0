-- A run of `test`: the cases that the words ask for are run over ends in memory, over the server at an address, or over
-- clients that come to one; or it is told why nothing is run.
use Rattle.std.specs.Prelude.{◌≡◌, ◌⊎◌, ⊤, ℕ, Bool, true, false, not, ◌||◌, ◌&&◌, if◌then◌else◌, List, [], ◌∷◌}
use Rattle.std.specs.Prelude.{Option, Some, None, Result, is_some, length, nat_lt}
use Rattle.std.specs.List.{All}
use Rattle.ws_frame.specs.Devices.{Device, HasWritten, IsUntouched}
use Rattle.ws_frame.specs.declared.source.DataStyle.{DataStyle}
use Rattle.ws_reports.specs.Reports.{ReportValue, start_text}
use Rattle.ws_scripts.specs.Scripts.{CanBeRun}
use Rattle.ws_scripts.specs.declared.script.Case.{Case}
use Rattle.wst_words.specs.declared.test.TestOptions.{TestOptions}
use Rattle.wst_commands.specs.Faults.{Ends}
use Rattle.wst_commands.specs.GivenCases.{AreCasesFor, LackCases, is_glob, names_of, or_all}
use Rattle.wst_commands.specs.declared.exit.Exit.{Exit}
use Rattle.wst_commands.specs.declared.fault.Fault.{Fault}
use Rattle.wst_commands.specs.declared.given_cases.NoCases.TheVariants.{NoMemory, NoSuchCase}
use Rattle.wst_run.specs.ClientRuns.{TestsClientsAt}
use Rattle.wst_testing.specs.KnownInput.{IsKnownBy, StopsKnowing, TellsKnownStop}
use Rattle.wst_testing.specs.Reporting.{ClosesReport, StopsAtStart}
use Rattle.wst_testing.specs.RunPlans.{CanNotRun, GivesAtOnce, GivesMaxFail, HasTestsAtOnce, HasMaxFail, IsRunPlan}
use Rattle.wst_testing.specs.RunPlans.{TellsRefusal, asks_in_turn, tested_role}
use Rattle.wst_testing.specs.declared.run_plans.UsualTimes.TheVariants.{OfCases}
use Rattle.wst_testing.specs.Servers.{MeetsAtTarget, MeetsInMemory}
use Rattle.wst_testing.specs.Testing.{RunsCapture, RunsCases}
use Rattle.wst_testing.specs.declared.known_input.KnownStop.{KnownStop}
use Rattle.wst_sockets.specs.declared.meeting.Meeting.{Meeting}
use Rattle.wst_testing.specs.declared.run_plans.Refusal.{Refusal}
use Rattle.wst_testing.specs.declared.run_plans.Refusal.TheVariants as refusal
use Rattle.wst_testing.specs.declared.run_plans.RunPlan.{RunPlan}
use Rattle.wst_testing.specs.declared.run_plans.TestedEnd.{TestedEnd}
use Rattle.wst_testing.specs.declared.run_plans.TestedEnd.TheVariants.{Clients, Memory, Server}
use Rattle.wst_run.specs.declared.test.TestPlan.{TestPlan}
use Rattle.wst_testing.specs.declared.testing.RunRules.{RunRules}

-- ---- what the words ask for

-- the words are one, which is no glob
abbrev pub is_one_case : List (List ℕ) → Bool
is_one_case [] = false
is_one_case (word ∷ []) = not (is_glob word)
is_one_case (word ∷ next ∷ words) = false

-- a capture is of one case, by its whole name
abbrev pub CanCapture : TestOptions → Type 0
CanCapture options = options.capture ≡ true → is_one_case (names_of options.ids.items) ≡ true

-- lines are to be told beside an earlier run, or a document is to be written
abbrev pub reports : TestOptions → Bool
reports options = options.known || options.junit

-- a capture, which stands in the place of both, is asked for too
abbrev pub captures_in_report : TestOptions → Bool
captures_in_report options = options.capture && reports options

-- no report is asked for beside a capture
abbrev pub CanReport : TestOptions → Type 0
CanReport options = captures_in_report options ≡ false

-- the words for cases that are given, a star where there are none
abbrev pub words_given : TestOptions → List (List ℕ)
words_given options = or_all (names_of options.ids.items)

-- the words say how many cases run at a time, and ask for a capture, or for an end that is tested in one after the
-- other
abbrev pub asks_one_by_one : TestOptions → Bool
asks_one_by_one options = (is_some options.at_once && options.capture)
    || asks_in_turn options.at_once options.run.role options.run.target.now

-- in which style it is told why, where that is asked for: a document tells it too
abbrev pub explained_with : TestOptions → Option DataStyle
explained_with options = if options.explain || options.junit then Some options.style else None

-- the words ask for this
pub record IsPlan (options : TestOptions) (plan : TestPlan) : Type 0 where
  pub can_report : CanReport options
  pub at_a_time : asks_one_by_one options ≡ false
  pub run : IsRunPlan OfCases options.run plan.run
  pub target : plan.target.now ≡ options.run.target.now
  pub capture : plan.capture ≡ options.capture
  pub explain : plan.explain ≡ explained_with options
  pub progress : plan.progress ≡ options.progress
  pub can_capture : CanCapture options
  pub max_fail : GivesMaxFail options.max_fail plan.max_fail
  pub at_once : GivesAtOnce options.at_once plan.at_once
  pub cases : AreCasesFor (words_given options) plan.cases.items

-- the cases can be run, and a capture is of one, which runs alone
abbrev pub CanBeTested : TestPlan → Type 0
CanBeTested plan = All CanBeRun plan.cases.items × (plan.capture ≡ true → length plan.cases.items ≡ 1)
    × (plan.capture ≡ true → plan.at_once ≡ 1)

-- ---- what they can't ask for

-- a report can be made where one is asked for, and so many cases may run at a time
abbrev pub CanBegin : TestOptions → Type 0
CanBegin options = CanReport options × (asks_one_by_one options ≡ false)

-- and nothing is wrong with the words that are shared
abbrev pub CanRun : TestOptions → Type 0
CanRun options = CanBegin options × ((run : RunPlan) × IsRunPlan OfCases options.run run)

-- what was named can be run, a capture is of one case, and each word stands for some
abbrev pub HasCases : TestOptions → Type 0
HasCases options = CanRun options × CanCapture options
    × ((cases : List Case) × AreCasesFor (words_given options) cases)

-- The first of these that applies: a capture is asked for beside a report; cases can run only one after the other, and
-- it is given how many run at a time; the shared words can't be run; a capture is not of one case; a word stands for no
-- case; the number of failures is none, or that of cases at a time. Memory may run out at any of them but the first
-- two.
abbrev pub RefusesTest : TestOptions → Refusal → Type 0
RefusesTest options refusal.CaptureInReport = captures_in_report options ≡ true
RefusesTest options refusal.NotOneCase = CanRun options × ¬ (CanCapture options)
RefusesTest options (refusal.NoCases (NoSuchCase id)) =
    CanRun options × CanCapture options × LackCases (words_given options) (NoSuchCase id)
RefusesTest options (refusal.NoCases NoMemory) = ⊤
RefusesTest options refusal.BadMaxFail = HasCases options × ¬ (HasMaxFail options.max_fail)
RefusesTest options refusal.BadAtOnce = HasCases options × HasMaxFail options.max_fail
    × ¬ (HasTestsAtOnce options.at_once)
RefusesTest options refusal.AtOnceInTurn = CanReport options × (asks_one_by_one options ≡ true)
RefusesTest options other = CanBegin options × CanNotRun options.run other

-- ---- a run

-- the name of each case is told by its run: where several run at a time, it is told beside that
abbrev pub tells_names : Bool → ℕ → Bool
tells_names progress at_once = progress && nat_lt at_once 2

-- how its cases are run
abbrev pub rules_of : TestPlan → RunRules
rules_of plan = record {
  tested = tested_role plan.run.tested;
  expected = plan.run.expected;
  key = plan.run.key;
  explains = plan.explain;
  progress = tells_names plan.progress plan.at_once;
  is_limited = plan.run.gives_limit;
  max_fail = plan.max_fail;
}

-- What the report has before all cases was written, the cases were run, and where that ended early, what it has behind
-- them was written too, if the output works.
pub record ReportsCases (Meets : Case → Meeting → Type 0) (plan : TestPlan) (report : ReportValue)
    (ended : Result Exit Fault) (output faults : Device) : Type 0 where
  pub begun : Option (List ℕ)
  pub started : HasWritten (start_text report plan.target.now) (record output { new = begun })
  pub failed : Bool
  pub behind : Option (List ℕ)
  pub runs : RunsCases Meets (rules_of plan) report plan.cases.items plan.run.tested ended
      (record { failed = failed; old = begun; new = behind }) faults
  pub closes : ClosesReport report ended failed (record output { old = behind })

-- the cases of a plan were run and told as the report asks, or none was
abbrev pub ReportsPlan : (Case → Meeting → Type 0) → TestPlan → ReportValue → Result Exit Fault → Device → Device
    → Type 0
ReportsPlan Meets plan report ended output faults = ReportsCases Meets plan report ended output faults
    ⊎ (StopsAtStart plan.target.now report ended output × IsUntouched faults)

-- the capture of the one case is written, or the outcomes of the cases, over ends that meet cases so
abbrev pub CarriesOut : (Case → Meeting → Type 0) → TestPlan → ReportValue → Result Exit Fault → Device → Device
    → Type 0
CarriesOut Meets plan report ended output faults =
    ((case : Case) × (plan.capture ≡ true) × (plan.cases.items ≡ case ∷ [])
    × RunsCapture Meets (rules_of plan) case ended output faults)
    ⊎ ((plan.capture ≡ false) × ReportsPlan Meets plan report ended output faults)

-- the plan is carried out over ends that meet cases so, and how that ended is told behind what was told before
abbrev pub RunsPlan : (Case → Meeting → Type 0) → TestPlan → ReportValue → Exit → Device → Device → Type 0
RunsPlan Meets plan report exit output faults = (ended : Result Exit Fault) × (held : Option (List ℕ))
    × CarriesOut Meets plan report ended output (record faults { new = held })
    × Ends ended exit (record faults { old = held })

-- the plan is carried out over this end
abbrev pub RunsPlanOver : TestedEnd → TestPlan → ReportValue → Exit → Device → Device → Type 0
RunsPlanOver (Memory end) plan report exit output faults =
    RunsPlan (MeetsInMemory end plan.run.key) plan report exit output faults
RunsPlanOver (Server target) plan report exit output faults =
    RunsPlan (MeetsAtTarget target plan.run) plan report exit output faults
RunsPlanOver (Clients address) plan report exit output faults =
    TestsClientsAt address.now plan report exit output faults

-- ---- the earlier run

-- the report is a document where one is asked for, and so has a summary, beside the earlier run whose lines came in,
-- where one is to be known
abbrev pub IsReportFor : TestOptions → ReportValue → Device → Type 0
IsReportFor options report input = (report.is_junit ≡ options.junit) × (report.has_summary ≡ options.summary)
    × IsKnownBy options.known report.known input

-- the plan is carried out, and told beside the earlier run; or that can't be known, which is told, and nothing is run
abbrev pub RunsPlanAsked : TestOptions → TestPlan → Exit → Device → Device → Device → Type 0
RunsPlanAsked options plan exit input output faults =
    ((report : ReportValue) × IsReportFor options report input
    × RunsPlanOver plan.run.tested plan report exit output faults)
    ⊎ ((why : KnownStop) × StopsKnowing options.known why input × IsUntouched output × TellsKnownStop why exit faults)

-- A run of `test`: what the words ask for is run, over the end that they name, and how that ended is told; or nothing
-- is run, and it is told why.
abbrev pub RunsTest : TestOptions → Exit → Device → Device → Device → Type 0
RunsTest options exit input output faults =
    ((plan : TestPlan) × IsPlan options plan × RunsPlanAsked options plan exit input output faults)
    ⊎ ((reason : Refusal) × RefusesTest options reason × IsUntouched input × IsUntouched output
    × TellsRefusal reason exit faults)
