-- A run of `report`: the lines of runs are read whole, and a page, an index, a summary or a JUnit document of them is
-- written.
use Rattle.std.specs.Prelude.{◌≡◌, ◌⊎◌, ℕ, Bool, true, false, List, [], ◌∷◌, Option, Some, None, Result, Ok}
use Rattle.std.specs.Prelude.{Err, String, map, string_bytes, if◌then◌else◌}
use Rattle.std.specs.Borrow.{Bor}
use Rattle.std.specs.declared.alloc.Global.{Global}
use Rattle.ws_base.specs.declared.text_fault.TextFault.{TextFault}
use Rattle.ws_base.specs.declared.text_fault.TextFault.TheVariants as text
use Rattle.ws_formats.specs.Lines.{Damages}
use Rattle.ws_frame.specs.Devices.{Device, IsUntouched}
use Rattle.ws_scripts.specs.CaseNames.{listed_names}
use Rattle.ws_junit.specs.Documents.{junit_document}
use Rattle.ws_runs.specs.Json.{index_json}
use Rattle.ws_runs.specs.NameLines.{is_name_line}
use Rattle.ws_runs.specs.RunLines.{AreRunLines, RunLine}
use Rattle.ws_runs.specs.Runs.{RunsValue, runs_of}
use Rattle.ws_runs.specs.Summary.{runs_summary}
use Rattle.wst_commands.specs.Devices.{Delivers}
use Rattle.wst_commands.specs.PageTexts.{IsPageWithTexts}
use Rattle.wst_commands.specs.ReadingWhole.{AnswersInput}
use Rattle.wst_commands.specs.RunDamages.{run_damage}
use Rattle.wst_commands.specs.declared.exit.Exit.{Exit}
use Rattle.wst_commands.specs.declared.exit.Exit.TheVariants.{Damaged, Done, Failed, WrongWords}
use Rattle.wst_commands.specs.declared.fault.Fault.{Fault}
use Rattle.wst_commands.specs.declared.fault.Fault.TheVariants as fault
use Rattle.wst_commands.specs.declared.report.ReportKind.{ReportKind}
use Rattle.wst_commands.specs.declared.report.ReportKind.TheVariants.{Index, Junit, Page, Summary}
use Rattle.wst_words.specs.declared.report.ReportOptions.{ReportOptions}

-- ---- a report

-- what the options ask for: an index, a summary, a JUnit document, or else a page; not two of them
abbrev pub kind_by : Bool → Bool → Bool → Result ReportKind Fault
kind_by false false false = Ok Page
kind_by true false false = Ok Index
kind_by false true false = Ok Summary
kind_by false false true = Ok Junit
kind_by true true junit = Err fault.SummaryWithJson
kind_by true false true = Err fault.JunitWithJson
kind_by false true true = Err fault.JunitWithSummary

abbrev pub report_kind : ReportOptions → Result ReportKind Fault
report_kind options = kind_by options.json options.summary options.junit

-- what stands in the head of a page; empty if nothing is given
abbrev pub given_date : Option (Bor (List ℕ)) → List ℕ
given_date None = []
given_date (Some date) = date.now

abbrev pub date_of : ReportOptions → List ℕ
date_of options = given_date options.date

-- the JUnit document of these runs, with the list of cases
abbrev pub IsListedDocument : RunsValue → List ℕ → Type 0
IsListedDocument runs document = (listed : List (String Global)) × (map string_bytes listed ≡ listed_names)
    × (document ≡ junit_document listed runs)

-- the report of this kind on these runs
abbrev pub IsRunReport : ReportKind → List ℕ → RunsValue → List ℕ → Type 0
IsRunReport Page date runs report = IsPageWithTexts date runs report
IsRunReport Index date runs report = report ≡ index_json runs
IsRunReport Summary date runs report = report ≡ runs_summary listed_names runs
IsRunReport Junit date runs report = IsListedDocument runs report

-- how a run ends that has written its report: where that is of no case, a hint says so
abbrev pub ended_without_case : Exit → Result Exit Fault
ended_without_case Done = Err fault.NoCaseLine
ended_without_case Damaged = Ok Damaged
ended_without_case WrongWords = Ok WrongWords
ended_without_case Failed = Ok Failed

abbrev pub ended_report : List (List ℕ) → Exit → Result Exit Fault
ended_report [] exit = ended_without_case exit
ended_report (id ∷ ids) exit = Ok exit

-- it was written; or memory ran out, and nothing was written
abbrev pub ReportsRuns : ReportKind → List ℕ → RunsValue → Result Exit Fault → Device → Type 0
ReportsRuns kind date runs ended output =
    ((report : List ℕ) × (exit : Exit) × IsRunReport kind date runs report × Delivers Done report exit output
    × (ended ≡ ended_report runs.ids exit))
    ⊎ ((ended ≡ Err fault.NoMemory) × IsUntouched output)

-- what is printed for a text that isn't the lines of runs: its first line that is none has a name that isn't UTF-8, or
-- it tells no verdict
abbrev pub run_fault : List ℕ → TextFault → Fault
run_fault bytes (text.Damaged line) =
    if is_name_line line bytes then fault.NotAName line else fault.NotAResult line (run_damage bytes line)
run_fault bytes text.NoMemory = fault.NoMemory

-- what is done with a text: if it is the lines of runs, a report on them is written; else nothing is written, and the
-- first line that isn't one is reported
abbrev pub ReportsText : ReportKind → List ℕ → List ℕ → Result Exit Fault → Device → Type 0
ReportsText kind date bytes ended output =
    ((lines : List RunLine) × AreRunLines lines bytes × ReportsRuns kind date (runs_of lines) ended output)
    ⊎ ((damage : TextFault) × Damages AreRunLines damage bytes × (ended ≡ Err (run_fault bytes damage))
    × IsUntouched output)

-- the input is read whole, and a report of this kind is written; or nothing is read or written, and what is wrong with
-- the options is reported
abbrev pub CarriesOutReport : Result ReportKind Fault → List ℕ → Result Exit Fault → Device → Device → Type 0
CarriesOutReport (Ok kind) date ended input output = AnswersInput (ReportsText kind date) ended input output
CarriesOutReport (Err fault) date ended input output =
    (ended ≡ Err fault) × IsUntouched input × IsUntouched output

-- a run of `report`
abbrev pub RunsReport : ReportOptions → Result Exit Fault → Device → Device → Type 0
RunsReport options ended input output =
    CarriesOutReport (report_kind options) (date_of options) ended input output
