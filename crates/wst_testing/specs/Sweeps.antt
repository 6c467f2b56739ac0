-- Every short script run over new ends: what is told of them, a line for each with something to tell, and the total.
use Rattle.std.specs.Prelude.{◌≡◌, ◌⊎◌, ◌≤◌, ⊤, ℕ, ◌+◌, Bool, true, false, if◌then◌else◌, List, [], ◌∷◌, ◌++◌}
use Rattle.std.specs.Prelude.{length, map, Option, Some, None, Result, Ok, Err, MatchResult, codes, flat_map}
use Rattle.std.specs.Fmt.{decimal}
use Rattle.std.specs.List.{concat}
use Rattle.ws_session.specs.Replies.{key_for}
use Rattle.ws_suite.specs.Evidence.{other_role}
use Rattle.ws_frame.specs.Devices.{Device, HasBegun, HasWritten, IsUntouched}
use Rattle.ws_scripts.specs.declared.script.Case.{Case}
use Rattle.ws_suite.specs.declared.verdict.Verdict.{Verdict}
use Rattle.ws_suite.specs.declared.verdict.Verdict.TheVariants as verdict
use Rattle.ws_sweep.specs.Order.{ArePlaces, ScriptsLeft, count_of_scripts, max_steps, script_number}
use Rattle.ws_sweep.specs.ShortCases.{CaseRules, IsShortCase}
use Rattle.ws_sweep.specs.Telling.{steps_text}
use Rattle.wst_commands.specs.Faults.{LacksMemory}
use Rattle.wst_commands.specs.declared.exit.Exit.{Exit}
use Rattle.wst_commands.specs.declared.exit.Exit.TheVariants.{Failed}
use Rattle.wst_testing.specs.Failures.{is_enough}
use Rattle.wst_testing.specs.Notes.{TellsEach}
use Rattle.wst_testing.specs.Outcomes.{exit_of_tests, outcome_words, tally_of, total_line}
use Rattle.wst_testing.specs.Testing.{IsOutcomeOf, IsTested}
use Rattle.wst_testing.specs.Tried.{missed_notes}
use Rattle.wst_sockets.specs.declared.meeting.ConnectFault.{ConnectFault}
use Rattle.wst_sockets.specs.declared.meeting.Meeting.{Meeting}
use Rattle.wst_testing.specs.declared.outcome.Outcome.{Outcome}
use Rattle.wst_testing.specs.declared.outcome.Outcome.TheVariants.{HeadRefused, Judged, NoConnection, NotRun}
use Rattle.wst_testing.specs.declared.outcome.Tally.{Tally}
use Rattle.wst_testing.specs.declared.run_plans.TestedEnd.{TestedEnd}
use Rattle.wst_testing.specs.declared.runner.RunStop.{RunStop}
use Rattle.wst_testing.specs.declared.runner.RunStop.TheVariants as stop
use Rattle.wst_testing.specs.declared.sweeping.SweepRules.{SweepRules}

-- ---- one script

-- a script by the places of its steps, its case, and what is told of an end in it
pub record SweptScript : Type 0 where
  pub places : List ℕ
  pub case : Case
  pub outcome : Outcome

-- a Fail is told, and a Loose where all is told
abbrev pub is_told_verdict : Bool → Verdict → Bool
is_told_verdict all verdict.Pass = false
is_told_verdict all (verdict.Loose why) = all
is_told_verdict all (verdict.Fail why) = true

abbrev pub is_told : Bool → Outcome → Bool
is_told all (Judged told) = is_told_verdict all told.verdict
is_told all (HeadRefused fault) = true
is_told all (NoConnection why) = true
is_told all NotRun = true

-- all steps of its case, also what stands behind its own, as they are told
abbrev pub whole_text : SweepRules → List ℕ → Case → List ℕ
whole_text rules places case = steps_text rules.run.tested rules.run.expected places case.steps

-- its line: what is told of the tested end, and these steps
abbrev pub told_line : SweepRules → SweptScript → List ℕ
told_line rules script = concat (outcome_words script.outcome ∷ codes ": "
    ∷ whole_text rules script.places script.case ∷ codes "\n" ∷ [])

abbrev pub script_line : SweepRules → SweptScript → List ℕ
script_line rules script = if is_told rules.all script.outcome then told_line rules script else []

-- what is told on the fault output before it runs: these steps
abbrev pub script_notes : Bool → List ℕ → List (List ℕ)
script_notes false text = []
script_notes true text = (text ++ codes "\n") ∷ []

-- why there is no connection to the tested end, where there is none
abbrev pub missed_by : Outcome → Option ConnectFault
missed_by (Judged told) = None
missed_by (HeadRefused fault) = None
missed_by (NoConnection why) = Some why
missed_by NotRun = None

-- this is told of one of the ends that meet cases so, in the script's case
abbrev pub IsSwept : (Case → Meeting → Type 0) → SweepRules → SweptScript → Type 0
IsSwept Meets rules script =
    IsShortCase rules.run.tested rules.run.expected (key_for (other_role rules.run.tested) rules.run.key) script.places
    script.case
    × IsTested Meets rules.run script.case script.outcome

-- ---- scripts

-- these are scripts one after the other in their order, from the one of this number on, each with what is told of an
-- end of its own, to which there was a connection
abbrev pub AreSwept : (Case → Meeting → Type 0) → SweepRules → ℕ → List SweptScript → Type 0
AreSwept Meets rules number [] = ⊤
AreSwept Meets rules number (script ∷ scripts) = ArePlaces script.places × (script_number script.places ≡ number)
    × (missed_by script.outcome ≡ None) × IsSwept Meets rules script × AreSwept Meets rules (number + 1) scripts

abbrev pub outcomes_of : List SweptScript → List Outcome
outcomes_of scripts = map (λ script. script.outcome) scripts

abbrev pub sweep_lines : SweepRules → List SweptScript → List ℕ
sweep_lines rules scripts = flat_map (script_line rules) scripts

-- the line of the total
abbrev pub sweep_total : ℕ → Tally → List ℕ
sweep_total count tally = decimal count ++ (codes " scripts: " ++ total_line tally)

-- the total of these
abbrev pub total_of_scripts : List SweptScript → List ℕ
total_of_scripts scripts = sweep_total (length scripts) (tally_of (outcomes_of scripts))

-- ---- a run

-- there are enough Fails among these to end the run
abbrev pub is_enough_in : SweepRules → List SweptScript → Bool
is_enough_in rules scripts = is_enough rules.run.max_fail (tally_of (outcomes_of scripts)).fail

-- all scripts of at most so many steps, never with enough Fails; or with the last of these, and not before, there are
-- enough
abbrev pub EndsSweep : SweepRules → List SweptScript → Type 0
EndsSweep rules scripts =
    ((length scripts ≡ count_of_scripts rules.steps) × (is_enough_in rules scripts ≡ false))
    ⊎ ((before : List SweptScript) × (last : SweptScript) × (scripts ≡ before ++ last ∷ [])
    × (is_enough_in rules before ≡ false) × (is_enough_in rules scripts ≡ true))

-- All scripts of at most so many steps were run, or those up to enough Fails; their lines and the total were written,
-- and the exit tells whether one is a Fail.
pub record SweepsAll (Meets : Case → Meeting → Type 0) (rules : SweepRules) (exit : Exit) (output : Device)
    : Type 0 where
  pub scripts : List SweptScript
  pub in_order : AreSwept Meets rules 0 scripts
  pub all : EndsSweep rules scripts
  pub written : HasWritten (sweep_lines rules scripts ++ total_of_scripts scripts) output
  pub works : output.failed ≡ false
  pub is_exit : exit ≡ exit_of_tests (tally_of (outcomes_of scripts))

-- the next script could be this one, and this is told of an end in it; and there aren't enough Fails before it
abbrev pub IsNextSwept : (Case → Meeting → Type 0) → SweepRules → List SweptScript → SweptScript → Type 0
IsNextSwept Meets rules scripts next =
    ArePlaces next.places × (script_number next.places ≡ length scripts) × IsSwept Meets rules next
    × (is_enough_in rules scripts ≡ false)

-- this is to be written next: the line of the next script, or the total where all were run, or enough
abbrev pub IsNextText : (Case → Meeting → Type 0) → SweepRules → List SweptScript → List ℕ → Type 0
IsNextText Meets rules scripts text =
    ((next : SweptScript) × IsNextSwept Meets rules scripts next × (text ≡ script_line rules next))
    ⊎ (EndsSweep rules scripts × (text ≡ total_of_scripts scripts))

-- why a run stopped behind these scripts
abbrev pub StopsBehind : (Case → Meeting → Type 0) → SweepRules → List SweptScript → RunStop → Device → Type 0
StopsBehind Meets rules scripts stop.Enough output = ⊥
StopsBehind Meets rules scripts stop.Output output = (text : List ℕ) × IsNextText Meets rules scripts text
    × (output.failed ≡ true) × HasBegun (sweep_lines rules scripts ++ text) output
StopsBehind Meets rules scripts (stop.NoConnection why) output =
    ((next : SweptScript) × IsNextSwept Meets rules scripts next × (next.outcome ≡ NoConnection why))
    × HasWritten (sweep_lines rules scripts) output
StopsBehind Meets rules scripts stop.NoMemory output = HasWritten (sweep_lines rules scripts) output

-- The first scripts were run, and their lines were written; the next line, or the total, could not be written, or to
-- the next end there is no connection, or memory ran out.
pub record StopsSweep (Meets : Case → Meeting → Type 0) (rules : SweepRules) (why : RunStop) (output : Device)
    : Type 0 where
  pub scripts : List SweptScript
  pub in_order : AreSwept Meets rules 0 scripts
  pub stops : StopsBehind Meets rules scripts why output

-- how a run of every short script ended, over ends that meet cases so
abbrev pub SweepsScripts : (Case → Meeting → Type 0) → SweepRules → Result Exit RunStop → Device → Type 0
SweepsScripts Meets rules ended output =
    MatchResult ended (λ exit. SweepsAll Meets rules exit output) (λ why. StopsSweep Meets rules why output)

-- ---- what is told on the fault output, and the exit

abbrev pub TellsSweepEnd : TestedEnd → Result Exit RunStop → Exit → Device → Type 0
TellsSweepEnd end (Ok ended) exit faults = (exit ≡ ended) × IsUntouched faults
TellsSweepEnd end (Err stop.Enough) exit faults = (exit ≡ Failed) × IsUntouched faults
TellsSweepEnd end (Err stop.Output) exit faults = (exit ≡ Failed) × IsUntouched faults
TellsSweepEnd end (Err (stop.NoConnection why)) exit faults = (exit ≡ Failed) × TellsEach (missed_notes end why) faults
TellsSweepEnd end (Err stop.NoMemory) exit faults = LacksMemory exit faults

-- ---- parts of a run: a reader may skip what follows

-- the cases are made for the tested ends of these rules, what is expected of them, and the key of their tester
abbrev pub MakesCasesOf : SweepRules → CaseRules → Type 0
MakesCasesOf rules cases =
    (cases.tested ≡ rules.run.tested) × (cases.expected ≡ rules.run.expected)
    × (cases.key ≡ key_for (other_role rules.run.tested) rules.run.key)

-- ---- the scripts that are given

-- a script by the places of its steps, and its case
pub record ShortRunValue : Type 0 where
  pub places : List ℕ
  pub case : Case

-- what is known of those that give them: their rules, which scripts are left, and the one that was given last
pub record ShortRunsValue : Type 0 where
  pub rules : SweepRules
  pub scripts : ScriptsLeft
  pub last : Option ShortRunValue

-- it is the script of this number, in its case
abbrev pub IsShortRun : SweepRules → ℕ → ShortRunValue → Type 0
IsShortRun rules number run = ArePlaces run.places × (script_number run.places ≡ number)
    × IsShortCase rules.run.tested rules.run.expected (key_for (other_role rules.run.tested) rules.run.key) run.places
    run.case

-- these are the scripts one after the other in their order, from the one of this number on
abbrev pub AreShortRuns : SweepRules → ℕ → List ShortRunValue → Type 0
AreShortRuns rules number [] = ⊤
AreShortRuns rules number (run ∷ runs) = IsShortRun rules number run × AreShortRuns rules (number + 1) runs

-- all scripts of at most so many steps are to be given
pub record AreAllScripts (rules : SweepRules) (runs : ShortRunsValue) : Type 0 where
  pub by_rules : runs.rules ≡ rules
  pub next : runs.scripts.next ≡ 0
  pub left : runs.scripts.left ≡ count_of_scripts rules.steps
  pub few : rules.steps ≤ max_steps

-- these were given, and the others are left
pub record GaveScripts (start now : ShortRunsValue) (runs : List ShortRunValue) : Type 0 where
  pub by_rules : now.rules ≡ start.rules
  pub in_order : AreShortRuns start.rules 0 runs
  pub next : now.scripts.next ≡ length runs
  pub place : now.scripts.next + now.scripts.left ≡ count_of_scripts start.rules.steps
  pub few : start.rules.steps ≤ max_steps

-- these are all
abbrev pub GaveAllScripts : ShortRunsValue → List ShortRunValue → Type 0
GaveAllScripts start runs = AreShortRuns start.rules 0 runs × (length runs ≡ count_of_scripts start.rules.steps)

-- ---- what came of them, and is told

-- this script, in such a case
abbrev pub swept : List ℕ → Case → Outcome → SweptScript
swept places case outcome = record { places = places; case = case; outcome = outcome }

-- these are the scripts with what is told of each by these rules, where this came of them: to each end there is a
-- connection
abbrev pub AreJudgedScripts : SweepRules → List (ShortRunValue × Meeting) → List SweptScript → Type 0
AreJudgedScripts rules [] [] = ⊤
AreJudgedScripts rules (run ∷ came) (script ∷ scripts) = ((outcome : Outcome)
    × (script ≡ swept run.0.places run.0.case outcome) × IsOutcomeOf rules.run run.1 outcome
    × (missed_by outcome ≡ None)) × AreJudgedScripts rules came scripts
AreJudgedScripts rules _ _ = ⊥

-- this came of the scripts: they were counted, and their lines written, and there aren't enough Fails
pub record HasToldScripts (rules : SweepRules) (came : List (ShortRunValue × Meeting)) (count : ℕ) (tally : Tally)
    (output : Device) : Type 0 where
  pub scripts : List SweptScript
  pub judged : AreJudgedScripts rules came scripts
  pub many : count ≡ length scripts
  pub goes_on : is_enough_in rules scripts ≡ false
  pub counted : tally ≡ tally_of (outcomes_of scripts)
  pub written : HasWritten (sweep_lines rules scripts) output
  pub works : output.failed ≡ false

-- with this one there are enough Fails, and all of them were counted so, and their lines written
abbrev pub EndsByFails : SweepRules → List SweptScript → SweptScript → ℕ → Tally → Device → Type 0
EndsByFails rules scripts next count tally output = (missed_by next.outcome ≡ None)
    × (count ≡ length (scripts ++ next ∷ [])) × (tally ≡ tally_of (outcomes_of (scripts ++ next ∷ [])))
    × (is_enough_in rules (scripts ++ next ∷ []) ≡ true)
    × HasWritten (sweep_lines rules (scripts ++ next ∷ [])) output × (output.failed ≡ false)

-- behind these scripts, the line of this one could not be written whole, or there is no connection, or there are enough
-- Fails with it
abbrev pub EndsScripts : SweepRules → List SweptScript → SweptScript → ℕ → Tally → RunStop → Device → Type 0
EndsScripts rules scripts next count tally stop.Enough output = EndsByFails rules scripts next count tally output
EndsScripts rules scripts next count tally stop.Output output =
    (output.failed ≡ true) × HasBegun (sweep_lines rules scripts ++ script_line rules next) output
EndsScripts rules scripts next count tally (stop.NoConnection why) output =
    (next.outcome ≡ NoConnection why) × HasWritten (sweep_lines rules scripts) output
EndsScripts rules scripts next count tally stop.NoMemory output = ⊥

-- the run was ended with the last of these, for this reason, and not by Fails before
pub record StopsAtScript (rules : SweepRules) (came : List (ShortRunValue × Meeting)) (count : ℕ) (tally : Tally)
    (why : RunStop) (output : Device) : Type 0 where
  pub before : List (ShortRunValue × Meeting)
  pub run : ShortRunValue
  pub meeting : Meeting
  pub last : came ≡ before ++ (run, meeting) ∷ []
  pub scripts : List SweptScript
  pub judged : AreJudgedScripts rules before scripts
  pub goes_on : is_enough_in rules scripts ≡ false
  pub outcome : Outcome
  pub is : IsOutcomeOf rules.run meeting outcome
  pub ends : EndsScripts rules scripts (swept run.places run.case outcome) count tally why output

-- what was counted, where a run came to its end, or enough was run; else why not
abbrev pub IsCounted : Result (Unit {0}) RunStop → ℕ → Tally → Result (ℕ × Tally) RunStop → Type 0
IsCounted (Ok _) count tally ended = ended ≡ Ok (count, tally)
IsCounted (Err stop.Enough) count tally ended = ended ≡ Ok (count, tally)
IsCounted (Err stop.Output) count tally ended = ended ≡ Err stop.Output
IsCounted (Err (stop.NoConnection why)) count tally ended = ended ≡ Err (stop.NoConnection why)
IsCounted (Err stop.NoMemory) count tally ended = ended ≡ Err stop.NoMemory

-- so many scripts were run and counted, all or enough, and their lines written
pub record HasSwept (Meets : Case → Meeting → Type 0) (rules : SweepRules) (count : ℕ) (tally : Tally)
    (output : Device) : Type 0 where
  pub scripts : List SweptScript
  pub in_order : AreSwept Meets rules 0 scripts
  pub many : length scripts ≡ count
  pub all : EndsSweep rules scripts
  pub counted : tally ≡ tally_of (outcomes_of scripts)
  pub written : HasWritten (sweep_lines rules scripts) output

abbrev pub CountsScripts : (Case → Meeting → Type 0) → SweepRules → Result (ℕ × Tally) RunStop → Device → Type 0
CountsScripts Meets rules ended output = MatchResult ended
    (λ counted. HasSwept Meets rules counted.0 counted.1 output × (output.failed ≡ false))
    (λ why. StopsSweep Meets rules why output)
