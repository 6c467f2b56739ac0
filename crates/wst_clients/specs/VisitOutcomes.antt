-- What is told of the turns of clients under test, and how the cases stand after them.
use Rattle.std.specs.Prelude.{◌≡◌, ℕ, ◌+◌, ◌<◌, ◌^◌, Bool, true, false, ⊤, List, [], ◌∷◌, ◌++◌, Option}
use Rattle.std.specs.Prelude.{Some, None, length, flat_map}
use Rattle.std.specs.List.{All}
use Rattle.ws_wire.specs.declared.role.Role.TheVariants.{Client}
use Rattle.ws_paths.specs.Paths.{AsksWithin}
use Rattle.ws_paths.specs.Standings.{StandingValue, after_connection, ends_run}
use Rattle.ws_paths.specs.declared.behavior.Behavior.{Behavior}
use Rattle.ws_paths.specs.declared.behavior.Behavior.TheVariants as behavior
use Rattle.ws_scripts.specs.declared.script.Case.{Case}
use Rattle.ws_scripts.specs.declared.transcript.Transcript.{Transcript}
use Rattle.ws_suite.specs.declared.verdict.Verdict.{Verdict}
use Rattle.ws_suite.specs.declared.verdict.Verdict.TheVariants.{Fail, Loose, Pass}
use Rattle.wst_commands.specs.Explaining.{IsJudgementOf}
use Rattle.wst_commands.specs.declared.explaining.Judgement.{Judgement}
use Rattle.wst_clients.specs.Visits.{Met, Passing, case_for, case_notes, notes_of_passing}
use Rattle.wst_testing.specs.declared.outcome.Outcome.{Outcome}
use Rattle.wst_testing.specs.declared.outcome.Outcome.TheVariants.{HeadRefused, Judged, NoConnection, NotRun}
use Rattle.wst_testing.specs.declared.outcome.Score.{Score}
use Rattle.ws_frame.specs.declared.source.DataStyle.{DataStyle}
use Rattle.ws_scripts.specs.declared.expectation.Expectation.{Expectation}
use Rattle.wst_clients.specs.declared.visiting.Visit.{Visit}
use Rattle.wst_clients.specs.declared.visiting.Visit.TheVariants as visit
use Rattle.wst_clients.specs.declared.visiting.VisitRules.{VisitRules}
use Rattle.wst_clients.specs.declared.visit_outcome.VisitOutcome.{VisitOutcome}
use Rattle.wst_clients.specs.declared.visit_outcome.VisitOutcome.TheVariants.{Over, Ran}

-- ---- what is told of a connection

-- the verdict on the client by the transcript of its case, with why it is told where that is asked for
abbrev pub IsClientOutcome : Option DataStyle → Expectation → Transcript → Outcome → Type 0
IsClientOutcome explains expected transcript outcome =
    (told : Judgement) × (outcome ≡ Judged told) × IsJudgementOf explains Client expected transcript told

-- this is told of what a turn came to
abbrev pub IsVisitOutcome : Option DataStyle → Expectation → Visit → VisitOutcome → Type 0
IsVisitOutcome explains expected visit.Over Over = ⊤
IsVisitOutcome explains expected (visit.Ran purpose transcript) (Ran other outcome) =
    (other ≡ purpose) × IsClientOutcome explains expected transcript outcome
IsVisitOutcome explains expected _ _ = ⊥

-- the case that is run is one of those that are given
abbrev pub AsksInside : VisitRules → VisitOutcome → Type 0
AsksInside rules Over = ⊤
AsksInside rules (Ran purpose outcome) = AsksWithin (length rules.cases.now) purpose

-- this may be told of a turn, where the cases stand so
pub record ComesTo (c : Met) (rules : VisitRules) (standing : StandingValue) (outcome : VisitOutcome) : Type 0 where
  pub visit : Visit
  pub visited : c.visits rules standing visit
  pub told : IsVisitOutcome rules.explains rules.expected visit outcome
  pub inside : AsksInside rules outcome

-- One turn: who passed by before it, what is told of it, and who passed by in it.
pub record TakenTurn : Type 0 where
  pub before : List Passing
  pub outcome : VisitOutcome
  pub during : List Passing

-- it may be taken so, where the cases stand so
pub record MayBeTaken (c : Met) (rules : VisitRules) (standing : StandingValue) (turn : TakenTurn) : Type 0 where
  pub before : All (c.passes rules standing) turn.before
  pub comes : ComesTo c rules standing turn.outcome
  pub during : All (c.passes rules standing) turn.during

-- ---- its line and its notes

-- a case with what is told of a client in it, where there is a case
abbrev pub test_of : Option Case → Outcome → List (Case × Outcome)
test_of None outcome = []
test_of (Some case) outcome = (case, outcome) ∷ []

-- the case that was run, if one was, with what is told of the client in it
abbrev pub tests_in : VisitRules → VisitOutcome → List (Case × Outcome)
tests_in rules Over = []
tests_in rules (Ran purpose outcome) = test_of (case_for rules.cases.now purpose) outcome

-- what is told on the fault output as a turn begins, and of all of it
abbrev pub outcome_notes : VisitRules → VisitOutcome → List (List ℕ)
outcome_notes rules Over = []
outcome_notes rules (Ran purpose outcome) = case_notes rules.progress (case_for rules.cases.now purpose)

abbrev pub turn_notes : VisitRules → TakenTurn → List (List ℕ)
turn_notes rules turn = notes_of_passing turn.before ++ outcome_notes rules turn.outcome
    ++ notes_of_passing turn.during

-- ---- how the cases stand

abbrev pub behavior_by : Verdict → Behavior
behavior_by Pass = behavior.Ok
behavior_by (Loose why) = behavior.NonStrict
behavior_by (Fail why) = behavior.Failed

-- what came of a case in which this is told of a client
abbrev pub behavior_for : Outcome → Behavior
behavior_for (Judged told) = behavior_by told.verdict
behavior_for (HeadRefused refusal) = behavior.Failed
behavior_for (NoConnection why) = behavior.Failed
behavior_for NotRun = behavior.Unimplemented

-- after a turn
abbrev pub after_outcome : StandingValue → VisitOutcome → StandingValue
after_outcome standing Over = standing
after_outcome standing (Ran purpose outcome) = after_connection standing purpose (behavior_for outcome)

-- a run of so many cases ends with it
abbrev pub ends_with_outcome : ℕ → VisitOutcome → Bool
ends_with_outcome count Over = true
ends_with_outcome count (Ran purpose outcome) = ends_run count purpose

-- ---- turns one after the other

-- From the one standing of the cases such turns lead to the other, each of which may be taken so where the cases stand
-- as those before it have left them, and none of them ends the run.
abbrev pub AreVisits : Met → VisitRules → StandingValue → List TakenTurn → StandingValue → Type 0
AreVisits c rules start [] end = start ≡ end
AreVisits c rules start (turn ∷ turns) end = MayBeTaken c rules start turn
    × (ends_with_outcome (length rules.cases.now) turn.outcome ≡ false)
    × AreVisits c rules (after_outcome start turn.outcome) turns end

-- the cases that were run, and what is told of the clients in them
abbrev pub tests_of : VisitRules → List TakenTurn → List (Case × Outcome)
tests_of rules turns = flat_map (λ turn. tests_in rules turn.outcome) turns

-- what is told of all on the fault output
abbrev pub notes_of_visits : VisitRules → List TakenTurn → List (List ℕ)
notes_of_visits rules turns = flat_map (turn_notes rules) turns

-- a case that no client has asked for: one of which nothing came
abbrev pub not_run_if : Case → Behavior → List (Case × Outcome)
not_run_if case behavior.Unimplemented = (case, NotRun) ∷ []
not_run_if case behavior.Ok = []
not_run_if case behavior.NonStrict = []
not_run_if case behavior.Failed = []

-- those of the cases of which this came
abbrev pub not_run : List Case → List Behavior → List (Case × Outcome)
not_run [] behaviors = []
not_run (case ∷ cases) [] = []
not_run (case ∷ cases) (behavior ∷ behaviors) = not_run_if case behavior ++ not_run cases behaviors

-- ---- inside the crate: a step of a count, for the contracts of private functions

abbrev pub HasRoomToCount : Score → Type 0
HasRoomToCount score = (score.tally.pass + 1 < 2 ^ 64) × (score.tally.loose + 1 < 2 ^ 64)
    × (score.tally.fail + 1 < 2 ^ 64) × (score.failures + 1 < 2 ^ 64)
