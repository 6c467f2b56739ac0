-- A probe of a server (RFC 6455 sections 4.1 and 5 to 7) whose lines are wanted as soon as they are certain.
use Rattle.std.specs.Prelude.{◌≡◌, ℕ, ◌*◌, ⊤, true, List, [], ◌∷◌, ◌++◌}
use Rattle.ws_machines.specs.Machines.{Extends, HasNext, IsRunning, Wants}
use Rattle.ws_machines.specs.Told.{Told}
use Rattle.ws_lines.specs.declared.transcript_lines.Showing.{Showing}
use Rattle.ws_tester.specs.Following.{WasTold}
use Rattle.ws_tester.specs.Outgoings.{HaveBytes}
use Rattle.ws_tester.specs.RunStates.{wanted_in}
use Rattle.ws_handshake.specs.Probes.{LosesAnswer, ProbeValue, RanBehind, RefusesHead, RunsBehind, WasProbed}
use Rattle.ws_handshake.specs.Probes.{is_opening, nothing_wanted, probe_left, wanted_of}
use Rattle.ws_handshake.specs.declared.probe_end.Probe.{Probe}
use Rattle.ws_handshake.specs.declared.probe_end.Probe.TheVariants as probe
use Rattle.ws_handshake.specs.declared.probe_machine.ProbeStage.TheVariants as stage
use Rattle.ws_shown.specs.MarkedLines.{AreMarkedLines}
use Rattle.ws_shown.specs.ShownTesters.{IsShownBy, TellsShown, all_reported, left_shown, reported_by, wanted_shown}
use Rattle.ws_shown.specs.ShownTesters.{without_report, without_reports}
use Rattle.ws_shown.specs.declared.shown_probe.ShownEnd.{ShownEnd}
use Rattle.ws_shown.specs.declared.shown_probe.ShownStage.{ShownStage}
use Rattle.ws_shown.specs.declared.shown_probe.ShownStage.TheVariants.{Lost, Opening, Refused, Running}

-- how its lines are shown, and how far it has come
pub record ShownValue : Type 0 where
  pub showing : Showing
  pub stage : ShownStage

-- ---- what is wanted

-- before the head is whole no lines are wanted; behind an accepted one those of the run
abbrev pub wants_at : ShownStage → Wants
wants_at (Opening probe) = wanted_of probe
wants_at (Running tester) = wanted_shown tester
wants_at (Refused refusal) = nothing_wanted
wants_at Lost = nothing_wanted

abbrev pub shown_wants : ShownValue → Wants
shown_wants x = wants_at x.stage

-- so much can still happen
abbrev pub shown_left_at : ShownStage → ℕ
shown_left_at (Opening probe) = probe_left probe * 2
shown_left_at (Running tester) = left_shown tester
shown_left_at (Refused refusal) = 0
shown_left_at Lost = 0

abbrev pub shown_left : ShownValue → ℕ
shown_left x = shown_left_at x.stage

-- the head of a probe that opens isn't whole; and a tester that runs wants something, or is done: also once its
-- lines were taken
abbrev pub RunsOnAt : ShownStage → Type 0
RunsOnAt (Opening probe) = is_opening probe.stage ≡ true
RunsOnAt (Running tester) = HasNext (wanted_in tester.tester.run)
RunsOnAt _ = ⊤

-- ---- what was told

-- From this probe it came to the stage: the probe was told just this, without that lines were taken; and the lines that
-- were taken, and those that wait behind them, are those of the run so far.
abbrev pub ReachesStage : ProbeValue → Showing → ShownStage → List Told → Type 0
ReachesStage start showing (Opening now) told = WasProbed start now told × (is_opening now.stage ≡ true)
ReachesStage start showing (Running now) told = RunsBehind start now.tester (without_reports told)
    × (IsShownBy now (all_reported told) × (now.room.showing ≡ showing))
ReachesStage start showing (Refused refusal) told = RefusesHead start refusal told
ReachesStage start showing Lost told = LosesAnswer start told

-- a probe that is to run a script of which no piece is empty, and of which the head is not whole
abbrev pub WasShownAt : ShownStage → ShownValue → ShownValue → List Told → Type 0
WasShownAt (Opening probe) start now told = HaveBytes probe.script × ((is_opening probe.stage ≡ true)
    × ((now.showing ≡ start.showing) × ReachesStage probe start.showing now.stage told))
WasShownAt _ start now told = ⊥

-- from the first state to the second one the machine was told just this
abbrev pub WasShown : ShownValue → ShownValue → List Told → Type 0
WasShown start now told = WasShownAt start.stage start now told

-- ---- one event

-- the stage of a probe: while its head isn't whole it is itself, and a tester that runs is shown from its beginning
abbrev pub IsStageOf : Showing → ProbeValue → ShownStage → Type 0
IsStageOf showing now (Opening probe) = (probe ≡ now) × (is_opening now.stage ≡ true)
IsStageOf showing now (Running tester) = (now.stage ≡ stage.Running tester.tester)
    × (IsShownBy tester [] × (tester.room.showing ≡ showing))
IsStageOf showing now (Refused refusal) = now.stage ≡ stage.Refused refusal
IsStageOf showing now Lost = now.stage ≡ stage.Lost

-- what was told of it is not that its lines were taken
abbrev pub IsNoReport : Told → Type 0
IsNoReport event = (without_report event ≡ event ∷ []) × (reported_by event ≡ [])

-- it comes to a stage by this
abbrev pub ComesOn : Showing → ShownStage → ShownStage → Told → Type 0
ComesOn showing (Opening probe) new event = IsNoReport event × ((now : ProbeValue)
    × (Extends WasProbed probe now (event ∷ []) × IsStageOf showing now new))
ComesOn showing (Running old) (Running new) event = TellsShown old new event
    × (new.room.showing ≡ old.room.showing)
ComesOn showing _ _ event = ⊥

-- it was told something since some state
abbrev pub IsRunningAt : ShownStage → Type 0
IsRunningAt (Opening probe) = IsRunning WasProbed probe
IsRunningAt (Running tester) = IsRunning WasTold tester.tester
IsRunningAt _ = ⊤

-- ---- what comes of it

-- What comes of a probe that was told just this, and the last of its lines: with those that were taken they are the
-- lines of the transcript; where no script was run, there are none.
abbrev pub EndsAs : ProbeValue → Showing → List Told → Probe → List ℕ → Type 0
EndsAs start showing told (probe.Ran transcript) last = RanBehind start transcript (without_reports told)
    × AreMarkedLines showing transcript (all_reported told ++ last)
EndsAs start showing told (probe.Refused refusal) last = RefusesHead start refusal told × (last ≡ [])
EndsAs start showing told probe.NoConnection last = LosesAnswer start told × (last ≡ [])

abbrev pub ShownGivesAt : ShownStage → Showing → List Told → ShownEnd → Type 0
ShownGivesAt (Opening start) showing told end = EndsAs start showing told end.probe end.last.items
ShownGivesAt _ showing told end = ⊥

abbrev pub ShownGives : ShownValue → List Told → ShownEnd → Type 0
ShownGives start told end = ShownGivesAt start.stage start.showing told end
