-- A tester whose lines are wanted as soon as they are certain.
use Rattle.std.specs.Prelude.{◌≡◌, ℕ, ◌+◌, ◌*◌, Bool, true, false, if◌then◌else◌, List, [], ◌∷◌, ◌++◌}
use Rattle.std.specs.List.{flat_map}
use Rattle.ws_machines.specs.Machines.{Extends, Wants}
use Rattle.ws_machines.specs.Told.{Told}
use Rattle.ws_machines.specs.Told.Told.{Reported}
use Rattle.ws_machines.specs.declared.stream.StreamEvent.{StreamEvent}
use Rattle.ws_machines.specs.declared.stream.StreamEvent.TheVariants as event
use Rattle.ws_scripts.specs.declared.transcript.Transcript.{Transcript}
use Rattle.ws_scripts.specs.declared.transcript.Turn.{Turn}
use Rattle.ws_tester.specs.Following.{BeginsRun, ScriptValue, TesterValue, WasTold}
use Rattle.ws_tester.specs.Outgoings.{HaveBytes}
use Rattle.ws_tester.specs.Records.{IsRecorded}
use Rattle.ws_tester.specs.RunStates.{RunState, is_nothing, run_left, turns_of_run, wanted_in}
use Rattle.ws_shown.specs.MarkedLines.{AreMarkedLines}
use Rattle.ws_shown.specs.LineRooms.{HasLinesOf, LineRoomValue, LinesGoOn}
use Rattle.ws_shown.specs.TurnsTold.{IsToldAtTurn, IsToldOfRun}
use Rattle.ws_shown.specs.declared.shown_tester.ShownTester.{ShownTester}
use Rattle.ws_shown.specs.declared.turns_told.TurnsTold.{TurnsTold}

-- ---- what was told, without the lines

-- what a machine was told but that its lines were taken; and the lines of which it was told that
abbrev pub without_report : Told → List Told
without_report (Reported lines) = []
without_report event = event ∷ []

abbrev pub reported_by : Told → List ℕ
reported_by (Reported lines) = lines
reported_by _ = []

abbrev pub without_reports : List Told → List Told
without_reports told = flat_map without_report told

abbrev pub all_reported : List Told → List ℕ
all_reported told = flat_map reported_by told

-- ---- what is shown of a run

-- what was shown of the turns that are over is shown on, to their end
pub record ShowsPast (told : TurnsTold) (past : List Turn) (turn : Turn) (turns : List Turn) (old new : LineRoomValue)
    : Type 0 where
  pub new_turns : List Turn
  pub shows : LinesGoOn turns new_turns old new
  pub told_at : IsToldAtTurn told past turn new_turns

-- what was shown of the turns of a run is shown on, up to the turn under way, of which all is shown once all of it is
-- sent
pub record ShowsRun (x : RunState) (told : TurnsTold) (turns : List Turn) (old new : LineRoomValue) : Type 0 where
  pub new_turns : List Turn
  pub shows : LinesGoOn turns new_turns old new
  pub told_of : IsToldOfRun told x new_turns
  pub over : x.begun ≡ true → IsToldAtTurn told x.past x.turn new_turns
  pub all : x.begun ≡ true → (wanted_in x).write ≡ [] → new_turns ≡ turns_of_run x
  pub none : x.begun ≡ false → new_turns ≡ turns

-- These lines of a run were taken. The lines of all turns that are over were taken or wait, and those of the turn under
-- way once all of it is sent: so each is wanted as soon as it is certain.
pub record IsShownBy (x : ShownTester) (taken : List ℕ) : Type 0 where
  pub turns : List Turn
  pub told_of : IsToldOfRun x.told x.tester.run turns
  pub shown : HasLinesOf x.room turns taken
  pub over : x.tester.run.begun ≡ true → IsToldAtTurn x.told x.tester.run.past x.tester.run.turn turns
  pub all : x.tester.run.begun ≡ true → (wanted_in x.tester.run).write ≡ [] → turns ≡ turns_of_run x.tester.run
  pub none : x.tester.run.begun ≡ false → turns ≡ []

-- ---- the machine

-- it wants what its tester wants, and its lines to be taken
abbrev pub wants_with_lines : List ℕ → Wants → Wants
wants_with_lines lines wants = record {
  write = wants.write;
  report = lines;
  room = wants.room;
  end = wants.end;
  waits_anew = wants.waits_anew;
  done = wants.done;
}

abbrev pub wanted_shown : ShownTester → Wants
wanted_shown x = wants_with_lines x.room.parts.bytes.items (wanted_in x.tester.run)

-- so much can still happen: what can to its tester, and after each of that lines may be taken
abbrev pub left_shown : ShownTester → ℕ
left_shown x = run_left x.tester.run * 2 + (if is_nothing x.room.parts.bytes.items then 0 else 1)

-- it has run since it began, with a script of which no piece is empty
pub record IsRunOfScript (x : TesterValue) : Type 0 where
  pub run : ScriptValue
  pub pieces : HaveBytes run.script
  pub start : TesterValue
  pub begins : BeginsRun run start.run
  pub told : List Told
  pub was_told : WasTold start x told

-- what happened is that its lines were taken
abbrev pub is_report : StreamEvent → Bool
is_report event.Reported = true
is_report _ = false

-- its tester was told this, and what is shown follows
abbrev pub HearsShown : ShownTester → ShownTester → Told → Type 0
HearsShown old new event = Extends WasTold old.tester new.tester (event ∷ [])
    × (IsRunOfScript old.tester → (taken : List ℕ) → IsShownBy old taken → IsShownBy new taken)

-- what it was told changes: that its lines were taken, those; and all else its tester
abbrev pub TellsShown : ShownTester → ShownTester → Told → Type 0
TellsShown old new (Reported lines) = (new.tester ≡ old.tester)
    × ((taken : List ℕ) → IsShownBy old taken → IsShownBy new (taken ++ lines))
TellsShown old new event = HearsShown old new event

-- What comes of it once it is done: what comes of its tester; and these are the last of the lines of its transcript.
pub record EndsShown (x : ShownTester) (transcript : Transcript) (last : List ℕ) : Type 0 where
  pub is_end : (start : TesterValue) (told : List Told) → WasTold start x.tester told
      → IsRecorded start.run told transcript
  pub lines : IsRunOfScript x.tester → (taken : List ℕ) → IsShownBy x taken
      → AreMarkedLines x.room.showing transcript (taken ++ last)
