-- The run of a script over an end whose handshake is done (RFC 6455 sections 5 to 7), whose lines are wanted as soon as
-- they are certain.
use Rattle.std.specs.Prelude.{◌≡◌, List, [], ◌++◌}
use Rattle.ws_machines.specs.Told.{Told}
use Rattle.ws_tester.specs.Following.{BeginsRun, ScriptValue, WasTold}
use Rattle.ws_tester.specs.Outgoings.{HaveBytes}
use Rattle.ws_tester.specs.Records.{IsRecorded}
use Rattle.ws_shown.specs.MarkedLines.{AreMarkedLines}
use Rattle.ws_shown.specs.ShownTesters.{IsShownBy, all_reported, without_reports}
use Rattle.ws_shown.specs.declared.shown_run.RunEnd.{RunEnd}
use Rattle.ws_shown.specs.declared.shown_tester.ShownTester.{ShownTester}

-- From the first state, a beginning of a script of which no piece is empty, to the second one it was told just this:
-- its tester was told that, without that lines were taken; and the lines that were taken, and those that wait behind
-- them, are those of the run so far.
pub record WasRunShown (start now : ShownTester) (told : List Told) : Type 0 where
  pub script : ScriptValue
  pub pieces : HaveBytes script.script
  pub begins : BeginsRun script start.tester.run
  pub was_told : WasTold start.tester now.tester (without_reports told)
  pub shown : IsShownBy now (all_reported told)
  pub showing : now.room.showing ≡ start.room.showing

-- What comes of a run that was told just this: what comes of its tester; and with the lines that were taken its last
-- ones are the lines of the transcript.
abbrev pub RunShows : ShownTester → List Told → RunEnd → Type 0
RunShows start told end = IsRecorded start.tester.run (without_reports told) end.transcript
    × AreMarkedLines start.room.showing end.transcript (all_reported told ++ end.last.items)
