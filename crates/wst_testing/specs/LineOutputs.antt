-- The output as the sink of the lines of one place of a loop.
use Rattle.std.specs.Prelude.{◌≡◌, ℕ, ⊤, false, List, [], ◌∷◌, Option}
use Rattle.std.specs.Borrow.{GName}
use Rattle.std.specs.List.{concat}
use Rattle.ws_frame.specs.Devices.{Device, HasWritten, IsUntouched, watched}
use Rattle.ws_frame.specs.Watching.{has_failed}
use Rattle.ws_frame.specs.declared.watching.Watched.{Watched}
use Rattle.ws_lines.specs.declared.transcript_lines.Showing.{Showing}
use Rattle.ws_loops.specs.Sinks.{lines_at, said_at}
use Rattle.ws_networks.specs.declared.meeting.Met.{Met}
use Rattle.ws_networks.specs.declared.meeting.Met.TheVariants.{Ended, NotMade}
use Rattle.ws_shown.specs.declared.shown_probe.ShownEnd.{ShownEnd}
use Rattle.wst_sockets.specs.declared.meeting.ConnectFault.TheVariants as why
use Rattle.wst_sockets.specs.declared.meeting.Meeting.{Meeting}
use Rattle.wst_sockets.specs.declared.meeting.Meeting.TheVariants.{NoConnection, Ran, Refused}
use Rattle.wst_testing.specs.LineWriting.{HasWrittenRun}
use Rattle.wst_testing.specs.declared.line_output.LineStop.{LineStop}
use Rattle.wst_testing.specs.declared.line_output.LineStop.TheVariants as stop

-- these lines were written, and no call has failed
abbrev pub HasWrittenOn : {W : Type 0} → (W → Option (List ℕ)) → Watched W → Watched W → List ℕ → Type 0
HasWrittenOn contents old new lines =
    HasWritten lines (watched contents old new) × ((watched contents old new).failed ≡ false)

-- just these lines were taken: all are those of this place, and they were written to the same output, one after the
-- other
pub record HasWrittenTaken (at now : ℕ) (taken : List (ℕ × List ℕ)) (old_name new_name : GName) (output : Device)
    : Type 0 where
  pub same : now ≡ at
  pub only : taken ≡ said_at at (lines_at at taken)
  pub name : new_name ≡ old_name
  pub written : HasWritten (concat (lines_at at taken)) output
  pub works : output.failed ≡ false

-- the last lines of a machine that was run, which were not taken before it was done
abbrev pub untaken_lines : {S W : Type 0} → Met ShownEnd S W → List ℕ
untaken_lines (Ended end stream) = end.last.items
untaken_lines (NotMade why) = []

-- these were written, and no call has failed if none had
abbrev pub WritesRest : {W : Type 0} → (W → Option (List ℕ)) → Watched W → Watched W → List ℕ → Type 0
WritesRest contents old new last = HasWritten last (watched contents old new)
    × (has_failed old ≡ false → has_failed new ≡ false)

abbrev pub EndsOutput : {S W V : Type 0} → (W → Option (List ℕ)) → Met ShownEnd S V → Watched W → Watched W → Type 0
EndsOutput contents met old new = WritesRest contents old new (untaken_lines met)

-- what is written of a meeting: all lines of its run, or nothing
abbrev pub ShowsMeeting : Showing → Meeting → Device → Type 0
ShowsMeeting showing (Ran transcript) output = HasWrittenRun showing transcript output
ShowsMeeting showing (Refused refusal) output = IsUntouched output
ShowsMeeting showing (NoConnection reason) output = IsUntouched output

-- why not all lines of a run over an end that meets its case so were written: that the network could not be waited for
-- is told only of an end to which there may be no connection for this reason
abbrev pub MayStopLines : (Meeting → Type 0) → LineStop → Type 0
MayStopLines Meets stop.Output = ⊤
MayStopLines Meets stop.NoMemory = ⊤
MayStopLines Meets stop.Network = Meets (NoConnection why.Failed)
