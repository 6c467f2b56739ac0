-- The lines of the turns so far are written.
use Rattle.std.proofs.Common.{◌≡◌, drop, false, length, List, ℕ, take}
use Rattle.ws_frame.specs.Watching.{has_failed}
use Rattle.ws_frame.specs.Devices.{watched, HasWritten}
use Rattle.ws_lines.specs.Telling.{HasToldTurns}
use Rattle.ws_lines.proofs.showing.show_transcript.Given as goal

abbrev pub invariant-loop-number : goal.invariant-loop-number
invariant-loop-number g l = let turns = (g.T.AsTranscript.transcript l.fn.transcript).turns in record {
  works : has_failed l.writer ≡ false;
  told : (written : List ℕ) × HasWritten written (watched g.W.Write.contents l.initial.writer l.writer)
      × HasToldTurns l.fn.showing l.lines (take l._number turns) written;
  left : l.walk ≡ drop l._number turns;
  count : l._number-end ≡ length turns;
}
