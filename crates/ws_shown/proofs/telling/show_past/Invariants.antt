-- What was told before, and since then, of the turns that are over.
use Rattle.std.proofs.Common.{◌≡◌, ◌-◌, true, List, length}
use Rattle.ws_scripts.specs.declared.transcript.Turn.{Turn}
use Rattle.ws_shown.specs.LineRooms.{LinesGoOn}
use Rattle.ws_shown.specs.TurnsTold.{IsToldSoFar}
use Rattle.ws_shown.proofs.telling.show_past.Given as goal

abbrev pub invariant-turns : goal.invariant-turns
invariant-turns l = record {
  shows : (turn : Turn) (turns : List Turn) → IsToldSoFar l.fn.told l.past turn turns → (now : List Turn)
      × LinesGoOn turns now l.fn.room l.room × IsToldSoFar l.told l.past turn now;
  same : l.told.is_sent ≡ true → l.told ≡ l.fn.told;
  showing : l.room.showing ≡ l.fn.room.showing;
}

abbrev pub decreases-turns : goal.decreases-turns
decreases-turns l = length l.past - l.told.whole
