-- What is left of the number stands in front of the places so far, and the room holds as many places as it needs.
use Rattle.std.proofs.Common.{◌≡◌, ◌<◌, ◌≤◌, drop, length}
use Rattle.ws_sweep.specs.Order.{ArePlaces, count_of_scripts, script_number_from}
use Rattle.ws_sweep.proofs.short_script.ShortScript.at.Given as goal

abbrev pub invariant-loop-rest : goal.invariant-loop-rest
invariant-loop-rest l = record {
  number : script_number_from l.rest (drop l.start l.room) ≡ l.number;
  places : ArePlaces (drop l.start l.room);
  left : l.rest < count_of_scripts l.start;
  room : l.start ≤ 4;
  long : length l.room ≡ 4;
}

abbrev pub decreases-loop-rest : goal.decreases-loop-rest
decreases-loop-rest l = l.rest
