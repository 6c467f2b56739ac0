-- A place more in front leaves the number.
use Rattle.std.proofs.Common.{◌∙◌, ap, drop, ◌-◌, ◌%◌, ◌/◌, List, ℕ, subst, sym, arith}
use Rattle.std.proofs.lemmas.List.{length-set}
use Rattle.ws_sweep.specs.Order.{ArePlaces, script_number_from}
use Rattle.ws_sweep.proofs.Numbers.{fewer_left, place_in_front, places_with, room_with}
use Rattle.ws_sweep.proofs.short_script.ShortScript.at.Goals as goal

pub loop-rest-preserved : goal.loop-rest-preserved
loop-rest-preserved c =
    let at = c.loop-rest in
    let fewer = fewer_left at.rest at.start c.loop-rest-test.true at.invariant.left in
    let written = room_with at.room at.start ((at.rest - 1) % 27) fewer.0
    (omega (arith, at.invariant.room, at.invariant.long)) in
    record {
      number = ap (λ (l : List ℕ). script_number_from ((at.rest - 1) / 27) l) written
          ∙ place_in_front at.rest (drop at.start at.room) c.loop-rest-test.true ∙ at.invariant.number;
      places = subst (λ (l : List ℕ). ArePlaces l) (sym written)
          (places_with (drop at.start at.room) at.rest at.invariant.places);
      left = fewer.1;
      room = omega (arith, at.invariant.room);
      long = length-set at.room (at.start - 1) ((at.rest - 1) % 27) ∙ at.invariant.long;
    }
