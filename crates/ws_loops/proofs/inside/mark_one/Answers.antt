-- The listener is no place; a place is called.
use Rattle.std.proofs.Common.{◌<◌, ℕ, length, refl, subst, sym}
use Rattle.ws_loops.specs.Inside.{IsCalledSo}
use Rattle.ws_loops.proofs.InsideLemmas.{marked_door, no_place, same_mark}
use Rattle.ws_loops.proofs.inside.mark_one.Goals as goal

pub returns-in-Listener : goal.returns-in-Listener
returns-in-Listener g c = record {
  marked = (
    marked_door c.args.inside.now _ refl refl refl refl refl refl,
    λ at e. absurd (no_place c.args.wake.mark at c.in-Listener.is e),
  );
}

pub returns-in-Place : goal.returns-in-Place
returns-in-Place g c = record {
  marked = (
    c.call.ensures.called.0,
    λ at e lt.
        let same = same_mark c.args.wake.mark c.in-Place.at at c.in-Place.is e in
        subst (λ (n : ℕ). IsCalledSo c.call.new.inside.seats.calls.items n c.args.wake.ready) same
        (c.call.ensures.called.1 (subst (λ (n : ℕ). n < length c.args.inside.now.seats.calls.items) (sym same) lt)),
  );
}
