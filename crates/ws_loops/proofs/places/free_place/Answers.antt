-- Something stands in each place in front of it, and it is empty, or behind all others.
use Rattle.std.proofs.Common.{◌∙◌, arith, sym}
use Rattle.ws_loops.proofs.PlaceLemmas.{first_free_here, first_free_past, occupied_more}
use Rattle.ws_loops.proofs.places.free_place.Goals as goal

pub loop-at-preserved : goal.loop-at-preserved
loop-at-preserved g c = record {
  within = omega (arith, c.loop-at-test.true);
  taken = occupied_more c.args.places.now c.loop-at.at c.place_at.result.now c.loop-at.invariant.taken
      c.place_at.ensures (sym c.is_empty.ensures ∙ c.if-is_empty.false);
}

pub returns : goal.returns
returns g c = first_free_past c.args.places.now c.loop-at.at c.loop-at.invariant.taken c.loop-at.invariant.within
    (omega (arith, c.loop-at-test.false))

pub returns-then-is_empty : goal.returns-then-is_empty
returns-then-is_empty g c = first_free_here c.args.places.now c.loop-at.at c.place_at.result.now
    c.loop-at.invariant.taken c.place_at.ensures (sym c.is_empty.ensures ∙ c.if-is_empty.true)
