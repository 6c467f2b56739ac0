-- One place more is empty; at the end all are.
use Rattle.std.proofs.Common.{◌∙◌, arith, sym}
use Rattle.std.proofs.lemmas.Option.{slice_get_within}
use Rattle.ws_loops.proofs.PlaceLemmas.{empty_is, empty_more}
use Rattle.ws_loops.proofs.looping.are_empty.Goals as goal

pub loop-at-init : goal.loop-at-init
loop-at-init g c = record { within = omega arith; empty = λ i place lt. absurd (omega (arith, lt)) }

pub loop-at-preserved : goal.loop-at-preserved
loop-at-preserved g c = record {
  within = omega (arith, c.loop-at-test.true);
  empty = empty_more c.args.places.now c.loop-at.at c.place_at.result.now c.loop-at.invariant.empty c.place_at.ensures
      (empty_is c.place_at.result.now (sym c.is_empty.ensures ∙ c.if-not-is_empty.false));
}

pub returns : goal.returns
returns g c = λ yes i place is. c.loop-at.invariant.empty i place
    (omega (arith, c.loop-at-test.false, slice_get_within c.args.places.now i place is)) is
