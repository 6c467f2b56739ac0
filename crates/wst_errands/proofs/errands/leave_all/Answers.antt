-- Nothing stands in one place more; at the end in none.
use Rattle.std.proofs.Common.{arith}
use Rattle.std.proofs.lemmas.Option.{slice_get_within}
use Rattle.wst_errands.proofs.GivingLemmas.{free_more, len_more}
use Rattle.wst_errands.proofs.errands.leave_all.Goals as goal

pub loop-at-init : goal.loop-at-init
loop-at-init g c = record { within = omega arith; free = λ i x lt. absurd (omega (arith, lt)) }

pub loop-at-preserved : goal.loop-at-preserved
loop-at-preserved g c = record {
  within = len_more c.loop-at.all.standings c.take.new.self.standings c.loop-at.at c.take.ensures.free
      (omega (arith, c.loop-at-test.true, c.len.ensures));
  free = free_more c.loop-at.all.standings c.take.new.self.standings c.loop-at.at c.take.ensures.free
      c.loop-at.invariant.free;
}

pub returns : goal.returns
returns g c = λ i x is. c.loop-at.invariant.free i x
    (omega (arith, c.loop-at-test.false, c.len.ensures, slice_get_within c.loop-at.all.standings i x is)) is
