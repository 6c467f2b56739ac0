-- One more number is in the list, behind all others.
use Rattle.std.proofs.Common.{◌+◌, arith, subst, sym}
use Rattle.ws_loops.proofs.PlaceLemmas.{all_more}
use Rattle.ws_loops.specs.Loops.{HasAll}
use Rattle.ws_loops.proofs.looping.numbers.Goals as goal

pub loop-next-preserved : goal.loop-next-preserved
loop-next-preserved c = record {
  within = omega (arith, c.loop-next-test.true);
  all = subst (λ l. HasAll l (c.loop-next.next + 1)) (sym c.in_ok-push.ensures.items)
      (all_more c.loop-next.all.items c.loop-next.next c.loop-next.invariant.all);
}
