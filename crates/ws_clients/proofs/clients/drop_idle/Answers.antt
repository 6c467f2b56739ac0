-- One place after the other.
use Rattle.std.proofs.Common.{◌∙◌, arith, refl, sym}
use Rattle.ws_clients.proofs.clients.drop_idle.Goals as goal

pub loop-at-init : goal.loop-at-init
loop-at-init g c = record {
  len = sym c.len-len.ensures;
  busy = λ at slot is busy. is;
  whole = c.requires.whole;
  counted = c.requires.counted;
  known = refl;
  limits = refl;
  taken = refl;
  runs = refl;
}

pub loop-at-preserved : goal.loop-at-preserved
loop-at-preserved g c = record {
  len = c.drop_idle_at.ensures.len ∙ c.loop-at.invariant.len;
  busy = λ at slot is busy. c.drop_idle_at.ensures.busy at slot (c.loop-at.invariant.busy at slot is busy) busy;
  whole = c.drop_idle_at.ensures.whole;
  counted = c.drop_idle_at.ensures.counted;
  known = c.drop_idle_at.ensures.known ∙ c.loop-at.invariant.known;
  limits = c.drop_idle_at.ensures.limits ∙ c.loop-at.invariant.limits;
  taken = c.drop_idle_at.ensures.taken ∙ c.loop-at.invariant.taken;
  runs = c.drop_idle_at.ensures.runs ∙ c.loop-at.invariant.runs;
}

pub drop_idle_at-requires-clause-at : goal.drop_idle_at-requires-clause-at
drop_idle_at-requires-clause-at g c = omega (arith, c.loop-at-test.true, c.loop-at.invariant.len)
