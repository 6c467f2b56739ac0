-- One place more is called.
use Rattle.std.proofs.Common.{arith}
use Rattle.ws_loops.proofs.InsideLemmas.{calls_more, calls_none}
use Rattle.ws_loops.proofs.inside.call_these.Goals as goal

pub loop-next-init : goal.loop-next-init
loop-next-init c = record { next = omega arith; called = calls_none c.args.these.now c.args.calls.now.items }

pub loop-next-preserved : goal.loop-next-preserved
loop-next-preserved c = record {
  next = omega (arith, c.loop-next-test.true);
  called = calls_more c.args.these.now c.loop-next.next c.number_at-at.result c.args.calls.now.items
      c.loop-next.calls.items c.call_once.new.calls.items c.number_at-at.ensures c.loop-next.invariant.called
      c.call_once.ensures;
}
