-- The counts are small.
use Rattle.std.proofs.Common.{arith}
use Rattle.ws_sweep.proofs.Numbers.{next_fits}
use Rattle.ws_sweep.proofs.short_script.script_count.Goals as goal

pub overflow_mul-count : goal.overflow_mul-count
overflow_mul-count c =
    let few = next_fits c.args.steps c.loop.counter c.loop.count c.requires c.loop-test.true c.loop.invariant in
    omega (arith, few)

pub overflow_add-count : goal.overflow_add-count
overflow_add-count c =
    let few = next_fits c.args.steps c.loop.counter c.loop.count c.requires c.loop-test.true c.loop.invariant in
    omega (arith, few)
