-- The next case is counted, if it was run.
use Rattle.std.proofs.Common.{◌≤◌, Bool, arith, false, if◌then◌else◌, true, ℕ, ◌+◌}
use Rattle.wst_clients.proofs.ClientLemmas.{run_step}
use Rattle.wst_clients.specs.LateClients.{was_run}
use Rattle.wst_clients.proofs.late_clients.run_count.Goals as goal

one_at_most : (b : Bool) (n : ℕ) → (if b then n + 1 else n) ≤ n + 1
one_at_most true n = omega arith
one_at_most false n = omega arith

pub loop-place-preserved : goal.loop-place-preserved
loop-place-preserved c =
    let at = c.loop-place in
    let behaviors = c.args.standing.now.behaviors in
    let behavior = c.behavior.result in
    let is = c.counted_with-count.ensures in
    let most = one_at_most (was_run behavior) at.count in
    let few = at.invariant.few in
    let long = c.count-place-end.ensures in
    let below = c.loop-place-test.true in record {
      counted = run_step behaviors at.place behavior at.count c.counted_with-count.result at.invariant.counted
          (omega (arith, long, below)) c.behavior.ensures is;
      few = omega (arith, is, most, few);
    }
