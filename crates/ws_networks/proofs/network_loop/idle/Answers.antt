-- One more, for which nothing goes on.
use Rattle.std.proofs.Common.{arith}
use Rattle.ws_loops.proofs.PlaceLemmas.{all_like_more, length_more}
use Rattle.ws_networks.specs.declared.network_loop.Outbound.TheVariants.{Idle}
use Rattle.ws_networks.proofs.network_loop.idle.Goals as goal

pub loop-all-preserved : goal.loop-all-preserved
loop-all-preserved g c =
    let more = c.in_ok-push.ensures.items in
    let len = length_more c.loop-all.all.items c.push.new.self.items Idle more in
    record {
      within = omega (arith, c.loop-all-test.true, c.len.ensures, len);
      idle = all_like_more c.loop-all.all.items c.push.new.self.items Idle more c.loop-all.invariant.idle;
    }
