-- One more, beside which nothing is held.
use Rattle.std.proofs.Common.{None, arith}
use Rattle.ws_loops.proofs.PlaceLemmas.{all_like_more, length_more}
use Rattle.ws_clients.proofs.clients.none_held.Goals as goal

pub loop-held-preserved : goal.loop-held-preserved
loop-held-preserved g c =
    let more = c.in_ok-push.ensures.items in
    let len = length_more c.loop-held.held.items c.push.new.self.items None more in
    record {
      within = omega (arith, c.loop-held-test.true, c.len.ensures, len);
      none = all_like_more c.loop-held.held.items c.push.new.self.items None more c.loop-held.invariant.none;
    }
