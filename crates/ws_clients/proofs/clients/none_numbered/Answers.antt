-- One more, beside which no number stands.
use Rattle.std.proofs.Common.{None, arith}
use Rattle.ws_loops.proofs.PlaceLemmas.{length_more}
use Rattle.ws_clients.proofs.NumberLemmas.{none_behind}
use Rattle.ws_clients.proofs.clients.none_numbered.Goals as goal

pub loop-numbers-preserved : goal.loop-numbers-preserved
loop-numbers-preserved c =
    let more = c.in_ok-push.ensures.items in
    let len = length_more c.loop-numbers.numbers.items c.push.new.self.items None more in
    record {
      within = omega (arith, c.loop-numbers-test.true, c.len.ensures, len);
      none = none_behind c.loop-numbers.numbers.items c.push.new.self.items more c.loop-numbers.invariant.none;
    }
