-- One more place, in which nothing stands.
use Rattle.std.proofs.Common.{None, arith}
use Rattle.ws_loops.specs.declared.places.Place.TheVariants.{Empty}
use Rattle.ws_loops.proofs.PlaceLemmas.{all_like_more, length_more}
use Rattle.ws_loops.proofs.looping.new_seats.Goals as goal

pub loop-places-preserved : goal.loop-places-preserved
loop-places-preserved g c =
    let before = c.loop-places.invariant in
    let places = c.in_ok-push.ensures.items in
    let calls = c.in_ok-push-2.ensures.items in
    let tickets = c.in_ok-push-3.ensures.items in
    let places_len = length_more c.loop-places.places.items c.push.new.self.items Empty places in
    let calls_len = length_more c.loop-places.calls.items c.push-in-loop-places.new.self.items None calls in
    let tickets_len = length_more c.loop-places.tickets.items c.push-in-loop-places-2.new.self.items None tickets in
    record {
      within = omega (arith, c.loop-places-test.true, c.len.ensures, places_len);
      empty = all_like_more c.loop-places.places.items c.push.new.self.items Empty places before.empty;
      calls = omega (arith, places_len, calls_len, before.calls);
      uncalled = all_like_more c.loop-places.calls.items c.push-in-loop-places.new.self.items None calls
          before.uncalled;
      tickets = omega (arith, places_len, tickets_len, before.tickets);
      none = all_like_more c.loop-places.tickets.items c.push-in-loop-places-2.new.self.items None tickets before.none;
    }
