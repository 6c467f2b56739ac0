-- Nothing stands in any place.
use Rattle.std.proofs.Common.{arith}
use Rattle.ws_relays.proofs.EndPlaceLemmas.{all_free}
use Rattle.ws_relays.proofs.ends.Ends.new.Goals as goal

pub returns : goal.returns
returns g c = record {
  free = all_free c.args.len c.in_ok-all.all.places c.loop-beside.beside.items c.in_ok-all.ensures.len
      c.in_ok-all.ensures.empty
      (omega (arith, c.in_ok-all.ensures.len, c.loop-beside.invariant, c.loop-beside-test.false, c.len.ensures));
}
