-- So far connections were tapped, and just that was told of them; the output works.
use Rattle.std.proofs.Common.{◌≡◌, ◌<◌, ◌≤◌, None, false, length}
use Rattle.ws_frame.specs.Watching.{has_failed, inner_of}
use Rattle.ws_relays.specs.InnerTapping.{IsToldIf}
use Rattle.ws_relays.specs.Tappings.{last_tap_number}
use Rattle.ws_relays.proofs.TappingLemmas.{IsTappingOn}
use Rattle.ws_relays.proofs.tapping.tap_all.Given as goal

abbrev pub invariant-loop-left : goal.invariant-loop-left
invariant-loop-left g l = record {
  room : 0 < length l.room.items;
  works : has_failed l.output ≡ false;
  tapping : IsTappingOn g.N.Stream.NonBlocking.did g.L.Listener.did g.N.Network.did l.fn.tapping
      l.fn.over.listener l.fn.over.network l.listener l.network l.relays
      (g.O.Write.contents (inner_of l.fn.output)) (g.O.Write.contents (inner_of l.output)) l.told None;
  short : IsToldIf g.K.ShortageSink.told l.is_short l.fn.shortage l.shortage;
  few : l.told ≤ last_tap_number l.fn.tapping.count;
}

abbrev pub decreases-loop-left : goal.decreases-loop-left
decreases-loop-left g l = l.left
