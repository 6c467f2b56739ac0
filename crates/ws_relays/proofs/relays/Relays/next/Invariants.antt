-- So far all goes on, and no connection has ended.
use Rattle.std.proofs.Common.{◌≡◌, ◌<◌, None, false, length}
use Rattle.ws_frame.specs.Devices.{watched}
use Rattle.ws_frame.specs.Watching.{has_failed}
use Rattle.ws_relays.specs.InnerRelays.{AreStanding, RelayOn}
use Rattle.ws_relays.proofs.relays.Relays.next.Given as goal

abbrev pub invariant-loop-left : goal.invariant-loop-left
invariant-loop-left g l = record {
  room : 0 < length l.room;
  works : has_failed l.output ≡ false;
  stood : AreStanding g.S.NonBlocking.did l.fn.self;
  on : RelayOn g.S.NonBlocking.did g.L.Listener.did g.N.Network.did l.fn.listener l.listener l.fn.network l.network
      l.fn.self l.self (watched g.O.Write.contents l.fn.output l.output) None;
}

abbrev pub decreases-loop-left : goal.decreases-loop-left
decreases-loop-left g l = l.left
