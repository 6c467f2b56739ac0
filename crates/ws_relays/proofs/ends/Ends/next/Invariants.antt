-- So far all ends have gone on, and the listener was asked in vain.
use Rattle.std.proofs.Common.{◌<◌, [], length}
use Rattle.ws_relays.specs.EndPlaces.{GoOn, HasHeardThen}
use Rattle.ws_relays.proofs.ends.Ends.next.Given as goal

abbrev pub invariant-loop-left : goal.invariant-loop-left
invariant-loop-left g l = record {
  room : 0 < length l.room;
  goes : GoOn g.S.NonBlocking.did l.fn.self l.self;
  heard : HasHeardThen g.L.Listener.did l.fn.listener l.listener [];
}

abbrev pub decreases-loop-left : goal.decreases-loop-left
decreases-loop-left g l = l.left
