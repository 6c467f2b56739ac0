-- So far clients were served, and this was told of them.
use Rattle.std.proofs.Common.{◌≡◌, ◌+◌, ◌<◌, ◌≤◌, length}
use Rattle.ws_serving.specs.InnerServing.{IsServing, most_told}
use Rattle.ws_serving.proofs.serving.serve_all.Given as goal

abbrev pub invariant-loop-left : goal.invariant-loop-left
invariant-loop-left g l = record {
  room : 0 < length l.guests.room.items;
  service : l.guests.service.now ≡ l.fn.guests.service.now;
  serving : IsServing g.L.Client.NonBlocking.did g.L.Listener.did g.E.NewsSink.heard l.fn.guests.service.now
      l.fn.guests.listener l.fn.sink l.guests.listener l.sink l.guests.clients l.said;
  few : l.said.told + l.left ≤ most_told;
}

abbrev pub decreases-loop-left : goal.decreases-loop-left
decreases-loop-left g l = l.left
