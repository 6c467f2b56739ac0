-- So far each place has gone on, who had ended keeps its number, and the listener was asked in vain. Behind the first
-- round all were served in time.
use Rattle.std.proofs.Common.{◌≡◌, ◌<◌, ◌≤◌, ◌⊎◌, [], None, length}
use Rattle.ws_loops.specs.Listeners.{HasHeardLast}
use Rattle.ws_loops.specs.Loops.{AreServedInTime, HaveRun, IsLoopSound}
use Rattle.ws_loops.specs.Places.{KeepTurns, StayOfKind}
use Rattle.ws_loops.proofs.listening.listen_inside.Given as goal

abbrev pub invariant-loop-arrival : goal.invariant-loop-arrival
invariant-loop-arrival g l = record {
  room : 0 < length l.room;
  whole : IsLoopSound g.M.Machine.agrees g.M.Machine.wants l.inside;
  run : HaveRun g.M.Machine.agrees g.M.Machine.wants g.L.Client.NonBlocking.did g.K.LineSink.heard
      (g.P.Poller.time l.fn.poller) (g.P.Poller.time l.poller) l.fn.inside.seats.places.items
      l.inside.seats.places.items l.fn.sink l.sink;
  later : g.P.Poller.time l.fn.poller ≤ g.P.Poller.time l.poller;
  now : l.now ≡ g.P.Poller.time l.poller;
  turns : KeepTurns l.fn.inside.seats.tickets.items l.inside.seats.tickets.items;
  deaf : l.inside.door.deaf ≡ l.fn.inside.door.deaf;
  kinds : StayOfKind l.fn.inside.seats.places.items l.inside.seats.places.items;
  heard : HasHeardLast g.L.Listener.did l.fn.listener l.listener [];
  late : ((l.late ≡ None) × (l.inside.seats.tickets.items ≡ l.fn.inside.seats.tickets.items))
      ⊎ ((l.late ≡ l.until) × AreServedInTime g.M.Machine.agrees g.M.Machine.wants
      g.L.Client.NonBlocking.did (g.P.Poller.time l.poller) l.inside.seats.places.items);
}

-- each wait lowers how often it can still wait
abbrev pub decreases-loop-arrival : goal.decreases-loop-arrival
decreases-loop-arrival g l = g.P.Poller.left l.poller
