-- The first of these places were served, each place stands so, and what isn't called is seen to.
use Rattle.std.proofs.Common.{◌<◌, ◌≤◌, ◌-◌, length}
use Rattle.ws_loops.specs.Loops.{AreServedTo, AreSeatsSound, RestsUncalled}
use Rattle.ws_loops.specs.Places.{StayOfKind}
use Rattle.ws_loops.proofs.rounds.serve_these.Given as goal

abbrev pub invariant-loop-next : goal.invariant-loop-next
invariant-loop-next g l = record {
  room : 0 < length l.room;
  next : l.next ≤ length l.these;
  standing : AreSeatsSound g.M.Machine.agrees g.M.Machine.wants l.seats;
  rests : RestsUncalled g.M.Machine.wants l.seats;
  kinds : StayOfKind l.fn.seats.places.items l.seats.places.items;
  served : AreServedTo g.M.Machine.agrees g.M.Machine.wants g.S.NonBlocking.did g.K.LineSink.heard l.now l.these l.next
      l.fn.seats l.seats l.fn.sink l.sink;
}

abbrev pub decreases-loop-next : goal.decreases-loop-next
decreases-loop-next g l = length l.these - l.next
