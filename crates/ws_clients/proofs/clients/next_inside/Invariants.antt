-- So far all that is played has gone on.
use Rattle.std.proofs.Common.{◌≡◌, ◌<◌, Bor, List, length, map, ℕ}
use Rattle.ws_clients.specs.Clients.{AreClientsSound, HasGoneOnTo, PlayNoMore, StayHeld, held_streams}
use Rattle.ws_clients.specs.Numbers.{AreNumbersSound}
use Rattle.ws_clients.proofs.NumberLemmas.{HasTakenSo}
use Rattle.ws_clients.proofs.ServedLemmas.{StillServed}
use Rattle.ws_clients.proofs.clients.next_inside.Given as goal

abbrev pub invariant-loop-left : goal.invariant-loop-left
invariant-loop-left g l = record {
  room : 0 < length l.room;
  whole : AreClientsSound g.M.Machine.agrees g.L.Client.NonBlocking.did
      (map {A = Bor (List ℕ)} {B = List ℕ} (λ name. name.now) l.inside.known.now) l.inside.all l.inside.held.items
      l.inside.is_broken;
  known : l.inside.known ≡ l.fn.inside.known;
  held : StayHeld (held_streams l.fn.inside.held.items) (held_streams l.inside.held.items);
  limits : l.inside.limits ≡ l.fn.inside.limits;
  plays : HasGoneOnTo g.K.LineSink.heard g.M.Machine.agrees g.L.Client.NonBlocking.did l.fn.inside.all.places
      l.inside.all.places l.fn.sink l.sink;
  goes_on : StillServed g.M.Machine.agrees g.M.Machine.wants g.L.Client.NonBlocking.did
      (g.P.Poller.time l.fn.poller) (g.P.Poller.time l.poller) l.fn.inside.all.places l.inside.all.places;
  only : PlayNoMore l.fn.inside.all.places l.inside.all.places;
  takes : HasTakenSo g.L.Listener.did l.fn.listener l.listener l.fn.inside.taken l.fn.inside.numbers.items
      l.inside.taken l.inside.numbers.items;
  counted : AreNumbersSound l.inside.all.places l.inside.taken l.inside.numbers.items l.inside.is_broken;
}

abbrev pub decreases-loop-left : goal.decreases-loop-left
decreases-loop-left g l = l.left
