-- So far what is kept stays so.
use Rattle.std.proofs.Common.{◌≡◌, ◌<◌, Bor, List, length, map, ℕ}
use Rattle.ws_clients.specs.Clients.{AreClientsSound}
use Rattle.ws_clients.specs.Numbers.{AreNumbersSound}
use Rattle.ws_clients.proofs.ServedLemmas.{GoesOut}
use Rattle.ws_clients.proofs.clients.end_inside.Given as goal

abbrev pub invariant-loop-left : goal.invariant-loop-left
invariant-loop-left g l = record {
  goes_out : GoesOut g.M.Machine.agrees g.M.Machine.wants g.S.NonBlocking.did (g.P.Poller.time l.fn.poller)
      (g.P.Poller.time l.poller) l.fn.inside.all.places l.inside.all.places;
  room : 0 < length l.room;
  whole : AreClientsSound g.M.Machine.agrees g.S.NonBlocking.did
      (map {A = Bor (List ℕ)} {B = List ℕ} (λ name. name.now) l.inside.known.now) l.inside.all l.inside.held.items
      l.inside.is_broken;
  known : l.inside.known ≡ l.fn.inside.known;
  limits : l.inside.limits ≡ l.fn.inside.limits;
  taken : l.inside.taken ≡ l.fn.inside.taken;
  counted : AreNumbersSound l.inside.all.places l.inside.taken l.inside.numbers.items l.inside.is_broken;
}

abbrev pub decreases-loop-left : goal.decreases-loop-left
decreases-loop-left g l = l.left
