-- So far only those stay to whom something is played, and who are left.
use Rattle.std.proofs.Common.{◌≡◌, ◌-◌, Bor, List, length, map, ℕ}
use Rattle.ws_clients.specs.Clients.{AreClientsSound, BusyStay}
use Rattle.ws_clients.specs.Numbers.{AreNumbersSound}
use Rattle.ws_clients.proofs.clients.drop_idle.Given as goal

abbrev pub invariant-loop-at : goal.invariant-loop-at
invariant-loop-at g l = record {
  len : length l.inside.all.places ≡ l.len;
  busy : BusyStay l.fn.inside.all.places l.inside.all.places;
  whole : AreClientsSound g.M.Machine.agrees g.S.NonBlocking.did
      (map {A = Bor (List ℕ)} {B = List ℕ} (λ name. name.now) l.inside.known.now) l.inside.all l.inside.held.items
      l.inside.is_broken;
  counted : AreNumbersSound l.inside.all.places l.inside.taken l.inside.numbers.items l.inside.is_broken;
  known : l.inside.known ≡ l.fn.inside.known;
  limits : l.inside.limits ≡ l.fn.inside.limits;
  taken : l.inside.taken ≡ l.fn.inside.taken;
  runs : l.inside.is_broken ≡ l.fn.inside.is_broken;
}

abbrev pub decreases-loop-at : goal.decreases-loop-at
decreases-loop-at g l = l.len - l.at
