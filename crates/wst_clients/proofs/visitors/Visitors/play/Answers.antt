-- Those who wait elsewhere are held as they were.
use Rattle.std.proofs.Common.{refl}
use Rattle.wst_clients.proofs.HeldLemmas.{held_without}
use Rattle.wst_clients.proofs.visitors.Visitors.play.Goals as goal

pub returns-clause-held : goal.returns-clause-held
returns-clause-held g c = held_without g.L.Client.NonBlocking.did c.args.self.now _ c.args.at c.play.ensures.held
    c.play.ensures.known refl
