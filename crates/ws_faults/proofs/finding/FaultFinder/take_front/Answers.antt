-- What the session tells of the front of a piece is noted.
use Rattle.std.proofs.Common.{◌++◌, refl, subst, sym, take}
use Rattle.ws_faults.specs.declared.finding.FaultFinder.{FaultFinder}
use Rattle.ws_faults.specs.Finding.{HasSearched}
use Rattle.ws_faults.proofs.FinderLemmas.{searched}
use Rattle.ws_faults.proofs.finding.FaultFinder.take_front.Goals as goal

pub returns-clause-taken : goal.returns-clause-taken
returns-clause-taken c = λ role bytes h.
    let front = c.in_ok-front.front in
    let piece = c.args.piece.now in
    let took = c.in_ok-front.ensures in
    subst (λ (f : FaultFinder). HasSearched role f (bytes ++ take front.used piece)) (sym c.note.ensures)
    (searched role c.args.self.now _ bytes piece _ _ _ c.take_into.new.room front.used front.event took.taken took.over
    c.in-Some.ensures.1 refl refl h)
