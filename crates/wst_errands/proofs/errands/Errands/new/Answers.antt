-- Nothing stands in any place, and none is in the line.
use Rattle.wst_errands.proofs.LineLemmas.{none_sound}
use Rattle.wst_errands.proofs.errands.Errands.new.Goals as goal

pub invariant_of-result : goal.invariant_of-result
invariant_of-result g c = none_sound g.M.Machine.agrees g.M.Machine.wants g.M.Machine.gives g.S.NonBlocking.did
    c.in_ok-all.all.standings c.new-line.result.items c.in_ok-all.ensures.free c.new-line.ensures.items
