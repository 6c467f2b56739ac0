-- A machine that is done has come to its end.
use Rattle.std.proofs.Common.{subst, sym}
use Rattle.wst_errands.specs.Errands.{IsCameOf, IsTakenOver}
use Rattle.wst_errands.specs.declared.errands.Came.TheVariants.{Ended}
use Rattle.wst_errands.proofs.WayLemmas.{slot_over}
use Rattle.wst_errands.proofs.errands.came_of.Goals as goal

pub returns-in_ok-end-in-Slot : goal.returns-in_ok-end-in-Slot
returns-in_ok-end-in-Slot g c =
    let is = c.in-Slot.is in
    let done = subst (λ t. IsTakenOver g.M.Machine.wants t) is c.requires in
    subst (λ t. IsCameOf g.M.Machine.agrees g.M.Machine.wants g.M.Machine.gives g.S.NonBlocking.did t
    (Ended c.in_ok-end-in-Slot.end c.stream_end.result)) (sym is)
    (slot_over g.M.Machine.agrees g.M.Machine.wants g.M.Machine.gives g.S.NonBlocking.did g.row.W.Denot
    c.in-Slot.slot
    c.in_ok-end-in-Slot.end c.stream_end.result done c.in_ok-end-in-Slot.ensures)
