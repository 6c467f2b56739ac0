-- The deadline has passed, and the machine is told whether it has waited.
use Rattle.ws_machines.specs.Told.Told.{DeadlinePassed}
use Rattle.ws_loops.proofs.StepLemmas.{passed_so}
use Rattle.ws_loops.proofs.serving.tell_deadline.Goals as goal

pub returns : goal.returns
returns g c = record {
  step = passed_so g.M.Machine.agrees g.M.Machine.wants g.S.NonBlocking.did g.M.Machine.left c.args.now c.args.slot.now
      c.tell.new.slot (DeadlinePassed c.has_waited-waited.result) c.in_ok-tell.ensures.told c.in_ok-tell.ensures.kept
      (c.requires.undone, (c.requires.reported, (c.requires.ended, (c.requires.over, c.has_waited-waited.ensures))));
}
