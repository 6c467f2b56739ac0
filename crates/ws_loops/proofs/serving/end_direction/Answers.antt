-- The own direction was ended, and the machine is told so.
use Rattle.std.proofs.Common.{refl}
use Rattle.ws_machines.specs.Told.Told.{DirectionEnded}
use Rattle.ws_loops.specs.Deeds.Deed.{Did}
use Rattle.ws_loops.proofs.StepLemmas.{did_so}
use Rattle.ws_loops.proofs.serving.end_direction.Goals as goal

pub returns : goal.returns
returns g c = record {
  step = did_so g.M.Machine.agrees g.M.Machine.wants g.S.NonBlocking.did g.M.Machine.left c.args.now c.args.slot.now
      c.end_direction.new.self c.tell.new.slot (Did DirectionEnded) DirectionEnded 0 refl refl
      c.in_ok-tell.ensures.told c.in_ok-tell.ensures.kept c.end_direction.ensures
      (c.requires.undone, c.requires.reported);
}
