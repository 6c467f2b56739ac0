-- The own direction was ended, and the machine is told so.
use Rattle.std.proofs.Common.{refl}
use Rattle.ws_machines.specs.Told.Told.{DirectionEnded}
use Rattle.ws_machines.proofs.RunLemmas.{one_told}
use Rattle.ws_machines.proofs.running.end_direction.Goals as goal

pub returns-clause-served : goal.returns-clause-served
returns-clause-served g c = one_told g.M.Machine.agrees g.S.Stream.did g.M.Machine.wants c.args.machine.now
    c.on_event.new.self c.args.stream.now c.end_direction.new.self DirectionEnded DirectionEnded refl
    c.in_ok-on_event.ensures.told c.end_direction.ensures c.requires.reported
