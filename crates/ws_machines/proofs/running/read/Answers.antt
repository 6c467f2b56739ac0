-- What came into the room is what the machine is told.
use Rattle.ws_machines.specs.Told.{told_by_read}
use Rattle.ws_machines.specs.Machines.{told_at}
use Rattle.ws_machines.proofs.RunLemmas.{one_told, read_in_order}
use Rattle.ws_machines.proofs.running.read.Goals as goal

pub returns-clause-served : goal.returns-clause-served
returns-clause-served g c =
    let wants = g.M.Machine.wants c.args.machine.now in
    one_told g.M.Machine.agrees g.S.Stream.did g.M.Machine.wants c.args.machine.now c.on_event.new.self
    c.args.stream.now c.read-outcome.new.self (told_at wants c.event.result)
    (told_by_read c.read-outcome.new.room c.read-outcome.result)
    (c.event.ensures.told wants) c.in_ok-on_event.ensures.told c.read-outcome.ensures.did
    (read_in_order wants c.read-outcome.new.room c.read-outcome.result c.requires.reported c.requires.ended
    c.requires.written)
