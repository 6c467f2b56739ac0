-- One who is left was told more.
use Rattle.ws_clients.proofs.ClientLemmas.{leaves_on}
use Rattle.ws_clients.proofs.talking.TalkMachine.on_event.Goals as goal

pub returns-in_ok-on_event-in-Leaves-clause-told : goal.returns-in_ok-on_event-in-Leaves-clause-told
returns-in_ok-on_event-in-Leaves-clause-told g c = leaves_on g.M.Machine.agrees g.M.Machine.wants c.args.self.now
    c.in-Leaves.machine c.on_event-in-Leaves.new.self c.args.event c.in-Leaves.is
    c.in_ok-on_event-in-Leaves.ensures.told
