-- What was sent was, and those who are left are read to the end.
use Rattle.ws_frame.specs.Devices.{watched}
use Rattle.wst_clients.proofs.SendLemmas.{left_over}
use Rattle.wst_clients.proofs.sending_to_client.show_client.Goals as goal

pub returns-clause-scripts : goal.returns-clause-scripts
returns-clause-scripts g c = left_over g.L.Listener.did g.P.Poller.time c.args.rules.now c.args.visitors.now
    c.show_first-sent.new.visitors c.end_all.new.self c.show_first-sent.result
    (watched g.F.Write.contents c.args.faults.now c.show_first-sent.new.faults) c.end_all.ensures
    c.show_first-sent.ensures.scripts
