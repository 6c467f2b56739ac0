-- So far those who were decided passed by: none of them was accepted.
use Rattle.ws_frame.specs.Devices.{watched}
use Rattle.wst_commands.specs.Devices.{StaysFailed}
use Rattle.wst_clients.specs.ClientSends.{AreMetSo, HavePassedUnsent}
use Rattle.wst_clients.proofs.sending_to_client.first_accepted.Given as goal

abbrev pub invariant-loop-left : goal.invariant-loop-left
invariant-loop-left g l = record {
  same : AreMetSo l.fn.visitors l.visitors;
  passed : HavePassedUnsent l.fn.visitors.clients.known (watched g.F.Write.contents l.fn.faults l.faults);
  still : StaysFailed l.fn.faults l.faults;
}

abbrev pub decreases-loop-left : goal.decreases-loop-left
decreases-loop-left g l = l.left
