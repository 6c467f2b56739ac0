-- So far the case is played on, and others passed by, or wait.
use Rattle.ws_frame.specs.Devices.{watched}
use Rattle.wst_commands.specs.Devices.{StaysFailed}
use Rattle.wst_clients.specs.Turns.{RunsHeld, met_clients}
use Rattle.wst_clients.specs.Visitors.{AreHeld, AreTestedBy, WaitOn}
use Rattle.wst_clients.specs.Visits.{HavePassed}
use Rattle.wst_clients.proofs.visiting.run_at.Given as goal

abbrev pub invariant-loop-left : goal.invariant-loop-left
invariant-loop-left g l = record {
  plays : RunsHeld g.L.Client.NonBlocking.did l.fn.visitors.clients.held l.visitors.clients.places l.at
      l.fn.tester;
  passed : HavePassed met_clients l.round.rules.now l.round.standing.now
      (watched g.F.Write.contents l.initial.faults l.faults);
  are : AreTestedBy l.round.rules.now l.visitors;
  held : AreHeld g.L.Client.NonBlocking.did l.visitors;
  queue : WaitOn l.fn.visitors.waiting.items l.visitors.waiting.items;
  still : StaysFailed l.initial.faults l.faults;
}

abbrev pub decreases-loop-left : goal.decreases-loop-left
decreases-loop-left g l = l.left
