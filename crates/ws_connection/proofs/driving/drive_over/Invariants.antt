-- The tester was served so far over its connection.
use Rattle.std.proofs.Common.{◌<◌, length}
use Rattle.ws_machines.specs.Machines.{HasNext}
use Rattle.ws_tester.specs.RunStates.{run_left, wanted_in}
use Rattle.ws_connection.specs.InnerDriving.{DrivesOver}
use Rattle.ws_connection.proofs.driving.drive_over.Given as goal

abbrev pub invariant-steps : goal.invariant-steps
invariant-steps g l = record {
  drives : DrivesOver l.fn.tester l.tester (record { old = l.fn.connection; new = l.connection });
  goes_on : HasNext (wanted_in l.tester.run);
  room : 0 < length l.room;
}

abbrev pub decreases-steps : goal.decreases-steps
decreases-steps g l = run_left l.tester.run
