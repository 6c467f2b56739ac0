-- The probe was served so far over its connection.
use Rattle.std.proofs.Common.{◌<◌, length}
use Rattle.ws_machines.specs.Machines.{HasNext}
use Rattle.ws_handshake.specs.Probes.{probe_left, wanted_of}
use Rattle.ws_connection.specs.InnerDriving.{OpensOver}
use Rattle.ws_connection.proofs.driving.open_over.Given as goal

abbrev pub invariant-steps : goal.invariant-steps
invariant-steps g l = record {
  opens : OpensOver l.fn.machine l.machine (record { old = l.fn.connection; new = l.connection });
  goes_on : HasNext (wanted_of l.machine);
  room : 0 < length l.room;
}

abbrev pub decreases-steps : goal.decreases-steps
decreases-steps g l = probe_left l.machine
