use Rattle.std.proofs.Common.{◌<◌, length}
use Rattle.ws_machines.specs.Machines.{HasNext, IsRunning, RunTogether}
use Rattle.ws_machines.proofs.running.run_machine.Given as goal

-- so far what the machine was told is what the stream did, and the machine is done or wants something
abbrev pub invariant-loop-machine : goal.invariant-loop-machine
invariant-loop-machine g l = record {
  room : 0 < length l.room;
  goes_on : HasNext (g.M.Machine.wants l.machine);
  running : IsRunning g.M.Machine.agrees l.machine;
  told : RunTogether g.M.Machine.agrees g.S.Stream.did l.fn.machine l.machine l.fn.stream l.stream;
}

-- each thing that happens lowers what can still happen
abbrev pub decreases-loop-machine : goal.decreases-loop-machine
decreases-loop-machine g l = g.M.Machine.left l.machine
