-- What one more thing adds was told to the machine, and done by its stream.
use Rattle.std.proofs.Common.{arith}
use Rattle.ws_machines.specs.Machines.{RunTogether}
use Rattle.ws_machines.proofs.RunLemmas.{served_together, still_running, then_told}
use Rattle.ws_machines.proofs.running.run_machine.Goals as goal

pub loop-machine-preserved : goal.loop-machine-preserved
loop-machine-preserved g c =
    let one : RunTogether g.M.Machine.agrees g.S.Stream.did c.loop-machine.machine c.serve.new.machine
    c.loop-machine.stream c.serve.new.stream = served_together g.M.Machine.agrees g.S.Stream.did g.M.Machine.wants
    c.loop-machine.machine c.serve.new.machine c.loop-machine.stream c.serve.new.stream
    c.in_ok-serve.ensures.served in
    record {
      room = omega (arith, c.loop-machine.invariant.room, c.in_ok-serve.ensures.len);
      goes_on = c.in_ok-serve.ensures.goes_on;
      running = still_running g.M.Machine.agrees g.S.Stream.did c.loop-machine.machine c.serve.new.machine
          c.loop-machine.stream c.serve.new.stream one c.loop-machine.invariant.running;
      told = then_told g.M.Machine.agrees g.S.Stream.did c.args.machine.now c.loop-machine.machine c.serve.new.machine
          c.args.stream.now c.loop-machine.stream c.serve.new.stream c.loop-machine.invariant.told one;
    }

pub loop-machine-smaller : goal.loop-machine-smaller
loop-machine-smaller g c = c.in_ok-serve.ensures.nears c.loop-machine.invariant.running
