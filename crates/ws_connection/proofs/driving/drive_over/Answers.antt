-- Each thing that is told is one call more, and the first that is wanted then.
use Rattle.std.proofs.Common.{arith}
use Rattle.ws_connection.proofs.ProbingLemmas.{drives_more, nothing_driven}
use Rattle.ws_connection.proofs.driving.drive_over.Goals as goal

pub steps-init : goal.steps-init
steps-init g c = record {
  drives = nothing_driven c.args.tester.now c.args.connection.now c.requires.told;
  goes_on = c.requires.goes_on;
  room = omega arith;
}

pub steps-preserved : goal.steps-preserved
steps-preserved g c = record {
  drives = drives_more c.args.tester.now c.steps.tester c.serve.new.machine c.args.connection.now c.steps.connection
      c.serve.new.stream c.steps.invariant.drives c.in_ok-serve.ensures.served;
  goes_on = c.in_ok-serve.ensures.goes_on;
  room = omega (arith, c.steps.invariant.room, c.in_ok-serve.ensures.len);
}

pub steps-smaller : goal.steps-smaller
steps-smaller g c =
    let drives = c.steps.invariant.drives in
    c.in_ok-serve.ensures.nears (c.args.tester.now, drives.told, drives.was_told)
