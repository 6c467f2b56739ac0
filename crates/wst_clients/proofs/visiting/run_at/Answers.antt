-- The case plays on until its end has come.
use Rattle.std.proofs.Common.{Option, subst}
use Rattle.std.proofs.KnownBytes.{Keeps-refl}
use Rattle.ws_frame.specs.Devices.{watched}
use Rattle.ws_frame.specs.Watching.{has_failed, inner_of}
use Rattle.ws_scripts.specs.declared.transcript.Transcript.{Transcript}
use Rattle.wst_commands.specs.TimeLimits.{milliseconds_of}
use Rattle.wst_clients.specs.Turns.{RunsOn, met_clients}
use Rattle.wst_clients.specs.Visits.{known_by}
use Rattle.wst_clients.proofs.TurnLemmas.{passed_none, passed_then}
use Rattle.wst_clients.proofs.VisitingLemmas.{runs_begun, runs_ended, runs_further}
use Rattle.wst_clients.proofs.VisitorLemmas.{waits_same, waits_then}
use Rattle.wst_clients.proofs.visiting.run_at.Goals as goal

pub loop-left-init : goal.loop-left-init
loop-left-init g c = record {
  plays = runs_begun g.L.Client.NonBlocking.did c.args.tester c.args.visitors.now.clients.held
      c.play.new.self.clients.places c.args.at (c.play.ensures.played c.if-not-play.false);
  passed = passed_none met_clients c.args.round.rules.now c.args.round.standing.now
      (watched g.F.Write.contents c.args.faults.now c.args.faults.now)
      (Keeps-refl (g.F.Write.contents (inner_of c.args.faults.now)));
  are = c.play.ensures.stay.stay (known_by c.args.round.rules.now) (milliseconds_of c.args.round.rules.now.wait)
      c.requires.are;
  held = c.play.ensures.held c.requires.nobody c.requires.held;
  queue = waits_same c.args.visitors.now.waiting c.play.new.self.waiting c.play.ensures.queue.0;
  still = λ failed. failed;
}

pub returns-in_err-transcript-clause-passed : goal.returns-in_err-transcript-clause-passed
returns-in_err-transcript-clause-passed g c =
    let at = c.loop-left in
    passed_then met_clients c.args.round.rules.now c.args.round.standing.now (has_failed at.faults)
    (has_failed c.run_on.new.faults) (g.F.Write.contents (inner_of c.args.faults.now))
    (g.F.Write.contents (inner_of at.faults)) (g.F.Write.contents (inner_of c.run_on.new.faults))
    at.invariant.passed c.in_err-transcript.ensures.still c.in_err-transcript.ensures.passed

pub returns-in-Some-clause-runs : goal.returns-in-Some-clause-runs
returns-in-Some-clause-runs g c =
    let at = c.loop-left in
    runs_ended g.L.Client.NonBlocking.did c.args.visitors.now.clients.held at.visitors.clients.places
    c.run_on.new.visitors.clients.places c.args.at c.args.tester c.in-Some.transcript
    (subst (λ (o : Option Transcript). RunsOn g.L.Client.NonBlocking.did at.visitors.clients.places
    c.run_on.new.visitors.clients.places c.args.at o) c.in-Some.is c.in_ok-transcript.ensures.runs)
    at.invariant.plays

pub returns-in-Some-clause-passed : goal.returns-in-Some-clause-passed
returns-in-Some-clause-passed g c =
    let at = c.loop-left in
    passed_then met_clients c.args.round.rules.now c.args.round.standing.now (has_failed at.faults)
    (has_failed c.run_on.new.faults) (g.F.Write.contents (inner_of c.args.faults.now))
    (g.F.Write.contents (inner_of at.faults)) (g.F.Write.contents (inner_of c.run_on.new.faults))
    at.invariant.passed c.in_ok-transcript.ensures.still c.in_ok-transcript.ensures.passed

pub loop-left-preserved : goal.loop-left-preserved
loop-left-preserved g c =
    let at = c.loop-left in
    record {
      plays = runs_further g.L.Client.NonBlocking.did c.args.visitors.now.clients.held at.visitors.clients.places
          c.run_on.new.visitors.clients.places c.args.at c.args.tester
          (subst (λ (o : Option Transcript). RunsOn g.L.Client.NonBlocking.did at.visitors.clients.places
          c.run_on.new.visitors.clients.places c.args.at o) c.in_default.is c.in_ok-transcript.ensures.runs)
          at.invariant.plays;
      passed = passed_then met_clients c.args.round.rules.now c.args.round.standing.now (has_failed at.faults)
          (has_failed c.run_on.new.faults) (g.F.Write.contents (inner_of c.args.faults.now))
          (g.F.Write.contents (inner_of at.faults)) (g.F.Write.contents (inner_of c.run_on.new.faults))
          at.invariant.passed c.in_ok-transcript.ensures.still c.in_ok-transcript.ensures.passed;
      are = c.in_ok-transcript.ensures.are;
      held = c.in_ok-transcript.ensures.held;
      queue = waits_then c.args.visitors.now.waiting.items at.visitors.waiting.items
          c.run_on.new.visitors.waiting.items at.invariant.queue c.in_ok-transcript.ensures.queue;
      still = λ failed. c.in_ok-transcript.ensures.still (at.invariant.still failed);
    }

pub returns-in-Some-clause-queue : goal.returns-in-Some-clause-queue
returns-in-Some-clause-queue g c = waits_then c.args.visitors.now.waiting.items c.loop-left.visitors.waiting.items
    c.run_on.new.visitors.waiting.items c.loop-left.invariant.queue c.in_ok-transcript.ensures.queue
