-- Who was decided so far passed by, until one is accepted, or none can be.
use Rattle.std.proofs.Common.{refl, subst}
use Rattle.std.proofs.KnownBytes.{Keeps-refl}
use Rattle.ws_frame.specs.Devices.{watched}
use Rattle.ws_frame.specs.Watching.{has_failed, inner_of}
use Rattle.wst_clients.specs.ClientSends.{IsFoundAt, SeeksFirst}
use Rattle.wst_clients.specs.declared.sending_to_client.Search.{Search}
use Rattle.wst_clients.proofs.SendLemmas.{found_so, goes_so, met_twice, over_so, unsent_none}
use Rattle.wst_clients.proofs.sending_to_client.first_accepted.Goals as goal

pub loop-left-init : goal.loop-left-init
loop-left-init g c = record {
  same = (refl, refl);
  passed = unsent_none c.args.visitors.now.clients.known (watched g.F.Write.contents c.args.faults.now c.args.faults.now)
      (Keeps-refl (g.F.Write.contents (inner_of c.args.faults.now)));
  still = λ failed. failed;
}

pub returns-in-Found-clause-accepted : goal.returns-in-Found-clause-accepted
returns-in-Found-clause-accepted g c =
    let at = c.loop-left in
    found_so g.L.Listener.did g.P.Poller.time c.args.visitors.now at.visitors c.meet_first.new.visitors
    (has_failed at.faults) (has_failed c.meet_first.new.faults) (g.F.Write.contents (inner_of c.args.faults.now))
    (g.F.Write.contents (inner_of at.faults)) (g.F.Write.contents (inner_of c.meet_first.new.faults))
    at.invariant.same at.invariant.passed c.in_ok-met.ensures.still c.in-Found.at c.in-Found.behind
    (subst (λ (s : Search). SeeksFirst g.L.Listener.did g.P.Poller.time at.visitors c.meet_first.new.visitors s
    (watched g.F.Write.contents at.faults c.meet_first.new.faults)) c.in-Found.is c.in_ok-met.ensures.meets)

pub returns-in-Over-clause-accepted : goal.returns-in-Over-clause-accepted
returns-in-Over-clause-accepted g c =
    let at = c.loop-left in
    over_so g.L.Listener.did g.P.Poller.time c.args.visitors.now at.visitors c.meet_first.new.visitors
    (has_failed at.faults) (has_failed c.meet_first.new.faults) (g.F.Write.contents (inner_of c.args.faults.now))
    (g.F.Write.contents (inner_of at.faults)) (g.F.Write.contents (inner_of c.meet_first.new.faults))
    at.invariant.same at.invariant.passed c.in_ok-met.ensures.still
    (subst (λ (s : Search). SeeksFirst g.L.Listener.did g.P.Poller.time at.visitors c.meet_first.new.visitors s
    (watched g.F.Write.contents at.faults c.meet_first.new.faults)) c.in-Over.is c.in_ok-met.ensures.meets)

pub returns-in-Found-clause-there : goal.returns-in-Found-clause-there
returns-in-Found-clause-there g c = subst (λ (s : Search). IsFoundAt g.L.Client.NonBlocking.did
    c.meet_first.new.visitors s) c.in-Found.is c.in_ok-met.ensures.there

pub returns-in-Found-clause-same : goal.returns-in-Found-clause-same
returns-in-Found-clause-same g c = met_twice c.args.visitors.now c.loop-left.visitors c.meet_first.new.visitors
    c.loop-left.invariant.same c.in_ok-met.ensures.same

pub returns-in-Over-clause-same : goal.returns-in-Over-clause-same
returns-in-Over-clause-same g c = met_twice c.args.visitors.now c.loop-left.visitors c.meet_first.new.visitors
    c.loop-left.invariant.same c.in_ok-met.ensures.same

pub loop-left-preserved : goal.loop-left-preserved
loop-left-preserved g c =
    let at = c.loop-left in record {
      same = met_twice c.args.visitors.now at.visitors c.meet_first.new.visitors at.invariant.same
          c.in_ok-met.ensures.same;
      passed = goes_so g.L.Listener.did g.P.Poller.time c.args.visitors.now at.visitors c.meet_first.new.visitors
          (has_failed at.faults) (has_failed c.meet_first.new.faults)
          (g.F.Write.contents (inner_of c.args.faults.now)) (g.F.Write.contents (inner_of at.faults))
          (g.F.Write.contents (inner_of c.meet_first.new.faults)) at.invariant.same at.invariant.passed
          c.in_ok-met.ensures.still
          (subst (λ (s : Search). SeeksFirst g.L.Listener.did g.P.Poller.time at.visitors
          c.meet_first.new.visitors s (watched g.F.Write.contents at.faults c.meet_first.new.faults))
          c.in-GoesOn.is c.in_ok-met.ensures.meets);
      still = λ failed. c.in_ok-met.ensures.still (at.invariant.still failed);
    }
