-- What has happened: the first is found, or there is none, or it was another.
use Rattle.std.proofs.Common.{Option, inl, subst, ◌≡◌, ℕ}
use Rattle.std.specs.Prelude.{IfSome, Vec}
use Rattle.std.specs.declared.alloc.Global.{Global}
use Rattle.ws_frame.specs.Devices.{watched}
use Rattle.ws_frame.specs.Watching.{has_failed, inner_of}
use Rattle.wst_clients.specs.ClientSends.{TakesAccepted}
use Rattle.wst_sockets.specs.Meetings.{miss_line}
use Rattle.wst_sockets.specs.declared.meeting.ConnectFault.TheVariants.{TimedOut}
use Rattle.wst_clients.proofs.SendLemmas.{decided_before, first_there, late_before, taken_first, taken_other}
use Rattle.wst_clients.proofs.SendLemmas.{tells_one}
use Rattle.wst_clients.proofs.sending_to_client.meet_first.Goals as goal

pub returns-in-Some-clause-meets : goal.returns-in-Some-clause-meets
returns-in-Some-clause-meets g c =
    let came = decided_before g.L.Client.NonBlocking.did g.L.Listener.did g.P.Poller.time c.args.visitors.now
    c.next.new.self c.wait_end-until.result c.in_ok-event.event c.in_ok-event.ensures.happened
    c.in_ok-event.ensures.stay c.in-Decided.at c.in-Decided.admission c.in-Decided.is in
    let faults = watched g.F.Write.contents c.args.faults.now c.take_accepted.new.faults in
    taken_first c.args.visitors.now.clients.known c.next.new.self.clients.known c.in-Decided.admission c.in-Some.behind
    faults c.in_ok-event.ensures.stay.is_known came
    (subst (λ (o : Option (Vec ℕ Global)). TakesAccepted c.in-Decided.admission o faults) c.in-Some.is
    c.in_ok-taken-in-Decided.ensures.takes)

pub returns-in-Some-clause-there : goal.returns-in-Some-clause-there
returns-in-Some-clause-there g c =
    let faults = watched g.F.Write.contents c.args.faults.now c.take_accepted.new.faults in
    let kept = subst (λ (o : Option (Vec ℕ Global)). IfSome o (λ bytes. c.take_accepted.new.visitors ≡ c.next.new.self))
    c.in-Some.is c.in_ok-taken-in-Decided.ensures.kept in
    first_there g.L.Client.NonBlocking.did c.next.new.self c.take_accepted.new.visitors c.in-Decided.at
    c.in-Decided.admission c.in-Some.behind faults c.in_ok-event.event c.in-Decided.is c.in_ok-event.ensures.holds
    (subst (λ (o : Option (Vec ℕ Global)). TakesAccepted c.in-Decided.admission o faults) c.in-Some.is
    c.in_ok-taken-in-Decided.ensures.takes) kept

pub returns-in-Decided-clause-meets : goal.returns-in-Decided-clause-meets
returns-in-Decided-clause-meets g c =
    let came = decided_before g.L.Client.NonBlocking.did g.L.Listener.did g.P.Poller.time c.args.visitors.now
    c.next.new.self c.wait_end-until.result c.in_ok-event.event c.in_ok-event.ensures.happened
    c.in_ok-event.ensures.stay c.in-Decided.at c.in-Decided.admission c.in-Decided.is in
    let faults = watched g.F.Write.contents c.args.faults.now c.take_accepted.new.faults in
    taken_other c.args.visitors.now.clients.known c.next.new.self.clients.known c.in-Decided.admission faults
    c.in_ok-event.ensures.stay.is_known came
    (subst (λ (o : Option (Vec ℕ Global)). TakesAccepted c.in-Decided.admission o faults) c.in-None.is
    c.in_ok-taken-in-Decided.ensures.takes)

pub returns-in-TooLate-clause-meets : goal.returns-in-TooLate-clause-meets
returns-in-TooLate-clause-meets g c = inl (
  late_before g.L.Client.NonBlocking.did g.L.Listener.did g.P.Poller.time c.args.visitors.now c.next.new.self
      c.wait_end-until.result c.in_ok-event.event c.in_ok-event.ensures.happened c.in_ok-event.ensures.stay
      c.in-TooLate.is c.wait_end-until.ensures,
  tells_one (miss_line TimedOut) c.line.result.now (has_failed c.tell.new.faults)
      (g.F.Write.contents (inner_of c.args.faults.now)) (g.F.Write.contents (inner_of c.tell.new.faults))
      c.line.ensures c.tell.ensures.told,
)
