-- What came of a case is what its machine gives, of what the stream did.
use Rattle.std.proofs.Common.{Bool, IfOk, subst}
use Rattle.std.specs.Prelude.{Some}
use Rattle.ws_wire.specs.declared.role.Role.TheVariants.{Server}
use Rattle.ws_connection.specs.Probing.{BeginsProbe, bytes_by_turn}
use Rattle.ws_connection.specs.UpgradeRequests.{request_value}
use Rattle.ws_handshake.specs.Probes.{ProbeGives, ProbeValue, WasProbed, wanted_of}
use Rattle.ws_networks.specs.Meetings.{HasMet}
use Rattle.ws_networks.specs.declared.bounds.Limits.{Limits}
use Rattle.wst_testing.specs.Servers.{asked_within}
use Rattle.wst_testing.proofs.LoopLemmas.{met_because, met_or_not}
use Rattle.wst_testing.proofs.address_server.run_looped.Goals as goal

pub returns-clause-meets : goal.returns-clause-meets
returns-clause-meets g c =
    let asked = c.args.job.asked.now in
    let bounds = c.args.job.bounds in
    let start : ProbeValue = c.in_ok-machine.machine in
    let begins = subst (λ (b : Bool). BeginsProbe (record { tested = Server; expected = asked.expected; timeouts = b })
    (bytes_by_turn c.args.job.case.now (Some asked.key)) (request_value asked.request) bounds.budget start) c.requires.timeouts
    c.in_ok-machine.ensures.begins in
    let did = g.N.Stream.NonBlocking.did in
    let does = g.N.Network.did in
    let from = g.P.Poller.time c.args.poller.now in
    let to = g.P.Poller.time c.run_at-met.new.poller in
    let old = c.args.network.now in
    let new = c.run_at-met.new.network in
    let name = c.args.job.address.now in
    met_or_not (asked_within asked bounds) asked.key c.args.job.case.now start begins did does from to old new name
    c.run_at-met.result c.meeting_by.result (subst (λ (l : Limits). IfOk c.run_at-met.result (λ met. HasMet WasProbed
    (λ (now : ProbeValue). wanted_of now) ProbeGives did does l from to old new name start met)) c.limits.ensures
    c.run_at-met.ensures.met) c.meeting_by.ensures

pub returns-clause-why : goal.returns-clause-why
returns-clause-why g c =
    let asked = c.args.job.asked.now in
    let bounds = c.args.job.bounds in
    let start : ProbeValue = c.in_ok-machine.machine in
    let begins = subst (λ (b : Bool). BeginsProbe (record { tested = Server; expected = asked.expected; timeouts = b })
    (bytes_by_turn c.args.job.case.now (Some asked.key)) (request_value asked.request) bounds.budget start) c.requires.timeouts
    c.in_ok-machine.ensures.begins in
    let did = g.N.Stream.NonBlocking.did in
    let does = g.N.Network.did in
    let from = g.P.Poller.time c.args.poller.now in
    let to = g.P.Poller.time c.run_at-met.new.poller in
    let old = c.args.network.now in
    let new = c.run_at-met.new.network in
    let name = c.args.job.address.now in
    met_because (asked_within asked bounds) asked.key c.args.job.case.now start begins did does from to old new name
    c.run_at-met.result c.meeting_by.result (subst (λ (l : Limits). IfOk c.run_at-met.result (λ met. HasMet WasProbed
    (λ (now : ProbeValue). wanted_of now) ProbeGives did does l from to old new name start met)) c.limits.ensures
    c.run_at-met.ensures.met) c.meeting_by.ensures
