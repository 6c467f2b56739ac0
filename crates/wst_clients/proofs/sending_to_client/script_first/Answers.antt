-- The script is run over the first whose request is accepted.
use Rattle.std.proofs.Common.{None, Option, rules, subst, ◌≡◌, ℕ}
use Rattle.std.specs.Prelude.{IfSome, Vec}
use Rattle.std.specs.declared.alloc.Global.{Global}
use Rattle.ws_frame.specs.Devices.{watched}
use Rattle.wst_clients.specs.ClientSends.{FindsFirst, IsFirstAt}
use Rattle.wst_clients.proofs.SendLemmas.{scripted, sent_there, stops_so, unscripted}
use Rattle.wst_clients.proofs.sending_to_client.script_first.Goals as goal

pub returns-in-Err-clause-why : goal.returns-in-Err-clause-why
returns-in-Err-clause-why g c = stops_so c.in-Err.why c.fault_of.result c.fault_of.ensures

pub returns-in_default-clause-scripts : goal.returns-in_default-clause-scripts
returns-in_default-clause-scripts g c =
    let faults = watched g.F.Write.contents c.args.faults.now c.first_accepted.new.faults in
    let none : c.in-Ok.first ≡ None = search rules in
    unscripted g.L.Listener.did g.P.Poller.time c.args.rules.now c.args.visitors.now c.first_accepted.new.visitors faults
    (subst (λ (f : Option (ℕ × Vec ℕ Global)). FindsFirst g.L.Listener.did g.P.Poller.time c.args.visitors.now
    c.first_accepted.new.visitors f faults) none c.in-Ok.ensures.accepted)

pub returns-clause-scripts : goal.returns-clause-scripts
returns-clause-scripts g c =
    let faults = watched g.F.Write.contents c.args.faults.now c.first_accepted.new.faults in
    scripted g.L.Listener.did g.P.Poller.time c.args.rules.now c.args.visitors.now c.script_at.new.visitors faults
    c.first_accepted.new.visitors (c.in-Some.at, c.in-Some.behind) c.in_ok-transcript.transcript
    (subst (λ (f : Option (ℕ × Vec ℕ Global)). FindsFirst g.L.Listener.did g.P.Poller.time c.args.visitors.now
    c.first_accepted.new.visitors f faults) c.in-Some.is c.in-Ok.ensures.accepted) c.in_ok-transcript.ensures.played

pub returns-clause-there : goal.returns-clause-there
returns-clause-there g c = sent_there g.L.Client.NonBlocking.did c.first_accepted.new.visitors c.in-Some.at
    c.in-Some.behind c.args.rules.now c.args.visitors.now.clients.known c.in_ok-transcript.transcript
    c.in-Ok.ensures.same.0
    (subst (λ (f : Option (ℕ × Vec ℕ Global)). IfSome f (λ first. IsFirstAt g.L.Client.NonBlocking.did
    c.first_accepted.new.visitors first.0 first.1)) c.in-Some.is c.in-Ok.ensures.there)
    c.in_ok-transcript.ensures.there
