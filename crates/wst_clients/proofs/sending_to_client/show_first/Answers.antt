-- The script is run over the first whose request is accepted, and its lines are written.
use Rattle.std.proofs.Common.{None, Option, rules, subst, ◌≡◌, ℕ}
use Rattle.std.specs.Prelude.{IfSome, Vec}
use Rattle.std.specs.declared.alloc.Global.{Global}
use Rattle.ws_frame.specs.Devices.{watched}
use Rattle.ws_lines.specs.declared.transcript_lines.Showing.{Showing}
use Rattle.wst_testing.specs.LineWriting.{HasWrittenRun}
use Rattle.wst_clients.specs.ClientSends.{FindsFirst, IsFirstAt}
use Rattle.wst_clients.proofs.SendLemmas.{scripted, sent_there, unscripted}
use Rattle.wst_clients.proofs.sending_to_client.show_first.Goals as goal

pub returns-in_default-clause-scripts : goal.returns-in_default-clause-scripts
returns-in_default-clause-scripts g c =
    let faults = watched g.F.Write.contents c.args.faults.now c.first_accepted.new.faults in
    let none : c.in-Ok.first ≡ None = search rules in
    unscripted g.L.Listener.did g.P.Poller.time c.args.rules.now c.args.visitors.now c.first_accepted.new.visitors faults
    (subst (λ (f : Option (ℕ × Vec ℕ Global)). FindsFirst g.L.Listener.did g.P.Poller.time c.args.visitors.now
    c.first_accepted.new.visitors f faults) none c.in-Ok.ensures.accepted)

pub returns-clause-scripts : goal.returns-clause-scripts
returns-clause-scripts g c =
    let faults = watched g.F.Write.contents c.args.faults.now c.first_accepted.new.faults in
    scripted g.L.Listener.did g.P.Poller.time c.args.rules.now c.args.visitors.now c.show_alone.new.visitors faults
    c.first_accepted.new.visitors (c.in-Some.at, c.in-Some.behind) c.in_ok-transcript.transcript
    (subst (λ (f : Option (ℕ × Vec ℕ Global)). FindsFirst g.L.Listener.did g.P.Poller.time c.args.visitors.now
    c.first_accepted.new.visitors f faults) c.in-Some.is c.in-Ok.ensures.accepted)
    (c.in_ok-run.run'.tester.run, c.in_ok-run.ensures.begins, c.in_ok-transcript.ensures.runs)

pub returns-clause-shown : goal.returns-clause-shown
returns-clause-shown g c = subst (λ (s : Showing). HasWrittenRun s c.in_ok-transcript.transcript
    (watched g.W.Write.contents c.args.writer.now c.show_alone.new.writer)) c.in_ok-run.ensures.showing
    c.in_ok-transcript.ensures.shown

pub returns-clause-there : goal.returns-clause-there
returns-clause-there g c = sent_there g.L.Client.NonBlocking.did c.first_accepted.new.visitors c.in-Some.at
    c.in-Some.behind c.args.rules.now c.args.visitors.now.clients.known c.in_ok-transcript.transcript
    c.in-Ok.ensures.same.0
    (subst (λ (f : Option (ℕ × Vec ℕ Global)). IfSome f (λ first. IsFirstAt g.L.Client.NonBlocking.did
    c.first_accepted.new.visitors first.0 first.1)) c.in-Some.is c.in-Ok.ensures.there)
    (c.in_ok-run.run'.tester.run, c.in_ok-run.ensures.begins, c.in_ok-transcript.ensures.there)
