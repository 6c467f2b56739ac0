-- Clients are served, and what was told of them was written.
use Rattle.std.proofs.Common.{◌≡◌, ◌∙◌, [], Bool, IsErrAnd, Result, ap, rules, subst, sym}
use Rattle.ws_frame.specs.Devices.{watched}
use Rattle.ws_frame.specs.Watching.{has_failed, inner_of}
use Rattle.ws_frame.specs.declared.watching.Watched.{Watched}
use Rattle.wst_commands.specs.declared.exit.Exit.{Exit}
use Rattle.wst_commands.specs.declared.fault.Fault.{Fault}
use Rattle.wst_commands.specs.declared.fault.Fault.TheVariants.{NoMemory}
use Rattle.wst_services.specs.Serve.{AsksNobody, GaveClients, IsServedOver, ServesClients, exit_as}
use Rattle.wst_services.specs.declared.served_lines.ServedLines.{ServedLines}
use Rattle.wst_services.proofs.ServedLemmas.{none_lacks, none_served, serves_names, serves_over}
use Rattle.wst_services.proofs.serving_clients.serve_over.Goals as goal

pub returns-then-asks_nobody : goal.returns-then-asks_nobody
returns-then-asks_nobody g c = none_served g.L.Client.NonBlocking.did g.L.Listener.did c.args.plan.now c.args.listener
    (g.W.Write.contents (inner_of c.args.writer.now)) (g.F.Write.contents (inner_of c.args.faults.now))
    (has_failed c.args.writer.now) (has_failed c.args.faults.now)
    (subst (λ (b : Bool). AsksNobody c.args.plan.now.count b) c.if-asks_nobody.true c.asks_nobody.ensures) c.requires.works

pub returns-in_err-end : goal.returns-in_err-end
returns-in_err-end g c =
    let is : IsErrAnd c.from_residual.result (λ fault. fault ≡ NoMemory) = search rules in
    let kept = c.in_err-end.ensures.kept in
    let writer_name = ap (λ (s : ServedLines g.row.W.Denot g.row.F.Denot). s.writer.ghost_name) kept
    ∙ c.new-lines.ensures.writer_borrow in
    let faults_name = ap (λ (s : ServedLines g.row.W.Denot g.row.F.Denot). s.faults.ghost_name) kept
    ∙ c.new-lines.ensures.faults_borrow in
    let writer_left : c.serve_clients.new.sink.writer.now ≡ c.writer-1.given.0 = search rules in
    let faults_left : c.serve_clients.new.sink.faults.now ≡ c.faults-1.given.0 = search rules in
    let writer = sym c.new-lines.ensures.writer
    ∙ (sym (ap (λ (s : ServedLines g.row.W.Denot g.row.F.Denot). s.writer.now) kept) ∙ writer_left) in
    let faults = sym c.new-lines.ensures.faults
    ∙ (sym (ap (λ (s : ServedLines g.row.W.Denot g.row.F.Denot). s.faults.now) kept) ∙ faults_left) in
    subst (λ (w : Watched g.row.W.Denot). ServesClients (GaveClients g.L.Listener.did c.args.listener)
    (IsServedOver g.L.Client.NonBlocking.did c.args.plan.now) c.args.plan.now [] c.from_residual.result
    (watched g.W.Write.contents c.args.writer.now w)
    (watched g.F.Write.contents c.args.faults.now c.faults-1.given.0)) writer
    (subst (λ (f : Watched g.row.F.Denot). ServesClients (GaveClients g.L.Listener.did c.args.listener)
    (IsServedOver g.L.Client.NonBlocking.did c.args.plan.now) c.args.plan.now [] c.from_residual.result
    (watched g.W.Write.contents c.args.writer.now c.args.writer.now)
    (watched g.F.Write.contents c.args.faults.now f)) faults
    (none_lacks g.L.Client.NonBlocking.did g.L.Listener.did c.args.plan.now c.args.listener c.from_residual.result
    (g.W.Write.contents (inner_of c.args.writer.now)) (g.F.Write.contents (inner_of c.args.faults.now))
    (has_failed c.args.writer.now) (has_failed c.args.faults.now) is
    (subst (λ (b : Bool). AsksNobody c.args.plan.now.count b) c.if-asks_nobody.false c.asks_nobody.ensures)
    c.requires.works))

pub returns : goal.returns
returns g c =
    let old = c.new-lines.result in
    let new = c.serve_clients.new.sink in
    let end = c.in_ok-end.end in
    let serves = c.in_ok-end.ensures.serves in
    let names = serves_names g.L.Client.NonBlocking.did g.L.Listener.did g.W.Write.contents g.F.Write.contents
    c.args.plan.now c.service_of-service.result c.service_of-service.ensures.is c.args.listener old new end serves in
    let writer_name = names.0 ∙ c.new-lines.ensures.writer_borrow in
    let faults_name = names.1 ∙ c.new-lines.ensures.faults_borrow in
    let writer_left : new.writer.now ≡ c.writer-1.given.0 = search rules in
    let faults_left : new.faults.now ≡ c.faults-1.given.0 = search rules in
    let works = ap (λ (w : Watched g.row.W.Denot). has_failed w) c.new-lines.ensures.writer ∙ c.requires.works in
    let told = serves_over g.L.Client.NonBlocking.did g.L.Listener.did g.W.Write.contents g.F.Write.contents
    c.args.plan.now c.service_of-service.result c.service_of-service.ensures.is c.args.listener old new end serves works
    in
    subst (λ (r : Result Exit Fault). ServesClients (GaveClients g.L.Listener.did c.args.listener)
    (IsServedOver g.L.Client.NonBlocking.did c.args.plan.now) c.args.plan.now [] r
    (watched g.W.Write.contents c.args.writer.now c.writer-1.given.0)
    (watched g.F.Write.contents c.args.faults.now c.faults-1.given.0)) (sym c.exit_of.ensures)
    (subst (λ (w : Watched g.row.W.Denot). ServesClients (GaveClients g.L.Listener.did c.args.listener)
    (IsServedOver g.L.Client.NonBlocking.did c.args.plan.now) c.args.plan.now [] (exit_as end)
    (watched g.W.Write.contents c.args.writer.now w)
    (watched g.F.Write.contents c.args.faults.now c.faults-1.given.0)) writer_left
    (subst (λ (w : Watched g.row.W.Denot). ServesClients (GaveClients g.L.Listener.did c.args.listener)
    (IsServedOver g.L.Client.NonBlocking.did c.args.plan.now) c.args.plan.now [] (exit_as end)
    (watched g.W.Write.contents w new.writer.now)
    (watched g.F.Write.contents c.args.faults.now c.faults-1.given.0)) c.new-lines.ensures.writer
    (subst (λ (f : Watched g.row.F.Denot). ServesClients (GaveClients g.L.Listener.did c.args.listener)
    (IsServedOver g.L.Client.NonBlocking.did c.args.plan.now) c.args.plan.now [] (exit_as end)
    (watched g.W.Write.contents old.writer.now new.writer.now)
    (watched g.F.Write.contents c.args.faults.now f)) faults_left
    (subst (λ (f : Watched g.row.F.Denot). ServesClients (GaveClients g.L.Listener.did c.args.listener)
    (IsServedOver g.L.Client.NonBlocking.did c.args.plan.now) c.args.plan.now [] (exit_as end)
    (watched g.W.Write.contents old.writer.now new.writer.now)
    (watched g.F.Write.contents f new.faults.now)) c.new-lines.ensures.faults told))))
