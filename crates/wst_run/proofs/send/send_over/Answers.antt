-- A script is run for its capture, or shown.
use Rattle.std.proofs.Common.{Bool, subst, sym}
use Rattle.ws_frame.specs.Devices.{watched}
use Rattle.wst_run.specs.Send.{MeetsAs, SendsCase}
use Rattle.wst_run.proofs.send.send_over.Goals as goal

pub returns-then-plan-clause-sends : goal.returns-then-plan-clause-sends
returns-then-plan-clause-sends g c =
    let plan = c.args.plan.now in
    subst (λ (b : Bool). SendsCase (MeetsAs b (g.S.CaseServer.meets c.args.server.now plan.run.key)
    (g.S.CaseServer.meets_shown c.args.server.now plan.run.key)) plan c.args.case.now c.send_captured.result
    (watched g.W.Write.contents c.args.writer.now c.send_captured.new.writer)
    (watched g.F.Write.contents c.args.faults.now c.send_captured.new.faults)) (sym c.if-plan.true)
    c.send_captured.ensures.sends

pub returns-else-plan-clause-sends : goal.returns-else-plan-clause-sends
returns-else-plan-clause-sends g c =
    let plan = c.args.plan.now in
    subst (λ (b : Bool). SendsCase (MeetsAs b (g.S.CaseServer.meets c.args.server.now plan.run.key)
    (g.S.CaseServer.meets_shown c.args.server.now plan.run.key)) plan c.args.case.now c.send_shown.result
    (watched g.W.Write.contents c.args.writer.now c.send_shown.new.writer)
    (watched g.F.Write.contents c.args.faults.now c.send_shown.new.faults)) (sym c.if-plan.false)
    c.send_shown.ensures.sends
