-- The case is run, and a capturer is told of it.
use Rattle.std.proofs.Common.{◌≡◌, ◌∷◌, [], rules, subst, sym}
use Rattle.ws_frame.specs.Devices.{watched}
use Rattle.wst_testing.specs.Capturer.{AwaitsCapture, EndsCapture}
use Rattle.wst_testing.proofs.CapturerLemmas.{capture_ended}
use Rattle.wst_testing.proofs.capturing.capture_case.Goals as goal

pub returns-clause-runs : goal.returns-clause-runs
returns-clause-runs g c =
    let Meets = g.S.CaseServer.meets c.args.server.now c.args.rules.key in
    let new = c.run_cases-ended.new.sink in
    let writer = c.writer-1.given.0 in
    let faults = c.faults-1.given.0 in
    let written : writer ≡ new.writer.now = search rules in
    let noted : faults ≡ new.faults.now = search rules in
    let one : c.of-listed.result.rest ≡ c.args.case.now ∷ [] = search rules in
    capture_ended Meets c.args.rules c.args.case.now _ _ c.of-listed.result _ new c.run_cases-ended.result new.exit c.captured.result
    (watched g.W.Write.contents c.args.writer.now writer) (watched g.F.Write.contents c.args.faults.now faults)
    one (λ came next (kept, so, still). subst (λ w. AwaitsCapture c.args.rules came next
    (watched g.W.Write.contents c.args.writer.now w) (watched g.F.Write.contents c.args.faults.now faults))
    (sym written) (subst (λ f. AwaitsCapture c.args.rules came next
    (watched g.W.Write.contents c.args.writer.now new.writer.now) (watched g.F.Write.contents c.args.faults.now f))
    (sym noted) so))
    (λ came why (ends, still). subst (λ w. EndsCapture c.args.rules came new.exit why
    (watched g.W.Write.contents c.args.writer.now w) (watched g.F.Write.contents c.args.faults.now faults))
    (sym written) (subst (λ f. EndsCapture c.args.rules came new.exit why
    (watched g.W.Write.contents c.args.writer.now new.writer.now) (watched g.F.Write.contents c.args.faults.now f))
    (sym noted) ends))
    c.run_cases-ended.ensures.runs c.captured.ensures
