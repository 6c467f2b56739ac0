-- The scripts are run, and a sweeper is told of them.
use Rattle.std.proofs.Common.{◌≡◌, rules, subst, sym}
use Rattle.ws_frame.specs.Devices.{watched}
use Rattle.wst_testing.specs.Sweeps.{HasToldScripts, StopsAtScript}
use Rattle.wst_testing.proofs.SweepLemmas.{scripts_ended}
use Rattle.wst_testing.proofs.sweeping.run_scripts.Goals as goal

pub returns : goal.returns
returns g c =
    let new = c.run_each-ended.new.sink in
    let writer = c.writer-1.given.0 in
    let written : writer ≡ new.writer.now = search rules in
    scripts_ended (g.R.CaseRunner.meets c.args.runner.now c.args.rules.run.key) c.args.rules _ _ c.of-runs.result _ new
    c.run_each-ended.result new.count new.tally c.counted.result (watched g.W.Write.contents c.args.writer.now writer)
    (λ came next (kept, so). subst (λ w. HasToldScripts c.args.rules came new.count new.tally
    (watched g.W.Write.contents c.args.writer.now w)) (sym written) so)
    (λ came why stops. subst (λ w. StopsAtScript c.args.rules came new.count new.tally why
    (watched g.W.Write.contents c.args.writer.now w)) (sym written) stops) c.of-runs.ensures.by_rules
    c.run_each-ended.ensures.runs c.counted.ensures
