-- All scripts were run, or enough, and the total could not be written.
use Rattle.std.proofs.Common.{◌≡◌, ◌∙◌, ◌||◌, Bool, true, IsErrAnd, ap, rules}
use Rattle.ws_frame.specs.Devices.{watched}
use Rattle.ws_frame.specs.Watching.{has_failed, inner_of}
use Rattle.wst_testing.specs.declared.runner.RunStop.TheVariants as stop
use Rattle.wst_testing.proofs.SweepLemmas.{sweep_stops, total_fails}
use Rattle.wst_testing.proofs.sweeping.sweep_scripts.Goals as goal

pub returns-in_err-write_whole : goal.returns-in_err-write_whole
returns-in_err-write_whole g c =
    let Meets = g.R.CaseRunner.meets c.args.runner.now c.args.rules.run.key in
    let given = c.args.rules in
    let count = c.in_ok-count.count in
    let tally = c.in_ok-count.tally in
    let all = c.in_ok-count.ensures.0 in
    let is = c.as_bytes.ensures.value ∙ c.in_ok-total.ensures in
    let fails : has_failed c.write_whole.new.writer ≡ true =
    c.in_err-write_whole.ensures.failed ∙ ap (λ (b : Bool). b || true) c.in_ok-count.ensures.1 in
    let stopped : IsErrAnd c.from_residual-in_err-write_whole.result (λ why. why ≡ stop.Output) = search rules in
    sweep_stops Meets given stop.Output c.from_residual-in_err-write_whole.result
    (watched g.W.Write.contents c.args.writer.now c.write_whole.new.writer)
    (total_fails Meets given count tally c.as_bytes.result.now (g.W.Write.contents (inner_of c.args.writer.now))
    (g.W.Write.contents (inner_of c.run_scripts.new.writer)) (g.W.Write.contents (inner_of c.write_whole.new.writer))
    (has_failed c.run_scripts.new.writer) (has_failed c.write_whole.new.writer) all is fails
    c.in_err-write_whole.ensures.begun) stopped
