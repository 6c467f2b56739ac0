-- The next case has its line, if it was not run.
use Rattle.std.proofs.Common.{◌∙◌, arith, string_bytes}
use Rattle.wst_clients.proofs.ClientLemmas.{adds_step, counts_step}
use Rattle.wst_clients.proofs.testing_clients.not_run_lines.Goals as goal

pub loop-place-preserved : goal.loop-place-preserved
loop-place-preserved c =
    let given = c.args.rules.now in
    let at = c.loop-place in
    let case = c.index-cases-place.result in
    let behavior = c.behavior-behavior.result in
    let (pass, loose, fail, failures) = counts_step given.telling at.score c.add_if_not_run.new.score case behavior
    c.in_ok-add_if_not_run.ensures.counted in
    let fails = at.invariant.fail in
    let before = at.invariant.failures in record {
      added = adds_step given.telling given.cases.now c.args.standing.now.behaviors at.place case behavior c.args.score.now
          at.score c.add_if_not_run.new.score (string_bytes at.lines) (string_bytes c.add_if_not_run.new.lines)
          at.invariant.added c.requires.fits.0 c.loop-place-test.true c.index-cases-place.is
          c.behavior-behavior.ensures c.in_ok-add_if_not_run.ensures.lines c.in_ok-add_if_not_run.ensures.counted;
      pass = pass ∙ at.invariant.pass;
      loose = loose ∙ at.invariant.loose;
      fail = omega (arith, fail, fails);
      failures = omega (arith, failures, before);
    }
