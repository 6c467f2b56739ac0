-- The evidence has no pings.
use Rattle.std.proofs.Common.{subst}
use Rattle.ws_suite.specs.declared.evidence.Evidence.{Evidence}
use Rattle.ws_suite.specs.Verdicts.{IsVerdictOn}
use Rattle.ws_suite.proofs.TellingLemmas.{no_pings}
use Rattle.ws_suite.proofs.judging.judge_by_echo.Goals as goal

pub returns : goal.returns
returns c =
    let shown = c.in_ok-shown in
    let evidence = shown.shown.evidence in
    let counted = c.with_doom-counted.result in
    let is_counted = c.with_doom-counted.ensures in
    record {
      evidence = evidence;
      is_evidence = shown.ensures.evidence;
      counted = counted;
      is_counted = is_counted;
      is_verdict = subst (λ (x : Evidence). IsVerdictOn c.args.tested x c.in_ok-verdict.verdict)
          (no_pings c.args.tested c.args.transcript.now evidence counted shown.ensures.evidence is_counted)
          c.in_ok-verdict.ensures;
    }
