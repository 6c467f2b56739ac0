-- One verdict stands in the brackets.
use Rattle.std.proofs.Common.{subst}
use Rattle.ws_reports.specs.Verdicts.{IsVerdict}
use Rattle.ws_reports.proofs.Parts.{one_was}
use Rattle.ws_reports.proofs.known_line.is_was.Goals as goal

pub returns-in-Some : goal.returns-in-Some
returns-in-Some c = (
  λ is. (c.in-Some.words.now, c.is_verdict.ensures.0 is, c.in-Some.ensures),
  λ (words, is, e). c.is_verdict.ensures.1 (subst IsVerdict
      (one_was c.args.remark.now words c.in-Some.words.now e c.in-Some.ensures) is),
)
