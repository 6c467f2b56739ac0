-- A PASS is none, and of the others those that are a verdict.
use Rattle.std.proofs.Common.{◌≢◌, ◌∙◌, codes, sym}
use Rattle.std.proofs.lemmas.Bool.{false≢true}
use Rattle.ws_reports.specs.Verdicts.{IsVerdict}
use Rattle.ws_reports.proofs.Parts.{told_false}
use Rattle.ws_reports.proofs.behind_total.is_other_verdict.Goals as goal

pub returns-then-is_pass : goal.returns-then-is_pass
returns-then-is_pass c = told_false (IsVerdict c.args.words.now × (c.args.words.now ≢ codes "PASS"))
    (λ (is, other). other (c.is_pass.ensures.0 c.if-is_pass.true))

pub returns : goal.returns
returns c = (
  λ so. (c.is_verdict.ensures.0 so, λ e. false≢true (sym c.if-is_pass.false ∙ c.is_pass.ensures.1 e)),
  λ (is, other). c.is_verdict.ensures.1 is,
)
