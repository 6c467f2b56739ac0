-- One name stands behind the front.
use Rattle.std.proofs.Common.{◌∙◌, subst, sym}
use Rattle.ws_reports.specs.Verdicts.{IsRuleName}
use Rattle.ws_reports.proofs.Cuts.{same_rest}
use Rattle.ws_reports.proofs.verdict_words.has_rule.Goals as goal

pub returns-in-Some : goal.returns-in-Some
returns-in-Some c = (
  λ is. (c.in-Some.name.now, c.is_rule_name.ensures.0 is, c.in-Some.ensures),
  λ (name, is, e). c.is_rule_name.ensures.1 (subst IsRuleName
      (same_rest c.args.front.now name c.in-Some.name.now (sym e ∙ c.in-Some.ensures)) is),
)
