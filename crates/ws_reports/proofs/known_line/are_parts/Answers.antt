-- All three are right, or one isn't.
use Rattle.std.proofs.Common.{◌∙◌, ◌≤◌, length, rules, sym}
use Rattle.std.proofs.lemmas.Bool.{false≢true}
use Rattle.ws_reports.specs.Cutting.{AreParts}
use Rattle.ws_reports.proofs.Parts.{parts_told, told_false}
use Rattle.ws_reports.proofs.known_line.are_parts.Goals as goal

pub returns-then-is_verdict : goal.returns-then-is_verdict
returns-then-is_verdict c =
    let some : 1 ≤ length c.args.id.now = search rules in
    parts_told c.args.id.now c.args.words.now c.args.remark.now c.is_remark.result some
    (c.is_verdict.ensures.0 c.if-is_verdict.true) c.is_remark.ensures

pub returns : goal.returns
returns c = told_false (AreParts c.args.id.now c.args.words.now c.args.remark.now)
    (λ p. false≢true (sym c.if-is_verdict.false ∙ c.is_verdict.ensures.1 p.1))
