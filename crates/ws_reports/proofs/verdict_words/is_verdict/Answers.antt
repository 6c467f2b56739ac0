-- The words are one of four kinds, or no verdict.
use Rattle.std.proofs.Common.{inl, inr}
use Rattle.ws_reports.specs.Verdicts.{IsVerdict}
use Rattle.ws_reports.proofs.Parts.{bare_told, last_told, told_true}
use Rattle.ws_reports.proofs.verdict_words.is_verdict.Goals as goal

pub returns-then-is_bare : goal.returns-then-is_bare
returns-then-is_bare c = told_true (IsVerdict c.args.words.now)
    (bare_told c.args.words.now (c.is_bare.ensures.0 c.if-is_bare.true))

pub returns-then-is_named_loose : goal.returns-then-is_named_loose
returns-then-is_named_loose c = told_true (IsVerdict c.args.words.now)
    (inr (inr (inl (c.is_named_loose.ensures.0 c.if-is_named_loose.true))))

pub returns-then-is_plain_fail : goal.returns-then-is_plain_fail
returns-then-is_plain_fail c = told_true (IsVerdict c.args.words.now)
    (inr (inr (inr (inl (c.is_plain_fail.ensures.0 c.if-is_plain_fail.true)))))

pub returns : goal.returns
returns c = last_told c.args.words.now c.is_bare.result c.is_named_loose.result c.is_plain_fail.result
    c.is_head_fail.result c.is_bare.ensures c.if-is_bare.false c.is_named_loose.ensures c.if-is_named_loose.false
    c.is_plain_fail.ensures c.if-is_plain_fail.false c.is_head_fail.ensures
