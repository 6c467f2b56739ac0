-- A line that is none of the first three kinds is one of those behind a total, or stands nowhere beside cases.
use Rattle.std.proofs.Common.{inl, inr}
use Rattle.ws_reports.specs.KnownLines.{IsBesideCases}
use Rattle.ws_reports.proofs.BehindTotals.{last_beside}
use Rattle.ws_reports.proofs.Parts.{told_true}
use Rattle.ws_reports.proofs.known_line.is_beside_cases.Goals as goal

pub returns-then-is_total : goal.returns-then-is_total
returns-then-is_total c =
    told_true (IsBesideCases c.args.line.now) (inl (c.is_total.ensures.0 c.if-is_total.true))

pub returns-then-begins_with : goal.returns-then-begins_with
returns-then-begins_with c =
    told_true (IsBesideCases c.args.line.now) (inr (inl (c.begins_with.ensures.0 c.if-begins_with.true)))

pub returns-then-begins_with-2 : goal.returns-then-begins_with-2
returns-then-begins_with-2 c =
    told_true (IsBesideCases c.args.line.now) (inr (inr (inl (c.begins_with-2.ensures.0 c.if-begins_with-2.true))))

pub returns : goal.returns
returns c =
    last_beside c.args.line.now c.is_total.result c.begins_with.result c.begins_with-2.result c.is_behind_total.result
    c.is_total.ensures c.if-is_total.false c.begins_with.ensures c.if-begins_with.false c.begins_with-2.ensures
    c.if-begins_with-2.false c.is_behind_total.ensures
