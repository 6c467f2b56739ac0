-- A count ends at the first space.
use Rattle.std.proofs.Common.{◌∙◌, sym}
use Rattle.std.proofs.lemmas.Bool.{false≢true}
use Rattle.ws_reports.proofs.Parts.{count_parts, count_read, no_count}
use Rattle.ws_reports.proofs.known_line.behind_count.Goals as goal

pub returns-in_default : goal.returns-in_default
returns-in_default c = no_count c.args.line.now c.args.word.now c.in_default.ensures

pub returns-then-is_count : goal.returns-then-is_count
returns-then-is_count c =
    count_read c.args.line.now c.in-Some.count.now c.in-Some.rest.now c.args.word.now c.behind.result c.in-Some.ensures
    (c.is_count.ensures.0 c.if-is_count.true) c.behind.ensures

pub returns-else-is_count : goal.returns-else-is_count
returns-else-is_count c = λ back h. false≢true (sym c.if-is_count.false ∙ c.is_count.ensures.1
    (count_parts c.args.line.now c.in-Some.count.now c.in-Some.rest.now c.args.word.now back c.in-Some.ensures h).0)
