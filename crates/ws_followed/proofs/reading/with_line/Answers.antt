-- A line of `=` is the last, another one is that of a segment, or none may stand there.
use Rattle.std.proofs.Common.{◌≡◌, ◌∙◌, true, false, sym}
use Rattle.ws_followed.specs.Followed.{IsRule}
use Rattle.ws_followed.proofs.ReadingSteps.{rule_taken, segment_refused, taken_with}
use Rattle.ws_followed.proofs.reading.with_line.Goals as goal

pub returns-then-is_rule : goal.returns-then-is_rule
returns-then-is_rule c = rule_taken c.args.segments c.args.line.now (c.is_rule.ensures.0 c.if-is_rule.true)

pub returns-in-Ok : goal.returns-in-Ok
returns-in-Ok c =
    let none : (IsRule c.args.line.now → ⊥) = λ rule.
    let wrong : false ≡ true = sym c.if-is_rule.false ∙ c.is_rule.ensures.1 rule in
    absurd cc in
    taken_with c.args.segments c.in-Ok.segment c.args.line.now none c.in-Ok.ensures c.with_segment.result
    c.with_segment.ensures.longer c.with_segment.ensures.memory

pub returns-in-Err : goal.returns-in-Err
returns-in-Err c = λ e value more told.
    let none : (IsRule c.args.line.now → ⊥) = λ rule.
    let wrong : false ≡ true = sym c.if-is_rule.false ∙ c.is_rule.ensures.1 rule in
    absurd cc in
    segment_refused c.args.segments c.args.line.now none (c.in-Err.ensures e) value more told
