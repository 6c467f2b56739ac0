-- Line after line is passed, as long as one ends.
use Rattle.std.proofs.Common.{◌≡◌, ◌∙◌, ap, rules, sym}
use Rattle.ws_runs.specs.NameLines.{from_line}
use Rattle.ws_runs.proofs.PassedLines.{next_lines, no_lines}
use Rattle.ws_runs.proofs.name_line.from_line.Goals as goal

pub loop-left-preserved : goal.loop-left-preserved
loop-left-preserved c =
    next_lines c.loop-left.left c.loop-left.rest.now _ _ c.loop-left-test.true c.in-Some.ensures.0 c.in-Some.ensures.1
    ∙ c.loop-left.invariant

pub returns-in_default : goal.returns-in_default
returns-in_default c =
    sym (no_lines c.loop-left.left c.loop-left.rest.now c.loop-left-test.true c.in_default.ensures)
    ∙ c.loop-left.invariant

pub returns : goal.returns
returns c =
    let none : c.loop-left.left ≡ 0 = search rules in
    sym (ap (λ n. from_line n c.loop-left.rest.now) none) ∙ c.loop-left.invariant
