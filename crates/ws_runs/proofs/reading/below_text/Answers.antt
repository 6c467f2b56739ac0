-- The lines so far are below, and the next one is or isn't.
use Rattle.std.proofs.Common.{rules, ◌≡◌, ◌∙◌, ◌++◌, ◌∷◌, [], ℕ, List, codes}
use Rattle.ws_reports.specs.KnownLines.{StandsFirst}
use Rattle.ws_runs.proofs.ReadLemmas.{below_ends, below_goes_on, below_stops}
use Rattle.ws_runs.proofs.reading.below_text.Goals as goal

pub returns-then-not-starts_with : goal.returns-then-not-starts_with
returns-then-not-starts_with c = λ lines are.
    let i = c.loop-line.invariant in
    let apart : StandsFirst (codes " ") c.in-Some.line.now → ⊥ = search rules in
    c.front_before.ensures i.0 i.1.0
    ∙ below_stops i.0 c.loop-line.rest.now c.args.text.now c.in-Some.line.now c.in-Some.after.now c.in-Some.ensures.0
    c.in-Some.ensures.1 apart i.1 lines are

pub loop-line-preserved : goal.loop-line-preserved
loop-line-preserved c =
    let i = c.loop-line.invariant in
    let first : StandsFirst (codes " ") c.in-Some.line.now = search rules in (
      i.0 ++ (c.in-Some.line.now ++ 10 ∷ []),
      below_goes_on i.0 c.loop-line.rest.now c.args.text.now c.in-Some.line.now c.in-Some.after.now
          c.in-Some.ensures.0 c.in-Some.ensures.1 first i.1,
    )

pub returns : goal.returns
returns c = λ lines are.
    let i = c.loop-line.invariant in
    c.front_before-2.ensures i.0 i.1.0
    ∙ below_ends i.0 c.loop-line.rest.now c.args.text.now c.in_default.ensures i.1 lines are
