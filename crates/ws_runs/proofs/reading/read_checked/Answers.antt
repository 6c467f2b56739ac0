-- Each line means something, and what is left decides what all lines say.
use Rattle.std.proofs.Common.{rules, ◌≡◌, ◌∙◌, ℕ, List, ap}
use Rattle.ws_runs.specs.RunLines.{AreRunLines, IsRunLine}
use Rattle.ws_runs.specs.RunLines.{RunLine as Meaning}
use Rattle.ws_runs.specs.Runs.{ReadingValue}
use Rattle.ws_runs.specs.Views.{line_value}
use Rattle.ws_runs.proofs.ReadLemmas.{decided, decides_next, first_of}
use Rattle.ws_runs.proofs.reading.read_checked.Goals as goal

pub unreachable-requires : goal.unreachable-requires
unreachable-requires c =
    let i = c.loop-line.invariant in
    let none : (meaning : Meaning) → IsRunLine meaning c.in-Some.line.now → ⊥ = search rules in
    let first = first_of i.0.0 c.loop-line.rest.now c.in-Some.line.now c.in-Some.after.now i.0.1 c.in-Some.ensures.0
    c.in-Some.ensures.1 in
    none first.0 first.3

pub loop-line-preserved : goal.loop-line-preserved
loop-line-preserved c =
    let i = c.loop-line.invariant in
    let first = first_of i.0.0 c.loop-line.rest.now c.in-Some.line.now c.in-Some.after.now i.0.1 c.in-Some.ensures.0
    c.in-Some.ensures.1 in (
      (first.1, first.4),
      decides_next c.loop-line.reading c.in_ok-reading.reading (line_value c.in-Some-read_line.read)
          c.loop-line.rest.now c.args.text.now c.in-Some.line.now c.in-Some.after.now c.in-Some.ensures.0
          c.in-Some.ensures.1 c.in-Some-read_line.ensures c.in_ok-reading.ensures i.1,
    )

pub returns : goal.returns
returns c =
    let i = c.loop-line.invariant in
    let whole = decided c.loop-line.reading i.0.0 c.loop-line.rest.now c.args.text.now i.0.1 c.in_default.ensures i.1 in
    (whole.0, whole.1, ap (λ (reading : ReadingValue). reading.runs) c.reading.view_is ∙ whole.2)
