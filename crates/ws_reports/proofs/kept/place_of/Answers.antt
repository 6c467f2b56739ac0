-- The first that is of the case is looked for.
use Rattle.std.proofs.Common.{◌≡◌, ◌∙◌, ℕ, List, false, true, ap, rules}
use Rattle.std.specs.Str.{bytes_eq}
use Rattle.ws_reports.proofs.KeptLemmas.{goes_here, goes_last, goes_on}
use Rattle.ws_reports.proofs.kept.place_of.Goals as goal

pub loop-place-preserved : goal.loop-place-preserved
loop-place-preserved c = λ verdict of.
    let first = c.index-kept-place.result in
    let other : bytes_eq first.id c.args.id.now ≡ false = search rules in
    goes_on c.args.kept.now c.loop-place.place first verdict (search rules) c.index-kept-place.is
    (ap (λ (n : List ℕ). bytes_eq first.id n) of ∙ other) (c.loop-place.invariant verdict of)

pub returns-then-eq : goal.returns-then-eq
returns-then-eq c =
    let first = c.index-kept-place.result in
    let same : bytes_eq first.id c.args.id.now ≡ true = search rules in (
      search rules,
      λ verdict of. goes_here c.args.kept.now c.loop-place.place first verdict (search rules) c.index-kept-place.is
          (ap (λ (n : List ℕ). bytes_eq first.id n) of ∙ same) (c.loop-place.invariant verdict of),
    )

pub returns : goal.returns
returns c = λ verdict of. goes_last c.args.kept.now c.loop-place.place verdict (search rules) (c.loop-place.invariant verdict of)
