-- It has the sooner of both, or gets it.
use Rattle.std.proofs.Common.{◌∙◌, ◌*◌, ◌+◌, Option, ℕ, Some, ap, slice_set, sym}
use Rattle.std.specs.List.{slice_get}
use Rattle.std.proofs.lemmas.Option.{same_Some}
use Rattle.ws_loops.proofs.LimitLemmas.{same_sooner}
use Rattle.ws_loops.proofs.PlaceLemmas.{set_same}
use Rattle.ws_loops.specs.Paces.{sooner}
use Rattle.ws_loops.proofs.limits.raise.Goals as goal

pub returns-then-is_same-clause-raised : goal.returns-then-is_same-clause-raised
returns-then-is_same-clause-raised c = λ one other one_is other_is.
    let items = c.args.tree.now.items in
    let node = c.args.node in
    let first = same_Some c.time_at-one.result one (sym (ap (λ l. slice_get l (2 * node)) (sym c.as_slice.ensures.value)
    ∙ c.time_at-one.ensures) ∙ one_is) in
    let second = same_Some c.time_at-other.result other (sym (ap (λ l. slice_get l (2 * node + 1))
    (sym c.as_slice-2.ensures.value) ∙ c.time_at-other.ensures) ∙ other_is) in
    sym (set_same items node (sooner one other) (ap (λ l. slice_get l node) (sym c.as_slice-3.ensures.value)
    ∙ (c.time_at-before.ensures ∙ ap (λ (o : Option ℕ). Some o) (c.is_same.ensures c.if-is_same.true
    ∙ (c.sooner-time.ensures ∙ same_sooner c.time_at-one.result c.time_at-other.result one other first second)))))

pub returns-clause-raised : goal.returns-clause-raised
returns-clause-raised c = λ one other one_is other_is.
    let items = c.args.tree.now.items in
    let node = c.args.node in
    let first = same_Some c.time_at-one.result one (sym (ap (λ l. slice_get l (2 * node)) (sym c.as_slice.ensures.value)
    ∙ c.time_at-one.ensures) ∙ one_is) in
    let second = same_Some c.time_at-other.result other (sym (ap (λ l. slice_get l (2 * node + 1))
    (sym c.as_slice-2.ensures.value) ∙ c.time_at-other.ensures) ∙ other_is) in
    ap (λ (o : Option ℕ). slice_set items node o) (c.sooner-time.ensures
    ∙ same_sooner c.time_at-one.result c.time_at-other.result one other first second)
