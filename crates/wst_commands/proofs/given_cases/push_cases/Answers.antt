-- The case of the next id stands behind those of the ids before it.
use Rattle.std.proofs.Common.{◌≢◌, ◌∙◌, ap, Bool, ℕ, List, [], slice_index_or, subst, take, take_all}
use Rattle.std.specs.Borrow.{Bor}
use Rattle.std.specs.List.{All, Contains}
use Rattle.ws_scripts.specs.CaseNames.{case_names}
use Rattle.wst_commands.specs.GivenCases.{AreCasesOf, GrowsByCase, NameCases, names_of}
use Rattle.wst_commands.proofs.CaseLemmas.{next_id, next_named, none_named, one_unnamed, some_named}
use Rattle.wst_commands.proofs.given_cases.push_cases.Goals as goal

pub loop-id-preserved : goal.loop-id-preserved
loop-id-preserved c =
    let (named, (more, are, is)) = c.loop-id.invariant in
    let none : Bor (List ℕ) = record { ref_ptr = (0, 0); now = [] } in
    let ids = c.as_slice-ids.result.now in
    let i = c.loop-id.id-index in
    let id = slice_index_or ids i none in
    let old = c.loop-id.cases.items in
    let new = c.push_case.new.cases.items in
    let grown = subst (λ (b : Bool). GrowsByCase id.now b old new) c.if-not-there.false c.in_ok-there.ensures in (
      next_named ids i none c.loop-id-test.true named grown.0,
      next_id ids i none c.args.cases.now.items old more new c.loop-id-test.true are is grown,
    )

pub returns-then-not-there : goal.returns-then-not-there
returns-then-not-there c =
    let none : Bor (List ℕ) = record { ref_ptr = (0, 0); now = [] } in
    let ids = c.as_slice-ids.result.now in
    let i = c.loop-id.id-index in
    let id = slice_index_or ids i none in
    let old = c.loop-id.cases.items in
    let new = c.push_case.new.cases.items in
    let other = subst (λ (b : Bool). GrowsByCase id.now b old new) c.if-not-there.true c.in_ok-there.ensures in
    let all = ap (λ (l : List (Bor (List ℕ))). names_of l) c.as_slice-ids.ensures.value ∙ c.in_ok-found.ensures in
    subst (λ (l : List (List ℕ)). NameCases l → ⊥) all (one_unnamed ids i none c.loop-id-test.true other)

pub returns-then-is_empty : goal.returns-then-is_empty
returns-then-is_empty c =
    subst (λ (l : List (List ℕ)). NameCases l → ⊥)
    (ap (λ (l : List (Bor (List ℕ))). names_of l) c.as_slice-ids.ensures.value ∙ c.in_ok-found.ensures)
    (none_named c.as_slice-ids.result.now c.is_empty.result c.is_empty.ensures c.if-is_empty.true)

pub returns : goal.returns
returns c =
    let (named, (more, are, is)) = c.loop-id.invariant in
    let ids = c.as_slice-ids.result.now in
    let whole = ap (λ (l : List (Bor (List ℕ))). names_of l)
    (take_all c.loop-id.id-index ids c.loop-id-test.false ∙ c.as_slice-ids.ensures.value) ∙ c.in_ok-found.ensures in
    let some = some_named c.as_slice-ids.result.now c.is_empty.result c.is_empty.ensures c.if-is_empty.false in (
      record {
        some = subst (λ (l : List (List ℕ)). l ≢ [])
            (ap (λ (l : List (Bor (List ℕ))). names_of l) c.as_slice-ids.ensures.value ∙ c.in_ok-found.ensures) some;
        named = subst (λ (l : List (List ℕ)). All (Contains case_names) l) whole named;
      },
      (more, subst (λ (l : List (List ℕ)). AreCasesOf l more) whole are, is),
    )
