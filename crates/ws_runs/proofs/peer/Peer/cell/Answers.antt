-- What stands at the place of the case is what counts of it.
use Rattle.std.proofs.Common.{rules, ◌≡◌, ◌∙◌, ℕ, ◌<◌, List, None, Option, Some, ap, get_or, length, subst, sym}
use Rattle.std.proofs.lemmas.List.{get_or-map, length-map}
use Rattle.ws_runs.specs.Names.{place_among}
use Rattle.ws_runs.specs.Runs.{ResultValue, case_ids, cell_of}
use Rattle.ws_runs.specs.Views.{cell_value, result_value, result_values}
use Rattle.ws_runs.specs.declared.result.CaseResult.{CaseResult}
use Rattle.ws_runs.proofs.PutLemmas.{found_none, found_there, place_within}
use Rattle.ws_runs.proofs.peer.Peer.cell.Goals as goal

abbrev id_of : ResultValue → List ℕ
id_of result = result.id

pub returns-in_err-place : goal.returns-in_err-place
returns-in_err-place c =
    let items = c.self.inside.cells.items in
    let id = c.args.id.now in
    let cells : c.args.self.now.cells ≡ result_values items = search rules in
    let none : c.place_of.result ≡ None = search rules in
    let is : c.from_residual.result ≡ None = search rules in
    ap cell_value is
    ∙ sym (ap (λ (l : List ResultValue). cell_of l id) cells
    ∙ found_none id_of id (result_values items)
    (sym (c.place_of.ensures (case_ids (result_values items)) c.self.invariant) ∙ none))

pub index-requires : goal.index-requires
index-requires c =
    let items = c.self.inside.cells.items in
    let place = c.in_ok-place.place in
    let found : c.place_of.result ≡ Some place = search rules in
    let less : place < length items = subst (λ (n : ℕ). place < n) (length-map items result_value)
    (place_within id_of c.args.id.now (result_values items) place
    (sym (c.place_of.ensures (case_ids (result_values items)) c.self.invariant) ∙ found)) in
    search (rules, less)

pub returns : goal.returns
returns c =
    let items = c.self.inside.cells.items in
    let id = c.args.id.now in
    let place = c.in_ok-place.place in
    let item = c.index.result.now in
    let cells : c.args.self.now.cells ≡ result_values items = search rules in
    let found : c.place_of.result ≡ Some place = search rules in
    let at : item ≡ get_or items place item = search rules in
    let there = sym (c.place_of.ensures (case_ids (result_values items)) c.self.invariant) ∙ found in
    let less = subst (λ (n : ℕ). place < n) (length-map items result_value)
    (place_within id_of id (result_values items) place there) in
    ap (λ (y : CaseResult). Some (result_value y)) at
    ∙ ap (λ (y : ResultValue). Some y) (sym (get_or-map result_value items place item (result_value item) less))
    ∙ sym (found_there id_of id (result_values items) place (result_value item) there)
    ∙ sym (ap (λ (l : List ResultValue). cell_of l id) cells)
