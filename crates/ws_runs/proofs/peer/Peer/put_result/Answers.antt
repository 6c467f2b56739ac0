-- The result takes the place of the one of its case, or comes last.
use Rattle.std.proofs.Common.{rules, ◌≡◌, ◌∙◌, ℕ, ◌<◌, true, List, Some, ap, length, map, slice_set, subst, sym}
use Rattle.std.proofs.lemmas.List.{length-map, map-set}
use Rattle.std.proofs.lemmas.Slice.Eq.{bytes_eq-Decides}
use Rattle.std.specs.Str.{bytes_eq}
use Rattle.ws_runs.specs.Names.{place_among}
use Rattle.ws_runs.specs.Runs.{PeerValue, ResultValue, case_ids, peer_with_result, with_result}
use Rattle.ws_runs.specs.Views.{result_value, result_values, texts_now}
use Rattle.ws_runs.proofs.PutLemmas.{keys_stay, place_within, put_last, put_there}
use Rattle.ws_runs.proofs.peer.Peer.put_result.Goals as goal

abbrev id_of : ResultValue → List ℕ
id_of result = result.id

pub index_mut-requires : goal.index_mut-requires
index_mut-requires c =
    let items = c.self.inside.cells.items in
    let place = c.in-Some.place in
    let found : c.place_of.result ≡ Some place = search rules in
    let less : place < length items = subst (λ (n : ℕ). place < n) (length-map items result_value)
    (place_within id_of c.args.case.id.now (result_values items) place
    (sym (c.place_of.ensures (case_ids (result_values items)) c.self.invariant) ∙ found)) in
    search (rules, less)

pub invariant_of-self : goal.invariant_of-self
invariant_of-self c =
    let items = c.self.inside.cells.items in
    let place = c.in-Some.place in
    let id = c.args.case.id.now in
    let put = result_value c.args.case in
    let found : c.place_of.result ≡ Some place = search rules in
    let there = sym (c.place_of.ensures (case_ids (result_values items)) c.self.invariant) ∙ found in
    let put_in : result_values (slice_set items place c.args.case) ≡ with_result (result_values items) put =
    map-set result_value items place c.args.case ∙ put_there id_of id (λ cell. put) put (result_values items) place put there in
    let ids : case_ids (result_values (slice_set items place c.args.case)) ≡ case_ids (result_values items) =
    ap case_ids put_in
    ∙ keys_stay id_of id (λ cell. put) put (λ cell same. sym ((bytes_eq-Decides cell.id id).0 same))
    (result_values items) place there in
    λ name. c.self.invariant name ∙ ap (λ (l : List (List ℕ)). place_among name l) (sym ids)

pub returns-in-Some-clause-put : goal.returns-in-Some-clause-put
returns-in-Some-clause-put c =
    let inside = c.self.inside in
    let items = inside.cells.items in
    let place = c.in-Some.place in
    let id = c.args.case.id.now in
    let put = result_value c.args.case in
    let found : c.place_of.result ≡ Some place = search rules in
    let there = sym (c.place_of.ensures (case_ids (result_values items)) c.self.invariant) ∙ found in
    let put_in : result_values (slice_set items place c.args.case) ≡ with_result (result_values items) put =
    map-set result_value items place c.args.case ∙ put_there id_of id (λ cell. put) put (result_values items) place put there in
    let seen : c.args.self.now ≡ record {
      name = inside.name.now;
      notes = texts_now inside.notes.items;
      is_cut_off = inside.is_cut_off;
      cells = result_values items;
    } = search rules in
    ap (λ (l : List ResultValue). record {
      name = inside.name.now;
      notes = texts_now inside.notes.items;
      is_cut_off = true;
      cells = l;
    }) put_in ∙ ap (peer_with_result put) (sym seen)

pub returns-in_ok-push_result-in-None-clause-put : goal.returns-in_ok-push_result-in-None-clause-put
returns-in_ok-push_result-in-None-clause-put c =
    let inside = c.self.inside in
    let items = inside.cells.items in
    let id = c.args.case.id.now in
    let put = result_value c.args.case in
    let none = sym (c.place_of.ensures (case_ids (result_values items)) c.self.invariant) ∙ c.in-None.is in
    let seen : c.args.self.now ≡ record {
      name = inside.name.now;
      notes = texts_now inside.notes.items;
      is_cut_off = inside.is_cut_off;
      cells = result_values items;
    } = search rules in
    c.in_ok-push_result-in-None.ensures.put
    ∙ ap (λ (l : List ResultValue). record {
      name = inside.name.now;
      notes = texts_now inside.notes.items;
      is_cut_off = true;
      cells = l;
    }) (put_last id_of id (λ cell. put) put (result_values items) none) ∙ ap (peer_with_result put) (sym seen)
