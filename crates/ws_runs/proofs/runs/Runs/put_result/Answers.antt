-- The peer at the place is changed, and keeps its name.
use Rattle.std.proofs.Common.{rules, ◌≡◌, ◌∙◌, ℕ, ◌<◌, List, Some, ap, get_or, length, slice_set, subst, sym}
use Rattle.std.proofs.lemmas.List.{get_or_default}
use Rattle.ws_runs.specs.Names.{place_among}
use Rattle.ws_runs.specs.Runs.{PeerValue, RunsValue, new_peer, peer_names, peer_with_result, runs_with_peer}
use Rattle.ws_runs.specs.Views.{result_value, texts_now}
use Rattle.ws_runs.proofs.PutLemmas.{on_ok, put_there, set_key}
use Rattle.ws_runs.proofs.runs.Runs.put_result.Goals as goal

abbrev name_of : PeerValue → List ℕ
name_of peer = peer.name

pub invariant_of-self : goal.invariant_of-self
invariant_of-self c =
    let items = c.self.inside.peers.items in
    let place = c.args.place in
    let old = c.index_mut.result.now in
    let new = c.put_result.new.self in
    let at : old ≡ get_or items place old = search rules in
    let less : place < length items = search rules in
    let names : peer_names (slice_set items place new) ≡ peer_names items =
    set_key name_of items place new
    (c.put_result.ensures.name ∙ ap name_of (at ∙ get_or_default items place old new less)) in (
      λ name. c.self.invariant.0 name ∙ ap (λ (l : List (List ℕ)). place_among name l) (sym names),
      c.self.invariant.1,
    )

pub returns : goal.returns
returns c =
    let items = c.self.inside.peers.items in
    let ids = texts_now c.self.inside.ids.items in
    let place = c.args.place in
    let old = c.index_mut.result.now in
    let change = peer_with_result (result_value c.args.case) in
    let at : old ≡ get_or items place old = search rules in
    let seen : c.args.self.now ≡ record { peers = items; ids = ids } = search rules in
    on_ok c.put_result.result c.put_result.ensures.put (λ moved.
    λ name is.
    ap (λ (l : List PeerValue). record { peers = l; ids = ids })
    (ap (λ (p : PeerValue). slice_set items place p) (moved ∙ ap change at)
    ∙ put_there name_of name change (change (new_peer name)) items place old
    (ap (λ (r : RunsValue). place_among name (peer_names r.peers)) (sym seen) ∙ is))
    ∙ ap (runs_with_peer name change) (sym seen))
