-- The peer is there already, or comes last.
use Rattle.std.proofs.Common.{rules, ◌≡◌, ◌∙◌, ◌++◌, ◌∷◌, [], ℕ, List, Some, None, Result, Ok, Err, IfOk, OnOk, ap, length, refl, sym}
use Rattle.std.proofs.lemmas.Slice.Eq.{bytes_eq-Decides}
use Rattle.ws_base.specs.declared.memory.NoMemory.{NoMemory}
use Rattle.ws_runs.specs.Names.{place_among}
use Rattle.ws_runs.specs.Runs.{PeerValue, RunsValue, new_peer, peer_names, runs_with_peer}
use Rattle.ws_runs.specs.Views.{runs_with_new, texts_now}
use Rattle.ws_runs.proofs.PutLemmas.{on_ok, place_last, put_last, put_same}
use Rattle.ws_runs.proofs.runs.Runs.place_for.Goals as goal

abbrev name_of : PeerValue → List ℕ
name_of peer = peer.name

placed : (name : List ℕ) (old new : RunsValue) (result : Result ℕ NoMemory)
    → IfOk result (λ place. place ≡ length old.peers) → OnOk result (new ≡ runs_with_new (new_peer name) old)
    → place_among name (peer_names old.peers) ≡ None
    → IfOk result (λ place. place_among name (peer_names new.peers) ≡ Some place)
placed name old new (Ok place) is put none =
    ap (λ (r : RunsValue). place_among name (peer_names r.peers)) put
    ∙ place_last name_of name (new_peer name) ((bytes_eq-Decides name name).1 refl) old.peers none
    ∙ ap (λ (n : ℕ). Some n) (sym is)
placed name old new (Err e) is put none = tt

pub returns-in-Some-clause-put : goal.returns-in-Some-clause-put
returns-in-Some-clause-put c =
    let peers = c.self.inside.peers.items in
    let ids = texts_now c.self.inside.ids.items in
    let name = c.args.name.now in
    let seen : c.args.self.now ≡ record { peers = peers; ids = ids } = search rules in
    let found : c.place_of.result ≡ Some c.in-Some.place = search rules in
    let asked : c.place_of.result ≡ place_among name (peer_names peers) = search rules in
    seen
    ∙ ap (λ (l : List PeerValue). record { peers = l; ids = ids })
    (sym (put_same name_of name (new_peer name) peers c.in-Some.place (sym asked ∙ found)))
    ∙ ap (runs_with_peer name (λ peer. peer)) (sym seen)

pub returns-in-None-clause-there : goal.returns-in-None-clause-there
returns-in-None-clause-there c =
    let peers = c.self.inside.peers.items in
    let name = c.args.name.now in
    let asked : c.place_of.result ≡ place_among name (peer_names peers) = search rules in
    let seen : c.args.self.now ≡ record { peers = peers; ids = texts_now c.self.inside.ids.items } = search rules in
    placed name c.args.self.now c.push_peer.new.self c.push_peer.result c.push_peer.ensures.place
    c.push_peer.ensures.put
    (ap (λ (r : RunsValue). place_among name (peer_names r.peers)) seen ∙ sym asked ∙ c.in-None.is)

pub returns-in-None-clause-put : goal.returns-in-None-clause-put
returns-in-None-clause-put c =
    let peers = c.self.inside.peers.items in
    let ids = texts_now c.self.inside.ids.items in
    let name = c.args.name.now in
    let asked : c.place_of.result ≡ place_among name (peer_names peers) = search rules in
    let seen : c.args.self.now ≡ record { peers = peers; ids = ids } = search rules in
    on_ok c.push_peer.result c.push_peer.ensures.put (λ put.
    put ∙ ap (runs_with_new (new_peer name)) seen
    ∙ ap (λ (l : List PeerValue). record { peers = l; ids = ids })
    (put_last name_of name (λ peer. peer) (new_peer name) peers (sym asked ∙ c.in-None.is))
    ∙ ap (runs_with_peer name (λ peer. peer)) (sym seen))
