-- The addresses of the name were tried, or it has none.
use Rattle.ws_networks.specs.Listening.{CannotListen, HasAddedSome, Listens, NoneBound, OneBound}
use Rattle.ws_networks.specs.declared.listening.Unheard.{Unheard}
use Rattle.ws_networks.proofs.ListenLemmas.{listens_so, match_so, nameless_so, refused_so}
use Rattle.ws_networks.proofs.listening.listen.Goals as goal

pub returns-in-Ok-clause-listens : goal.returns-in-Ok-clause-listens
returns-in-Ok-clause-listens g c =
    let did = g.N.Network.did in
    let old = c.args.network.now in
    let mid = c.look_up.new.self in
    let new = c.listen_at.new.network in
    let name = c.args.name.now in
    let items = c.in-Ok.addresses.items in
    let slice = c.as_slice.result.now in
    match_so (λ (l : g.row.N-Listener.Denot). HasAddedSome did mid new (OneBound slice))
    (λ (l : g.row.N-Listener.Denot). HasAddedSome did old new (Listens name))
    (λ (why : Unheard g.row.N-Miss.Denot). HasAddedSome did mid new (NoneBound slice why))
    (λ (why : Unheard g.row.N-Miss.Denot). HasAddedSome did old new (CannotListen name why))
    (λ l h. listens_so did old mid new name items slice c.as_slice.ensures.value c.in-Ok.ensures.did h)
    (λ why h. refused_so did old mid new name items slice why c.as_slice.ensures.value c.in-Ok.ensures.did h)
    c.listen_at.result c.listen_at.ensures.tried

pub returns-in-Err-clause-listens : goal.returns-in-Err-clause-listens
returns-in-Err-clause-listens g c = nameless_so g.N.Network.did c.args.network.now c.look_up.new.self c.args.name.now
    c.in-Err.why c.in-Err.ensures.did
