-- Nobody has come.
use Rattle.ws_clients.proofs.ClientLemmas.{sound_new}
use Rattle.ws_clients.proofs.KindLemmas.{numbers_new, plays_nothing}
use Rattle.ws_clients.proofs.clients.new_inside.Goals as goal

pub returns-clause-whole : goal.returns-clause-whole
returns-clause-whole g c = sound_new g.M.Machine.agrees g.S.NonBlocking.did _ c.in_ok-all.all c.args.len
    c.in_ok-held.held.items c.requires c.in_ok-all.ensures.len c.in_ok-all.ensures.empty c.in_ok-held.ensures

pub returns-clause-counted : goal.returns-clause-counted
returns-clause-counted g c = numbers_new c.in_ok-all.all.places c.args.len c.in_ok-numbers.numbers.items
    c.in_ok-all.ensures.len c.in_ok-all.ensures.empty c.in_ok-numbers.ensures.len c.in_ok-numbers.ensures.none

pub returns-clause-plays : goal.returns-clause-plays
returns-clause-plays g c = plays_nothing c.in_ok-all.all.places c.in_ok-all.ensures.empty
