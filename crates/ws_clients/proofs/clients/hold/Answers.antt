-- The place is kept for the client, and its stream is held beside it.
use Rattle.std.proofs.Common.{arith}
use Rattle.std.proofs.lemmas.Option.{slice_get_within}
use Rattle.ws_loops.specs.declared.places.Place.TheVariants.{Empty}
use Rattle.ws_clients.proofs.ClientLemmas.{awaits_at, holds_set, keeps_set, none_waits, sound_hold, stay_set}
use Rattle.ws_clients.proofs.KindLemmas.{numbers_put, only_set}
use Rattle.ws_clients.proofs.ServedLemmas.{rest_set}
use Rattle.ws_clients.proofs.clients.hold.Goals as goal

pub returns-clause-awaits : goal.returns-clause-awaits
returns-clause-awaits g c = awaits_at g.M.Machine.agrees g.S.NonBlocking.did c.args.inside.now.all.places
    c.watch.new.self.places c.args.at _
    (slice_get_within c.args.inside.now.all.places c.args.at Empty c.requires.empty) c.watch.ensures.watched

pub returns-clause-others : goal.returns-clause-others
returns-clause-others g c = keeps_set g.M.Machine.agrees g.S.NonBlocking.did c.args.inside.now.all.places
    c.watch.new.self.places c.args.at Empty _ c.requires.empty tt c.watch.ensures.watched

pub returns-clause-whole : goal.returns-clause-whole
returns-clause-whole g c = sound_hold g.M.Machine.agrees g.S.NonBlocking.did _ c.args.inside.now.all c.watch.new.self
    c.args.inside.now.held.items c.args.inside.now.is_broken c.args.at _ _
    (slice_get_within c.args.inside.now.all.places c.args.at Empty c.requires.empty) c.watch.ensures.watched
    c.requires.whole

pub returns-clause-holds : goal.returns-clause-holds
returns-clause-holds g c = holds_set c.args.inside.now.held.items c.args.at _
    (omega (arith, c.requires.whole.len, slice_get_within c.args.inside.now.all.places c.args.at Empty c.requires.empty))

pub returns-clause-held : goal.returns-clause-held
returns-clause-held g c = stay_set c.args.inside.now.held.items c.args.at _
    (none_waits g.M.Machine.agrees g.S.NonBlocking.did _ c.args.inside.now.all c.args.inside.now.held.items
    c.args.inside.now.is_broken c.args.at Empty c.requires.empty tt c.requires.whole)

pub returns-clause-only : goal.returns-clause-only
returns-clause-only g c = only_set c.args.inside.now.all.places c.watch.new.self.places c.args.at _
    c.watch.ensures.watched (λ plays. plays)

pub returns-clause-counted : goal.returns-clause-counted
returns-clause-counted g c = numbers_put c.args.at c.args.inside.now.all.places c.watch.new.self.places _
    c.args.inside.now.taken c.args.inside.now.numbers.items c.args.inside.now.is_broken c.watch.ensures.watched
    (λ runs. c.requires.number) c.requires.counted

pub returns-clause-rest : goal.returns-clause-rest
returns-clause-rest g c = rest_set c.args.inside.now.all.places c.watch.new.self.places c.args.at _
    c.watch.ensures.watched
