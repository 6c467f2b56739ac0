-- Its request is to be read: nothing is held beside its place, and its stream has done nothing.
use Rattle.std.proofs.Common.{[], Some, ap, refl, slice_set}
use Rattle.std.proofs.lemmas.Option.{slice_get_within}
use Rattle.ws_loops.specs.declared.places.Place.TheVariants.{Empty}
use Rattle.ws_clients.specs.declared.talking.Talk.TheVariants.{Admits}
use Rattle.ws_clients.proofs.ClientLemmas.{keeps_same, keeps_set, none_waits, sound_open, talk_begins}
use Rattle.ws_clients.proofs.KindLemmas.{none_waits_there, numbers_came, only_same, only_set}
use Rattle.ws_clients.proofs.ServedLemmas.{rest_same, rest_set}
use Rattle.ws_clients.proofs.clients.receive.Goals as goal

pub put-requires-clause-able : goal.put-requires-clause-able
put-requires-clause-able g c = record {
  running = (Admits c.new.result, [], c.new.ensures.told);
  goes_on = c.new.ensures.goes_on;
}

pub returns-clause-others : goal.returns-clause-others
returns-clause-others g c = keeps_set g.M.Machine.agrees g.S.NonBlocking.did c.args.inside.now.all.places
    c.put.new.self.places c.args.at Empty _ c.requires.empty tt c.put.ensures.put

pub returns-clause-whole : goal.returns-clause-whole
returns-clause-whole g c = sound_open g.M.Machine.agrees g.S.NonBlocking.did _ c.args.inside.now.all c.put.new.self
    c.args.inside.now.held.items c.args.inside.now.is_broken c.args.at
    (record { machine = Admits c.new.result; stream = c.args.stream; pace = c.begun.result }) c.put.ensures.put
    (talk_begins g.M.Machine.agrees g.S.NonBlocking.did _
    (record { machine = Admits c.new.result; stream = c.args.stream; pace = c.begun.result })
    (c.new.ensures.known, c.requires.fresh) c.new.ensures.told)
    (none_waits g.M.Machine.agrees g.S.NonBlocking.did _ c.args.inside.now.all c.args.inside.now.held.items
    c.args.inside.now.is_broken c.args.at Empty c.requires.empty tt c.requires.whole) c.requires.whole

pub returns-clause-only : goal.returns-clause-only
returns-clause-only g c = only_set c.args.inside.now.all.places c.put.new.self.places c.args.at _ c.put.ensures.put
    (λ plays. plays)

pub returns-clause-counted : goal.returns-clause-counted
returns-clause-counted g c = numbers_came c.args.at c.args.inside.now.all.places c.put.new.self.places
    (record { machine = Admits c.new.result; stream = c.args.stream; pace = c.begun.result })
    c.args.inside.now.taken _ c.args.inside.now.numbers.items _ c.args.inside.now.is_broken
    (slice_get_within c.args.inside.now.all.places c.args.at Empty c.requires.empty) c.put.ensures.put
    c.in-Some.ensures.1 (ap (λ n. slice_set c.args.inside.now.numbers.items c.args.at (Some n)) c.in-Some.ensures.1)
    (λ n. (n, refl))
    (none_waits_there c.args.inside.now.all.places c.args.inside.now.taken c.args.inside.now.numbers.items
    c.args.inside.now.is_broken c.args.at c.requires.runs c.requires.empty c.requires.counted) c.requires.counted

pub returns-in_default-clause-others : goal.returns-in_default-clause-others
returns-in_default-clause-others g c = keeps_same g.M.Machine.agrees g.S.NonBlocking.did
    c.args.inside.now.all.places c.args.inside.now.all.places refl

pub returns-in_default-clause-only : goal.returns-in_default-clause-only
returns-in_default-clause-only g c = only_same c.args.inside.now.all.places c.args.inside.now.all.places refl

pub returns-clause-rest : goal.returns-clause-rest
returns-clause-rest g c = rest_set c.args.inside.now.all.places c.put.new.self.places c.args.at _ c.put.ensures.put

pub returns-in_default-clause-rest : goal.returns-in_default-clause-rest
returns-in_default-clause-rest g c = rest_same c.args.at c.args.inside.now.all.places
