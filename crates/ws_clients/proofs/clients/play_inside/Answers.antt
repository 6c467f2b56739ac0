-- What is played begins where the client waits.
use Rattle.std.proofs.Common.{◌≡◌, [], ap, inr, refl}
use Rattle.std.proofs.lemmas.Option.{slice_get_within}
use Rattle.ws_loops.specs.declared.pace.Pace.{Pace}
use Rattle.ws_loops.specs.declared.places.Place.TheVariants.{Pending}
use Rattle.ws_clients.specs.declared.talking.Talk.TheVariants.{Plays}
use Rattle.ws_clients.proofs.ClientLemmas.{held_get, keeps_set, no_stream, plays_now, slot_now, sound_begin}
use Rattle.ws_clients.proofs.ClientLemmas.{streams_none, streams_taken, talk_begins}
use Rattle.ws_clients.proofs.KindLemmas.{numbers_but, numbers_put, only_there}
use Rattle.ws_clients.proofs.clients.play_inside.Goals as goal

pub open-requires-clause-able : goal.open-requires-clause-able
open-requires-clause-able g c = record {
  running = (Plays c.args.machine, [], c.requires.untold);
  goes_on = c.requires.goes_on;
}

pub returns-clause-plays : goal.returns-clause-plays
returns-clause-plays g c = λ yes.
    let (watch, is) = c.requires.whole.waits c.args.at c.in-Some.held c.in-Some.ensures.taken.0 in (
      c.in-Some.held.stream,
      held_get c.args.inside.now.held.items c.args.at c.in-Some.held c.in-Some.ensures.taken.0,
      plays_now g.M.Machine.agrees g.S.NonBlocking.did c.args.inside.now.all.places
          c.open.new.self.places c.args.at c.args.machine
          (record { machine = Plays c.args.machine; stream = c.in-Some.held.stream; pace = c.begun.result })
          (slice_get_within c.args.inside.now.all.places c.args.at (Pending watch) is) c.open.ensures.put refl
          c.requires.untold,
    )

pub returns-clause-limit : goal.returns-clause-limit
returns-clause-limit g c = λ yes.
    let (watch, is) = c.requires.whole.waits c.args.at c.in-Some.held c.in-Some.ensures.taken.0 in
    slot_now (λ slot. slot.pace.limit ≡ c.args.inside.now.limits.limit) c.args.inside.now.all.places
    c.open.new.self.places c.args.at
    (record { machine = Plays c.args.machine; stream = c.in-Some.held.stream; pace = c.begun.result })
    (slice_get_within c.args.inside.now.all.places c.args.at (Pending watch) is)
    c.open.ensures.put (ap (λ (p : Pace). p.limit) c.begun.ensures)

pub returns-clause-held : goal.returns-clause-held
returns-clause-held g c = streams_taken c.args.inside.now.held.items c.taken_of.new.held.items c.args.at
    c.in-Some.ensures.taken.1

pub returns-in_default-clause-begins : goal.returns-in_default-clause-begins
returns-in_default-clause-begins g c = λ stream is.
    absurd (no_stream c.args.inside.now.held.items c.args.at c.in_default.ensures.none stream is)

pub returns-in_default-clause-held : goal.returns-in_default-clause-held
returns-in_default-clause-held g c = streams_none c.args.inside.now.held.items c.taken_of.new.held.items c.args.at
    c.in_default.ensures.taken c.in_default.ensures.none

pub returns-clause-others : goal.returns-clause-others
returns-clause-others g c =
    let (watch, is) = c.requires.whole.waits c.args.at c.in-Some.held c.in-Some.ensures.taken.0 in
    keeps_set g.M.Machine.agrees g.S.NonBlocking.did c.args.inside.now.all.places c.open.new.self.places c.args.at
    (Pending watch) _ is tt c.open.ensures.put

pub returns-clause-whole : goal.returns-clause-whole
returns-clause-whole g c = sound_begin g.M.Machine.agrees g.S.NonBlocking.did _ c.args.inside.now.all c.open.new.self
    c.args.inside.now.held.items c.taken_of.new.held.items c.args.inside.now.is_broken c.args.at
    (record { machine = Plays c.args.machine; stream = c.in-Some.held.stream; pace = c.begun.result })
    c.in-Some.held c.in-Some.ensures.taken.0 c.in-Some.ensures.taken.1 c.open.ensures.put
    (talk_begins g.M.Machine.agrees g.S.NonBlocking.did _
    (record { machine = Plays c.args.machine; stream = c.in-Some.held.stream; pace = c.begun.result }) tt
    c.requires.untold) c.requires.whole

pub returns-clause-only : goal.returns-clause-only
returns-clause-only g c = only_there c.args.inside.now.all.places c.open.new.self.places c.args.at _ c.open.ensures.put

pub returns-in_default-clause-only : goal.returns-in_default-clause-only
returns-in_default-clause-only g c = λ other plays. inr plays

pub returns-clause-counted : goal.returns-clause-counted
returns-clause-counted g c =
    let (watch, is) = c.requires.whole.waits c.args.at c.in-Some.held c.in-Some.ensures.taken.0 in
    numbers_put c.args.at c.args.inside.now.all.places c.open.new.self.places _ c.args.inside.now.taken
    c.args.inside.now.numbers.items c.args.inside.now.is_broken c.open.ensures.put
    (λ runs. c.requires.counted.each runs c.args.at (Pending watch) is)
    (numbers_but c.args.at c.args.inside.now.all.places c.args.inside.now.taken c.args.inside.now.numbers.items
    c.args.inside.now.is_broken c.requires.counted)
