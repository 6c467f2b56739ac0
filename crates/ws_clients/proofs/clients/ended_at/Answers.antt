-- What stood in the place is taken out of it, and this has come of it.
use Rattle.std.proofs.Common.{◌∙◌, refl, subst, sym}
use Rattle.std.proofs.lemmas.Option.{slice_get_within}
use Rattle.ws_clients.specs.Numbers.{AreNumbersSound}
use Rattle.ws_loops.specs.declared.places.Place.TheVariants.{Broken, Empty, Open, Pending}
use Rattle.ws_clients.specs.Clients.{held_streams}
use Rattle.ws_clients.specs.Talks.{wants_talk}
use Rattle.ws_clients.specs.declared.clients.Event.TheVariants.{Gone}
use Rattle.ws_clients.proofs.ClientLemmas.{emptied_at, ends_place, keeps_same, keeps_set, over_within, slot_over}
use Rattle.ws_clients.proofs.ClientLemmas.{no_stream, none_waits, sound_empty, sound_kept_anew, stay_same}
use Rattle.ws_clients.proofs.KindLemmas.{but_moved, none_waits_there, numbers_but, numbers_lost, numbers_put, of_place}
use Rattle.ws_clients.proofs.KindLemmas.{only_set, only_then, played_only, stands_again}
use Rattle.ws_clients.proofs.ServedLemmas.{rest_set, rest_then, tells_at}
use Rattle.ws_clients.proofs.clients.ended_at.Goals as goal

pub take-requires : goal.take-requires
take-requires g c = record {
  at = over_within (wants_talk g.M.Machine.wants) c.args.inside.now.all.places c.args.at c.requires.over;
}

pub end_slot-requires-clause-over : goal.end_slot-requires-clause-over
end_slot-requires-clause-over g c = slot_over (wants_talk g.M.Machine.wants) c.args.inside.now.all.places c.args.at
    c.in-Open.slot c.in-Open.ensures.taken c.requires.over

pub end_slot-requires-clause-empty : goal.end_slot-requires-clause-empty
end_slot-requires-clause-empty g c = emptied_at g.M.Machine.agrees g.S.NonBlocking.did c.args.inside.now.all.places
    c.take.new.self.places c.args.at (Open c.in-Open.slot) c.in-Open.ensures.taken c.in-Open.ensures.empty

pub end_slot-requires-clause-talk : goal.end_slot-requires-clause-talk
end_slot-requires-clause-talk g c =
    c.requires.whole.talks c.requires.runs c.args.at c.in-Open.slot c.in-Open.ensures.taken

pub end_slot-requires-clause-whole : goal.end_slot-requires-clause-whole
end_slot-requires-clause-whole g c = sound_empty g.M.Machine.agrees g.S.NonBlocking.did _ c.args.inside.now.all
    c.take.new.self c.args.inside.now.held.items c.args.inside.now.is_broken c.args.at (Open c.in-Open.slot)
    c.in-Open.ensures.taken tt c.in-Open.ensures.empty c.requires.whole

pub returns-in_ok-came-in-Open-clause-plays : goal.returns-in_ok-came-in-Open-clause-plays
returns-in_ok-came-in-Open-clause-plays g c = ends_place g.M.Machine.agrees g.S.NonBlocking.did g.M.Machine.gives
    c.args.inside.now.all.places c.take.new.self.places c.end_slot.new.inside.all.places c.args.at
    (Open c.in-Open.slot) c.in_ok-came-in-Open.came c.in-Open.ensures.taken c.in-Open.ensures.empty
    c.end_slot.ensures.others
    (λ start stream happened plays. c.in_ok-came-in-Open.ensures.plays start stream happened plays)

pub watch-requires : goal.watch-requires
watch-requires g c = record {
  slotless = (
    Empty,
    emptied_at g.M.Machine.agrees g.S.NonBlocking.did c.args.inside.now.all.places
        c.take.new.self.places c.args.at (Pending c.in-Pending.field-0) c.in-Pending.ensures.taken
        c.in-Pending.ensures.empty,
    tt,
  );
}

pub returns-in-Pending-clause-plays : goal.returns-in-Pending-clause-plays
returns-in-Pending-clause-plays g c = ends_place g.M.Machine.agrees g.S.NonBlocking.did g.M.Machine.gives
    c.args.inside.now.all.places c.take.new.self.places c.watch.new.self.places c.args.at
    (Pending c.in-Pending.field-0) _ c.in-Pending.ensures.taken c.in-Pending.ensures.empty
    (keeps_set g.M.Machine.agrees g.S.NonBlocking.did c.take.new.self.places c.watch.new.self.places c.args.at Empty _
    (emptied_at g.M.Machine.agrees g.S.NonBlocking.did c.args.inside.now.all.places
    c.take.new.self.places c.args.at (Pending c.in-Pending.field-0) c.in-Pending.ensures.taken
    c.in-Pending.ensures.empty) tt c.watch.ensures.watched) (λ start stream happened plays. absurd plays)

pub returns-in-Pending-clause-whole : goal.returns-in-Pending-clause-whole
returns-in-Pending-clause-whole g c = sound_kept_anew g.M.Machine.agrees g.S.NonBlocking.did _ c.args.inside.now.all
    c.take.new.self c.watch.new.self c.args.inside.now.held.items c.args.inside.now.is_broken c.args.at
    (Pending c.in-Pending.field-0) _ c.in-Pending.ensures.taken c.in-Pending.ensures.empty c.watch.ensures.watched
    c.requires.whole

pub returns-in-Broken-clause-stands : goal.returns-in-Broken-clause-stands
returns-in-Broken-clause-stands g c = emptied_at g.M.Machine.agrees g.S.NonBlocking.did c.args.inside.now.all.places
    c.take.new.self.places c.args.at Broken c.in-Broken.ensures.taken c.in-Broken.ensures.empty

pub returns-in-Broken-clause-plays : goal.returns-in-Broken-clause-plays
returns-in-Broken-clause-plays g c = ends_place g.M.Machine.agrees g.S.NonBlocking.did g.M.Machine.gives
    c.args.inside.now.all.places c.take.new.self.places c.take.new.self.places c.args.at Broken _
    c.in-Broken.ensures.taken c.in-Broken.ensures.empty
    (keeps_same g.M.Machine.agrees g.S.NonBlocking.did c.take.new.self.places c.take.new.self.places refl)
    (λ start stream happened plays. (Gone c.args.at c.number_taken-number.result, refl, refl))

pub returns-in-Broken-clause-whole : goal.returns-in-Broken-clause-whole
returns-in-Broken-clause-whole g c = sound_empty g.M.Machine.agrees g.S.NonBlocking.did _ c.args.inside.now.all
    c.take.new.self c.args.inside.now.held.items c.args.inside.now.is_broken c.args.at Broken
    c.in-Broken.ensures.taken tt c.in-Broken.ensures.empty c.requires.whole

pub returns-in-Empty-clause-plays : goal.returns-in-Empty-clause-plays
returns-in-Empty-clause-plays g c = ends_place g.M.Machine.agrees g.S.NonBlocking.did g.M.Machine.gives
    c.args.inside.now.all.places c.take.new.self.places c.take.new.self.places c.args.at Empty _
    c.in-Empty.ensures.taken c.in-Empty.ensures.empty
    (keeps_same g.M.Machine.agrees g.S.NonBlocking.did c.take.new.self.places c.take.new.self.places refl)
    (λ start stream happened plays. absurd plays)

pub returns-in-Empty-clause-whole : goal.returns-in-Empty-clause-whole
returns-in-Empty-clause-whole g c = sound_empty g.M.Machine.agrees g.S.NonBlocking.did _ c.args.inside.now.all
    c.take.new.self c.args.inside.now.held.items c.args.inside.now.is_broken c.args.at Empty
    c.in-Empty.ensures.taken tt c.in-Empty.ensures.empty c.requires.whole

pub returns-in-Pending-clause-held : goal.returns-in-Pending-clause-held
returns-in-Pending-clause-held g c = stay_same (held_streams c.args.inside.now.held.items)

pub returns-in-Broken-clause-held : goal.returns-in-Broken-clause-held
returns-in-Broken-clause-held g c = stay_same (held_streams c.args.inside.now.held.items)

pub returns-in-Empty-clause-held : goal.returns-in-Empty-clause-held
returns-in-Empty-clause-held g c = stay_same (held_streams c.args.inside.now.held.items)

pub returns-in-Broken-clause-fresh : goal.returns-in-Broken-clause-fresh
returns-in-Broken-clause-fresh g c = no_stream c.args.inside.now.held.items c.args.at
    (none_waits g.M.Machine.agrees g.S.NonBlocking.did _ c.args.inside.now.all c.args.inside.now.held.items
    c.args.inside.now.is_broken c.args.at Broken c.in-Broken.ensures.taken tt c.requires.whole)

pub end_slot-requires-clause-runs : goal.end_slot-requires-clause-runs
end_slot-requires-clause-runs g c = c.requires.runs

pub end_slot-requires-clause-counted : goal.end_slot-requires-clause-counted
end_slot-requires-clause-counted g c = subst (λ l. AreNumbersSound l c.args.inside.now.taken
    c.args.inside.now.numbers.items c.args.inside.now.is_broken)
    (sym (stands_again c.args.inside.now.all.places c.take.new.self.places c.args.at (Open c.in-Open.slot) Empty
    c.in-Open.ensures.taken c.in-Open.ensures.empty)) c.requires.counted

pub returns-in_ok-came-in-Open-clause-only : goal.returns-in_ok-came-in-Open-clause-only
returns-in_ok-came-in-Open-clause-only g c = played_only c.args.inside.now.all.places
    c.end_slot.new.inside.all.places c.args.at c.in-Open.slot c.in_ok-came-in-Open.came c.in-Open.ensures.taken
    (only_then c.args.inside.now.all.places c.take.new.self.places c.end_slot.new.inside.all.places
    (only_set c.args.inside.now.all.places c.take.new.self.places c.args.at Empty c.in-Open.ensures.empty (λ plays. plays))
    c.end_slot.ensures.only) c.in_ok-came-in-Open.ensures.player
    (of_place g.S.NonBlocking.did c.args.at _ c.in_ok-came-in-Open.came c.in_ok-came-in-Open.ensures.came)

pub returns-in-Pending-clause-only : goal.returns-in-Pending-clause-only
returns-in-Pending-clause-only g c = only_then c.args.inside.now.all.places c.take.new.self.places
    c.watch.new.self.places
    (only_set c.args.inside.now.all.places c.take.new.self.places c.args.at Empty c.in-Pending.ensures.empty
    (λ plays. plays))
    (only_set c.take.new.self.places c.watch.new.self.places c.args.at _ c.watch.ensures.watched (λ plays. plays))

pub returns-in-Pending-clause-counted : goal.returns-in-Pending-clause-counted
returns-in-Pending-clause-counted g c = numbers_put c.args.at c.take.new.self.places c.watch.new.self.places _
    c.args.inside.now.taken c.args.inside.now.numbers.items c.args.inside.now.is_broken c.watch.ensures.watched
    (λ runs. c.requires.counted.each runs c.args.at (Pending c.in-Pending.field-0) c.in-Pending.ensures.taken)
    (but_moved c.args.at c.args.inside.now.all.places c.take.new.self.places Empty c.args.inside.now.taken
    c.args.inside.now.numbers.items c.args.inside.now.is_broken c.in-Pending.ensures.empty
    (numbers_but c.args.at c.args.inside.now.all.places c.args.inside.now.taken c.args.inside.now.numbers.items
    c.args.inside.now.is_broken c.requires.counted))

pub returns-in-Broken-clause-only : goal.returns-in-Broken-clause-only
returns-in-Broken-clause-only g c = (
  only_set c.args.inside.now.all.places c.take.new.self.places c.args.at Empty c.in-Broken.ensures.empty
      (λ plays. plays),
  tt,
)

pub returns-in-Broken-clause-counted : goal.returns-in-Broken-clause-counted
returns-in-Broken-clause-counted g c = numbers_lost c.args.at c.args.inside.now.all.places c.take.new.self.places Empty
    c.args.inside.now.taken c.args.inside.now.numbers.items c.number_taken-number.new.numbers.items
    c.args.inside.now.is_broken
    (slice_get_within c.args.inside.now.all.places c.args.at Broken c.in-Broken.ensures.taken)
    c.in-Broken.ensures.empty c.number_taken-number.ensures.numbers refl
    (numbers_but c.args.at c.args.inside.now.all.places c.args.inside.now.taken c.args.inside.now.numbers.items
    c.args.inside.now.is_broken c.requires.counted)

pub returns-in-Empty-clause-only : goal.returns-in-Empty-clause-only
returns-in-Empty-clause-only g c = only_set c.args.inside.now.all.places c.take.new.self.places c.args.at Empty
    c.in-Empty.ensures.empty (λ plays. plays)

pub returns-in-Empty-clause-counted : goal.returns-in-Empty-clause-counted
returns-in-Empty-clause-counted g c = numbers_put c.args.at c.args.inside.now.all.places c.take.new.self.places Empty
    c.args.inside.now.taken c.args.inside.now.numbers.items c.args.inside.now.is_broken c.in-Empty.ensures.empty
    (λ runs. c.requires.counted.each runs c.args.at Empty c.in-Empty.ensures.taken)
    (numbers_but c.args.at c.args.inside.now.all.places c.args.inside.now.taken c.args.inside.now.numbers.items
    c.args.inside.now.is_broken c.requires.counted)

pub returns-in_ok-came-in-Open-clause-behind : goal.returns-in_ok-came-in-Open-clause-behind
returns-in_ok-came-in-Open-clause-behind g c = c.in_ok-came-in-Open.ensures.behind

pub returns-in_ok-came-in-Open-clause-rest : goal.returns-in_ok-came-in-Open-clause-rest
returns-in_ok-came-in-Open-clause-rest g c = rest_then c.args.at c.args.inside.now.all.places c.take.new.self.places
    c.end_slot.new.inside.all.places
    (rest_set c.args.inside.now.all.places c.take.new.self.places c.args.at Empty c.in-Open.ensures.empty)
    c.in_ok-came-in-Open.ensures.rest

pub returns-in_ok-came-in-Open-clause-tells : goal.returns-in_ok-came-in-Open-clause-tells
returns-in_ok-came-in-Open-clause-tells g c = tells_at c.args.at c.args.inside.now.all.places (Open c.in-Open.slot)
    c.in_ok-came-in-Open.came c.in-Open.ensures.taken (λ on. c.in_ok-came-in-Open.ensures.tells on)

pub returns-in-Pending-clause-rest : goal.returns-in-Pending-clause-rest
returns-in-Pending-clause-rest g c = rest_then c.args.at c.args.inside.now.all.places c.take.new.self.places
    c.watch.new.self.places
    (rest_set c.args.inside.now.all.places c.take.new.self.places c.args.at Empty c.in-Pending.ensures.empty)
    (rest_set c.take.new.self.places c.watch.new.self.places c.args.at _ c.watch.ensures.watched)

pub returns-in-Pending-clause-tells : goal.returns-in-Pending-clause-tells
returns-in-Pending-clause-tells g c = tells_at c.args.at c.args.inside.now.all.places (Pending c.in-Pending.field-0) _
    c.in-Pending.ensures.taken (λ on. absurd on)

pub returns-in-Broken-clause-rest : goal.returns-in-Broken-clause-rest
returns-in-Broken-clause-rest g c = rest_set c.args.inside.now.all.places c.take.new.self.places c.args.at Empty
    c.in-Broken.ensures.empty

pub returns-in-Broken-clause-tells : goal.returns-in-Broken-clause-tells
returns-in-Broken-clause-tells g c = tells_at c.args.at c.args.inside.now.all.places Broken _ c.in-Broken.ensures.taken
    (λ on. refl)

pub returns-in-Empty-clause-rest : goal.returns-in-Empty-clause-rest
returns-in-Empty-clause-rest g c = rest_set c.args.inside.now.all.places c.take.new.self.places c.args.at Empty
    c.in-Empty.ensures.empty

pub returns-in-Empty-clause-tells : goal.returns-in-Empty-clause-tells
returns-in-Empty-clause-tells g c = tells_at c.args.at c.args.inside.now.all.places Empty _ c.in-Empty.ensures.taken
    (λ on. absurd on)
