-- Who is left is read to the end.
use Rattle.std.proofs.Common.{◌≡◌, ◌∙◌, ℕ, [], Some, ap, refl}
use Rattle.std.proofs.lemmas.Option.{slice_get_within}
use Rattle.ws_loops.specs.Paces.{passes_at}
use Rattle.ws_loops.specs.declared.pace.Pace.{Pace}
use Rattle.ws_loops.specs.declared.places.Place.TheVariants.{Pending}
use Rattle.ws_clients.specs.declared.talking.Talk.TheVariants.{Leaves}
use Rattle.ws_clients.proofs.ClientLemmas.{held_same, keeps_set, leaver_goes_on, left_now, no_stream, slot_now}
use Rattle.ws_clients.proofs.ClientLemmas.{sound_begin, streams_none, streams_taken, talk_begins}
use Rattle.ws_clients.proofs.KindLemmas.{left_held, left_none, numbers_but, numbers_lost, only_same, only_set}
use Rattle.ws_clients.proofs.ServedLemmas.{rest_same, rest_set}
use Rattle.ws_clients.proofs.clients.leave_inside.Goals as goal

pub open-requires-clause-able : goal.open-requires-clause-able
open-requires-clause-able g c = record {
  running = (Leaves c.new.result, [], c.new.ensures.told);
  goes_on = leaver_goes_on c.new.result c.new.ensures.left;
}

pub returns-clause-leaves : goal.returns-clause-leaves
returns-clause-leaves g c = λ stream held.
    let (watch, is) = c.requires.whole.waits c.args.at c.in-Some.held c.in-Some.ensures.taken.0 in
    left_now g.M.Machine.agrees g.S.NonBlocking.did c.args.inside.now.all.places c.open.new.self.places c.args.at
    c.new.result c.in-Some.held.stream stream
    (record { machine = Leaves c.new.result; stream = c.end_direction.new.self; pace = c.begun.result })
    (slice_get_within c.args.inside.now.all.places c.args.at (Pending watch) is) c.open.ensures.put refl
    (held_same c.args.inside.now.held.items c.args.at c.in-Some.held stream c.in-Some.ensures.taken.0 held)
    c.end_direction.ensures

pub returns-clause-lingers : goal.returns-clause-lingers
returns-clause-lingers g c = λ stream held.
    let (watch, is) = c.requires.whole.waits c.args.at c.in-Some.held c.in-Some.ensures.taken.0 in
    slot_now (λ slot. slot.pace.deadline ≡ passes_at (Some 1800) c.args.now) c.args.inside.now.all.places
    c.open.new.self.places c.args.at
    (record { machine = Leaves c.new.result; stream = c.end_direction.new.self; pace = c.begun.result })
    (slice_get_within c.args.inside.now.all.places c.args.at (Pending watch) is) c.open.ensures.put
    (ap (λ (p : Pace). p.deadline) c.begun.ensures ∙ ap (λ (n : ℕ). Some n) c.saturating_add.ensures)

pub returns-in_default-clause-lingers : goal.returns-in_default-clause-lingers
returns-in_default-clause-lingers g c = λ stream is.
    absurd (no_stream c.args.inside.now.held.items c.args.at c.in_default.ensures.none stream is)

pub returns-clause-held : goal.returns-clause-held
returns-clause-held g c = streams_taken c.args.inside.now.held.items c.taken_of.new.held.items c.args.at
    c.in-Some.ensures.taken.1

pub returns-in_default-clause-leaves : goal.returns-in_default-clause-leaves
returns-in_default-clause-leaves g c = λ stream is.
    absurd (no_stream c.args.inside.now.held.items c.args.at c.in_default.ensures.none stream is)

pub returns-in_default-clause-held : goal.returns-in_default-clause-held
returns-in_default-clause-held g c = streams_none c.args.inside.now.held.items c.taken_of.new.held.items c.args.at
    c.in_default.ensures.taken c.in_default.ensures.none

pub returns-clause-others : goal.returns-clause-others
returns-clause-others g c =
    let (watch, is) = c.requires.whole.waits c.args.at c.in-Some.held c.in-Some.ensures.taken.0 in
    keeps_set g.M.Machine.agrees g.S.NonBlocking.did c.args.inside.now.all.places c.open.new.self.places c.args.at
    (Pending watch) _ is tt c.open.ensures.put

pub returns-clause-whole : goal.returns-clause-whole
returns-clause-whole g c = sound_begin g.M.Machine.agrees g.S.NonBlocking.did _ c.args.inside.now.all c.open.new.self
    c.args.inside.now.held.items c.taken_of.new.held.items c.args.inside.now.is_broken c.args.at
    (record { machine = Leaves c.new.result; stream = c.end_direction.new.self; pace = c.begun.result })
    c.in-Some.held c.in-Some.ensures.taken.0 c.in-Some.ensures.taken.1 c.open.ensures.put
    (talk_begins g.M.Machine.agrees g.S.NonBlocking.did _
    (record { machine = Leaves c.new.result; stream = c.end_direction.new.self; pace = c.begun.result }) tt
    c.new.ensures.told) c.requires.whole

pub returns-clause-only : goal.returns-clause-only
returns-clause-only g c = only_set c.args.inside.now.all.places c.open.new.self.places c.args.at _ c.open.ensures.put
    (λ plays. plays)

pub returns-in_default-clause-only : goal.returns-in_default-clause-only
returns-in_default-clause-only g c = only_same c.args.inside.now.all.places c.args.inside.now.all.places refl

pub returns-clause-numbers : goal.returns-clause-numbers
returns-clause-numbers g c = left_held c.args.inside.now.held.items c.args.at c.in-Some.held
    c.args.inside.now.numbers.items c.number_taken.new.numbers.items c.in-Some.ensures.taken.0
    c.number_taken.ensures.numbers

pub returns-in_default-clause-numbers : goal.returns-in_default-clause-numbers
returns-in_default-clause-numbers g c = left_none c.args.inside.now.held.items c.args.at
    c.args.inside.now.numbers.items c.in_default.ensures.none

pub returns-clause-counted : goal.returns-clause-counted
returns-clause-counted g c =
    let (watch, is) = c.requires.whole.waits c.args.at c.in-Some.held c.in-Some.ensures.taken.0 in
    numbers_lost c.args.at c.args.inside.now.all.places c.open.new.self.places _ c.args.inside.now.taken
    c.args.inside.now.numbers.items c.number_taken.new.numbers.items c.args.inside.now.is_broken
    (slice_get_within c.args.inside.now.all.places c.args.at (Pending watch) is) c.open.ensures.put
    c.number_taken.ensures.numbers refl
    (numbers_but c.args.at c.args.inside.now.all.places c.args.inside.now.taken c.args.inside.now.numbers.items
    c.args.inside.now.is_broken c.requires.counted)

pub returns-clause-rest : goal.returns-clause-rest
returns-clause-rest g c = rest_set c.args.inside.now.all.places c.open.new.self.places c.args.at _ c.open.ensures.put

pub returns-in_default-clause-rest : goal.returns-in_default-clause-rest
returns-in_default-clause-rest g c = rest_same c.args.at c.args.inside.now.all.places
