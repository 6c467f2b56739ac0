-- What came of what was read or played in the slot; its stream is held.
use Rattle.std.proofs.Common.{ap, refl, subst, sym}
use Rattle.ws_loops.specs.declared.places.Place.TheVariants.{Empty, Open}
use Rattle.ws_clients.specs.Clients.{IsLeaver, IsPlayer, held_streams}
use Rattle.ws_clients.specs.Numbers.{IsNumberOf, client_number}
use Rattle.ws_clients.proofs.ClientLemmas.{admitted, admitted_held, ends_slot, no_stream, played_held, none_waits, nothing_admitted}
use Rattle.ws_clients.proofs.ClientLemmas.{nothing_left, stay_same}
use Rattle.ws_clients.proofs.KindLemmas.{but_set, number_there, numbers_but, numbers_empty, only_same}
use Rattle.ws_clients.proofs.ServedLemmas.{rest_same}
use Rattle.ws_clients.proofs.clients.end_slot.Goals as goal

pub returns-in_ok-admission-in-Admits-clause-came : goal.returns-in_ok-admission-in-Admits-clause-came
returns-in_ok-admission-in-Admits-clause-came g c = (
  refl,
  (admitted g.M.Machine.agrees g.S.NonBlocking.did _ c.args.slot
      c.in-Admits.machine c.in_ok-admission-in-Admits.admission c.in-Admits.is
      (λ start told h. c.in_ok-admission-in-Admits.ensures start told h) c.requires.talk).0,
)

pub returns-in_ok-admission-in-Admits-clause-holds : goal.returns-in_ok-admission-in-Admits-clause-holds
returns-in_ok-admission-in-Admits-clause-holds g c = admitted_held g.M.Machine.agrees g.S.NonBlocking.did _ c.args.slot
    c.in-Admits.machine c.in_ok-admission-in-Admits.admission _ c.args.at c.in-Admits.is
    (λ start told h. c.in_ok-admission-in-Admits.ensures start told h) c.requires.talk c.hold.ensures.holds

pub returns-in_ok-admission-in-Admits-clause-plays : goal.returns-in_ok-admission-in-Admits-clause-plays
returns-in_ok-admission-in-Admits-clause-plays g c = nothing_admitted g.M.Machine.agrees g.S.NonBlocking.did
    g.M.Machine.gives c.args.at c.in-Admits.machine c.args.slot _ c.in-Admits.is

pub returns-in_ok-end-in-Plays-clause-plays : goal.returns-in_ok-end-in-Plays-clause-plays
returns-in_ok-end-in-Plays-clause-plays g c = ends_slot g.M.Machine.agrees g.S.NonBlocking.did g.M.Machine.gives
    c.args.at c.in-Plays.machine c.args.slot c.in_ok-end-in-Plays.end _ c.in-Plays.is refl
    (λ start told h. c.in_ok-end-in-Plays.ensures start told h)

pub returns-in_ok-end-in-Plays-clause-holds : goal.returns-in_ok-end-in-Plays-clause-holds
returns-in_ok-end-in-Plays-clause-holds g c = (c.args.slot.stream, c.hold-in-Plays.ensures.holds)

pub returns-in-Leaves-clause-held : goal.returns-in-Leaves-clause-held
returns-in-Leaves-clause-held g c = stay_same (held_streams c.args.inside.now.held.items)

pub returns-in-Leaves-clause-plays : goal.returns-in-Leaves-clause-plays
returns-in-Leaves-clause-plays g c = nothing_left g.M.Machine.agrees g.S.NonBlocking.did g.M.Machine.gives
    c.args.at c.in-Leaves.field-0 c.args.slot _ c.in-Leaves.is

pub returns-in_ok-admission-in-Admits-clause-fresh : goal.returns-in_ok-admission-in-Admits-clause-fresh
returns-in_ok-admission-in-Admits-clause-fresh g c = no_stream c.args.inside.now.held.items c.args.at
    (none_waits g.M.Machine.agrees g.S.NonBlocking.did _ c.args.inside.now.all c.args.inside.now.held.items
    c.args.inside.now.is_broken c.args.at Empty c.requires.empty tt c.requires.whole)

pub returns-in_ok-end-in-Plays-clause-fresh : goal.returns-in_ok-end-in-Plays-clause-fresh
returns-in_ok-end-in-Plays-clause-fresh g c = no_stream c.args.inside.now.held.items c.args.at
    (none_waits g.M.Machine.agrees g.S.NonBlocking.did _ c.args.inside.now.all c.args.inside.now.held.items
    c.args.inside.now.is_broken c.args.at Empty c.requires.empty tt c.requires.whole)

pub hold-requires-clause-number : goal.hold-requires-clause-number
hold-requires-clause-number g c = subst (λ t. IsNumberOf t (client_number c.args.inside.now.numbers.items c.args.at))
    c.in-Admits.is (number_there c.args.at c.args.inside.now.all.places c.args.slot c.args.inside.now.taken
    c.args.inside.now.numbers.items c.args.inside.now.is_broken c.requires.runs c.requires.empty c.requires.counted)

pub hold-requires-clause-counted : goal.hold-requires-clause-counted
hold-requires-clause-counted g c = but_set c.args.at c.args.inside.now.all.places (Open c.args.slot)
    c.args.inside.now.taken c.args.inside.now.numbers.items c.args.inside.now.is_broken
    (numbers_but c.args.at _ c.args.inside.now.taken c.args.inside.now.numbers.items c.args.inside.now.is_broken
    c.requires.counted)

pub hold-requires-in-Plays-clause-number : goal.hold-requires-in-Plays-clause-number
hold-requires-in-Plays-clause-number g c = subst (λ t. IsNumberOf t (client_number c.args.inside.now.numbers.items c.args.at))
    c.in-Plays.is (number_there c.args.at c.args.inside.now.all.places c.args.slot c.args.inside.now.taken
    c.args.inside.now.numbers.items c.args.inside.now.is_broken c.requires.runs c.requires.empty c.requires.counted)

pub hold-requires-in-Plays-clause-counted : goal.hold-requires-in-Plays-clause-counted
hold-requires-in-Plays-clause-counted g c = but_set c.args.at c.args.inside.now.all.places (Open c.args.slot)
    c.args.inside.now.taken c.args.inside.now.numbers.items c.args.inside.now.is_broken
    (numbers_but c.args.at _ c.args.inside.now.taken c.args.inside.now.numbers.items c.args.inside.now.is_broken
    c.requires.counted)

pub returns-in_ok-admission-in-Admits-clause-of : goal.returns-in_ok-admission-in-Admits-clause-of
returns-in_ok-admission-in-Admits-clause-of g c = subst (λ t. IsNumberOf t (client_number c.args.inside.now.numbers.items
    c.args.at)) c.in-Admits.is (number_there c.args.at c.args.inside.now.all.places c.args.slot c.args.inside.now.taken
    c.args.inside.now.numbers.items c.args.inside.now.is_broken c.requires.runs c.requires.empty c.requires.counted)

pub returns-in_ok-end-in-Plays-clause-of : goal.returns-in_ok-end-in-Plays-clause-of
returns-in_ok-end-in-Plays-clause-of g c = subst (λ t. IsNumberOf t (client_number c.args.inside.now.numbers.items
    c.args.at)) c.in-Plays.is (number_there c.args.at c.args.inside.now.all.places c.args.slot c.args.inside.now.taken
    c.args.inside.now.numbers.items c.args.inside.now.is_broken c.requires.runs c.requires.empty c.requires.counted)

pub returns-in_ok-end-in-Plays-clause-played : goal.returns-in_ok-end-in-Plays-clause-played
returns-in_ok-end-in-Plays-clause-played g c = played_held g.M.Machine.agrees g.S.NonBlocking.did g.M.Machine.gives _
    c.args.slot c.in-Plays.machine c.in_ok-end-in-Plays.end _ c.args.at c.in-Plays.is
    (λ start told h. c.in_ok-end-in-Plays.ensures start told h) c.requires.talk c.hold-in-Plays.ensures.holds

pub returns-in_ok-end-in-Plays-clause-player : goal.returns-in_ok-end-in-Plays-clause-player
returns-in_ok-end-in-Plays-clause-player g c = subst (λ t. IsPlayer t) (sym c.in-Plays.is) tt

pub returns-in-Leaves-clause-only : goal.returns-in-Leaves-clause-only
returns-in-Leaves-clause-only g c = only_same c.args.inside.now.all.places c.args.inside.now.all.places refl

pub returns-in-Leaves-clause-counted : goal.returns-in-Leaves-clause-counted
returns-in-Leaves-clause-counted g c = numbers_empty c.args.at c.args.inside.now.all.places c.args.slot
    c.args.inside.now.taken c.args.inside.now.numbers.items c.args.inside.now.is_broken c.requires.runs
    c.requires.empty (λ number. subst (λ t. IsNumberOf t (client_number c.args.inside.now.numbers.items c.args.at))
    c.in-Leaves.is number) c.requires.counted

pub returns-in_ok-admission-in-Admits-clause-behind : goal.returns-in_ok-admission-in-Admits-clause-behind
returns-in_ok-admission-in-Admits-clause-behind g c = ap (λ v. v.items) c.hold.ensures.numbers

pub returns-in_ok-end-in-Plays-clause-behind : goal.returns-in_ok-end-in-Plays-clause-behind
returns-in_ok-end-in-Plays-clause-behind g c = ap (λ v. v.items) c.hold-in-Plays.ensures.numbers

pub returns-in_ok-admission-in-Admits-clause-rest : goal.returns-in_ok-admission-in-Admits-clause-rest
returns-in_ok-admission-in-Admits-clause-rest g c = c.hold.ensures.rest

pub returns-in_ok-end-in-Plays-clause-rest : goal.returns-in_ok-end-in-Plays-clause-rest
returns-in_ok-end-in-Plays-clause-rest g c = c.hold-in-Plays.ensures.rest

pub returns-in-Leaves-clause-rest : goal.returns-in-Leaves-clause-rest
returns-in-Leaves-clause-rest g c = rest_same c.args.at c.args.inside.now.all.places

pub returns-in_ok-admission-in-Admits-clause-tells : goal.returns-in_ok-admission-in-Admits-clause-tells
returns-in_ok-admission-in-Admits-clause-tells g c = λ on. refl

pub returns-in_ok-end-in-Plays-clause-tells : goal.returns-in_ok-end-in-Plays-clause-tells
returns-in_ok-end-in-Plays-clause-tells g c = λ on. refl

pub returns-in-Leaves-clause-tells : goal.returns-in-Leaves-clause-tells
returns-in-Leaves-clause-tells g c = λ on. on (subst (λ t. IsLeaver t) (sym c.in-Leaves.is) tt)
