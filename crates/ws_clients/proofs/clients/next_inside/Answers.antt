-- All that is played goes on until something has happened.
use Rattle.std.proofs.Common.{◌∙◌, Some, refl, rules, subst}
use Rattle.ws_clients.specs.Clients.{PlayedOnly, PlaysOn, ServesOn, held_streams}
use Rattle.ws_clients.specs.Numbers.{TakesClients}
use Rattle.ws_clients.proofs.ClientLemmas.{goes_none, goes_on, goes_still, goes_then, newly_told, stay_same}
use Rattle.ws_clients.proofs.ClientLemmas.{stay_then}
use Rattle.ws_clients.proofs.KindLemmas.{only_none, only_same, only_so, only_then}
use Rattle.ws_clients.proofs.NumberLemmas.{taken_none, taken_nothing, taken_then, takes_then}
use Rattle.ws_clients.proofs.ServedLemmas.{served_none, served_still, served_then}
use Rattle.ws_clients.proofs.clients.next_inside.Goals as goal

pub loop-left-init : goal.loop-left-init
loop-left-init g c = record {
  room = c.requires.room;
  whole = c.requires.whole;
  known = refl;
  held = stay_same (held_streams c.args.inside.now.held.items);
  limits = refl;
  plays = goes_still g.M.Machine.agrees g.L.Client.NonBlocking.did g.K.LineSink.heard c.args.inside.now.all.places
      c.args.sink.now;
  goes_on = served_still g.M.Machine.agrees g.M.Machine.wants g.L.Client.NonBlocking.did
      (g.P.Poller.time c.args.poller.now) c.args.inside.now.all.places;
  only = only_same c.args.inside.now.all.places c.args.inside.now.all.places refl;
  takes = taken_nothing g.L.Listener.did c.args.listener.now c.args.inside.now.taken c.args.inside.now.numbers.items;
  counted = c.requires.counted;
}

pub loop-left-preserved : goal.loop-left-preserved
loop-left-preserved g c = record {
  room = search rules;
  whole = c.wait_inside.ensures.whole;
  known = c.in_ok-came.ensures.known ∙ c.loop-left.invariant.known;
  held = stay_then (held_streams c.args.inside.now.held.items) (held_streams c.loop-left.inside.held.items)
      (held_streams c.wait_inside.new.inside.held.items) c.loop-left.invariant.held c.in_ok-came.ensures.held;
  limits = c.in_ok-came.ensures.limits ∙ c.loop-left.invariant.limits;
  plays = goes_on g.M.Machine.agrees g.L.Client.NonBlocking.did g.K.LineSink.heard c.args.inside.now.all.places
      c.loop-left.inside.all.places c.wait_inside.new.inside.all.places c.args.sink.now c.loop-left.sink
      c.wait_inside.new.sink c.loop-left.invariant.plays
      (goes_none g.M.Machine.agrees g.L.Client.NonBlocking.did g.K.LineSink.heard g.M.Machine.gives
      c.loop-left.inside.all.places c.wait_inside.new.inside.all.places c.loop-left.sink c.wait_inside.new.sink
      c.in_ok-came.came c.in_default.is c.in_ok-came.ensures.plays);
  goes_on = served_none g.M.Machine.agrees g.M.Machine.wants g.L.Client.NonBlocking.did
      (g.P.Poller.time c.args.poller.now) (g.P.Poller.time c.wait_inside.new.poller) c.args.inside.now.all.places
      c.wait_inside.new.inside.all.places c.in_ok-came.came c.in_default.is
      (served_then g.M.Machine.agrees g.M.Machine.wants g.L.Client.NonBlocking.did
      (g.P.Poller.time c.args.poller.now) (g.P.Poller.time c.loop-left.poller)
      (g.P.Poller.time c.wait_inside.new.poller) c.args.inside.now.all.places c.loop-left.inside.all.places
      c.wait_inside.new.inside.all.places c.in_ok-came.came c.in_ok-came.ensures.later c.loop-left.invariant.goes_on
      c.in_ok-came.ensures.goes_on);
  only = only_then c.args.inside.now.all.places c.loop-left.inside.all.places c.wait_inside.new.inside.all.places
      c.loop-left.invariant.only
      (only_none c.loop-left.inside.all.places c.wait_inside.new.inside.all.places c.in_ok-came.came c.in_default.is
      c.in_ok-came.ensures.only);
  takes = taken_then g.L.Listener.did c.args.listener.now c.loop-left.listener c.wait_inside.new.listener
      c.args.inside.now.taken c.args.inside.now.numbers.items c.loop-left.inside.taken
      c.loop-left.inside.numbers.items c.wait_inside.new.inside.taken c.wait_inside.new.inside.numbers.items
      c.loop-left.invariant.takes
      (taken_none g.L.Listener.did c.loop-left.listener c.wait_inside.new.listener c.loop-left.inside.taken
      c.loop-left.inside.numbers.items c.wait_inside.new.inside.taken c.wait_inside.new.inside.numbers.items
      c.in_ok-came.came c.in_default.is c.in_ok-came.ensures.takes);
  counted = c.wait_inside.ensures.counted;
}

pub returns-in-Some-clause-held : goal.returns-in-Some-clause-held
returns-in-Some-clause-held g c = stay_then (held_streams c.args.inside.now.held.items)
    (held_streams c.loop-left.inside.held.items) (held_streams c.wait_inside.new.inside.held.items)
    c.loop-left.invariant.held c.in_ok-came.ensures.held

pub returns-in-Some-clause-plays : goal.returns-in-Some-clause-plays
returns-in-Some-clause-plays g c = goes_then g.M.Machine.agrees g.L.Client.NonBlocking.did g.K.LineSink.heard
    g.M.Machine.gives c.args.inside.now.all.places c.loop-left.inside.all.places c.wait_inside.new.inside.all.places
    c.args.sink.now c.loop-left.sink c.wait_inside.new.sink (Some c.in-Some.event) c.loop-left.invariant.plays
    (subst (λ e. PlaysOn g.K.LineSink.heard g.M.Machine.agrees g.L.Client.NonBlocking.did g.M.Machine.gives
    c.loop-left.inside.all.places c.wait_inside.new.inside.all.places c.loop-left.sink c.wait_inside.new.sink e)
    c.in-Some.is c.in_ok-came.ensures.plays)

pub returns-in-Some-clause-fresh : goal.returns-in-Some-clause-fresh
returns-in-Some-clause-fresh g c = newly_told (held_streams c.args.inside.now.held.items)
    (held_streams c.loop-left.inside.held.items) c.in_ok-came.came c.in-Some.event c.in-Some.is
    c.loop-left.invariant.held c.in_ok-came.ensures.fresh

pub returns-in-Some-clause-only : goal.returns-in-Some-clause-only
returns-in-Some-clause-only g c = only_so c.args.inside.now.all.places c.loop-left.inside.all.places
    c.wait_inside.new.inside.all.places (Some c.in-Some.event) c.loop-left.invariant.only
    (subst (λ e. PlayedOnly c.loop-left.inside.all.places c.wait_inside.new.inside.all.places e) c.in-Some.is
    c.in_ok-came.ensures.only)

pub returns-in-Some-clause-takes : goal.returns-in-Some-clause-takes
returns-in-Some-clause-takes g c = takes_then g.L.Listener.did c.args.listener.now c.loop-left.listener
    c.wait_inside.new.listener c.args.inside.now.taken c.args.inside.now.numbers.items c.loop-left.inside.taken
    c.loop-left.inside.numbers.items c.wait_inside.new.inside.taken c.wait_inside.new.inside.numbers.items
    (Some c.in-Some.event) c.loop-left.invariant.takes
    (subst (λ e. TakesClients g.L.Listener.did c.loop-left.listener c.wait_inside.new.listener
    c.loop-left.inside.taken c.loop-left.inside.numbers.items c.wait_inside.new.inside.taken
    c.wait_inside.new.inside.numbers.items e) c.in-Some.is c.in_ok-came.ensures.takes)

pub returns-in-Some-clause-goes_on : goal.returns-in-Some-clause-goes_on
returns-in-Some-clause-goes_on g c = served_then g.M.Machine.agrees g.M.Machine.wants g.L.Client.NonBlocking.did
    (g.P.Poller.time c.args.poller.now) (g.P.Poller.time c.loop-left.poller)
    (g.P.Poller.time c.wait_inside.new.poller) c.args.inside.now.all.places c.loop-left.inside.all.places
    c.wait_inside.new.inside.all.places (Some c.in-Some.event) c.in_ok-came.ensures.later
    c.loop-left.invariant.goes_on
    (subst (λ e. ServesOn g.M.Machine.agrees g.M.Machine.wants g.L.Client.NonBlocking.did
    (g.P.Poller.time c.loop-left.poller) (g.P.Poller.time c.wait_inside.new.poller) c.loop-left.inside.all.places
    c.wait_inside.new.inside.all.places e) c.in-Some.is c.in_ok-came.ensures.goes_on)
