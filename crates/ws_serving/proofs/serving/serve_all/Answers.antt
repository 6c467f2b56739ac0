-- Clients are served until the last end was told, or the serving ends otherwise.
use Rattle.std.proofs.Common.{◌≡◌, ◌∙◌, None, Some, ap, arith, false, refl, rules, subst, sym, true}
use Rattle.ws_loops.specs.declared.fault.LoopFault.TheVariants.{WaitFailed}
use Rattle.ws_serving.specs.ClientEnds.{known_to}
use Rattle.ws_serving.specs.InnerGuests.{AreEchoes}
use Rattle.ws_serving.specs.InnerServing.{KeepsServing, StopsServing, is_last, most_told}
use Rattle.ws_serving.specs.declared.guests.Service.{Service}
use Rattle.ws_serving.proofs.StepLemmas.{begins_serving, done_step, goes_none, stopped_step, stops_some}
use Rattle.ws_serving.proofs.serving.serve_all.Goals as goal

pub loop-left-init : goal.loop-left-init
loop-left-init g c = record {
  room = c.requires.room;
  service = refl;
  serving = begins_serving g.L.Client.NonBlocking.did g.L.Listener.did g.E.NewsSink.heard
      c.args.guests.now.service.now c.args.guests.now.listener c.args.sink.now c.args.guests.now.clients _
      c.requires.ready refl refl;
  few = omega arith;
}

pub advance-requires-clause-known : goal.advance-requires-clause-known
advance-requires-clause-known g c =
    let at = c.loop-left.invariant in
    at.serving.known ∙ ap (λ (s : Service). known_to s) (sym at.service)

pub advance-requires-clause-plays : goal.advance-requires-clause-plays
advance-requires-clause-plays g c =
    let at = c.loop-left.invariant in
    subst (λ (s : Service). AreEchoes g.L.Client.NonBlocking.did s c.loop-left.guests.clients.places) (sym at.service)
    at.serving.plays

pub loop-left-preserved : goal.loop-left-preserved
loop-left-preserved g c =
    let at = c.loop-left in
    let none : c.advance.result ≡ None = c.in_default.is in
    let keeps = subst (λ (s : Service). KeepsServing g.L.Client.NonBlocking.did g.L.Listener.did g.E.NewsSink.heard s
    at.guests.listener c.advance.new.guests.listener at.sink c.advance.new.sink at.guests.clients
    c.advance.new.guests.clients at.said c.advance.new.said) at.invariant.service
    (goes_none g.L.Client.NonBlocking.did g.L.Listener.did g.E.NewsSink.heard at.guests.service.now
    g.E.NewsSink.refused at.guests.listener c.advance.new.guests.listener at.sink c.advance.new.sink at.guests.clients
    c.advance.new.guests.clients at.said c.advance.new.said c.advance.result none c.advance.ensures.goes) in record {
      room = c.advance.ensures.room;
      service = c.advance.ensures.service none ∙ at.invariant.service;
      serving = keeps c.args.guests.now.listener c.args.sink.now at.invariant.serving;
      few = omega (arith, at.invariant.few, c.advance.ensures.few);
    }

pub returns-in-Some-clause-serves : goal.returns-in-Some-clause-serves
returns-in-Some-clause-serves g c =
    let at = c.loop-left in
    let more : is_last at.guests.service.now.count at.said.told ≡ false = search rules in
    let stops = subst (λ (s : Service). StopsServing g.L.Client.NonBlocking.did g.L.Listener.did g.E.NewsSink.heard
    g.E.NewsSink.refused s at.guests.listener at.sink c.advance.new.sink at.guests.clients at.said c.in-Some.end)
    at.invariant.service
    (stops_some g.L.Client.NonBlocking.did g.L.Listener.did g.E.NewsSink.heard at.guests.service.now
    g.E.NewsSink.refused at.guests.listener c.advance.new.guests.listener at.sink c.advance.new.sink at.guests.clients
    c.advance.new.guests.clients at.said c.advance.new.said c.advance.result c.in-Some.end c.in-Some.is
    c.advance.ensures.goes) in
    stops c.args.guests.now.listener c.args.sink.now at.invariant.serving
    (subst (λ (s : Service). is_last s.count at.said.told ≡ false) at.invariant.service more)

pub returns-then-is_last-clause-serves : goal.returns-then-is_last-clause-serves
returns-then-is_last-clause-serves g c =
    let at = c.loop-left in
    let all : is_last at.guests.service.now.count at.said.told ≡ true = search rules in
    done_step g.L.Client.NonBlocking.did g.L.Listener.did g.E.NewsSink.heard c.args.guests.now.service.now
    g.E.NewsSink.refused c.args.guests.now.listener c.args.sink.now at.guests.listener at.sink at.guests.clients at.said
    at.invariant.serving (subst (λ (s : Service). is_last s.count at.said.told ≡ true) at.invariant.service all)

pub returns-else-is_last-clause-serves : goal.returns-else-is_last-clause-serves
returns-else-is_last-clause-serves g c =
    let at = c.loop-left in
    let more : is_last at.guests.service.now.count at.said.told ≡ false = search rules in
    stopped_step g.L.Client.NonBlocking.did g.L.Listener.did g.E.NewsSink.heard c.args.guests.now.service.now
    g.E.NewsSink.refused c.args.guests.now.listener c.args.sink.now at.guests.listener at.sink at.guests.clients at.said
    WaitFailed at.invariant.serving (subst (λ (s : Service). is_last s.count at.said.told ≡ false) at.invariant.service more)
