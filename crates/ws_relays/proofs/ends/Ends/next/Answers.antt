-- All goes on so far, and then something has come.
use Rattle.std.proofs.Common.{[], rules}
use Rattle.ws_relays.specs.EndPlaces.{HasComeAmong, HasHeardThen, heard_by}
use Rattle.ws_relays.proofs.EndPlaceLemmas.{all_same, all_then, came_none, came_some, came_then, heard_more, heard_none}
use Rattle.ws_relays.proofs.ends.Ends.next.Goals as goal

pub loop-left-init : goal.loop-left-init
loop-left-init g c = record {
  room = c.requires.room;
  goes = all_same g.S.NonBlocking.did c.args.self.now;
  heard = heard_none g.L.Listener.did c.args.listener.now;
}

pub loop-left-preserved : goal.loop-left-preserved
loop-left-preserved g c = record {
  room = search rules;
  goes = all_then g.S.NonBlocking.did c.args.self.now c.loop-left.self c.wait.new.self c.loop-left.invariant.goes
      (came_none c.in_ok-came.came _ (HasComeAmong g.S.NonBlocking.did c.loop-left.self c.wait.new.self)
      c.in_default.is c.in_ok-came.ensures.came);
  heard = heard_more g.L.Listener.did c.args.listener.now c.loop-left.listener c.wait.new.listener []
      c.loop-left.invariant.heard
      (came_none c.in_ok-came.came _
      (λ e. HasHeardThen g.L.Listener.did c.loop-left.listener c.wait.new.listener (heard_by e)) c.in_default.is
      c.in_ok-came.ensures.heard);
}

pub returns-in-Some-clause-came : goal.returns-in-Some-clause-came
returns-in-Some-clause-came g c =
    came_then g.S.NonBlocking.did c.args.self.now c.loop-left.self c.wait.new.self c.in-Some.came
    c.loop-left.invariant.goes
    (came_some c.in_ok-came.came c.in-Some.came _
    (HasComeAmong g.S.NonBlocking.did c.loop-left.self c.wait.new.self) c.in-Some.is c.in_ok-came.ensures.came)

pub returns-in-Some-clause-heard : goal.returns-in-Some-clause-heard
returns-in-Some-clause-heard g c =
    heard_more g.L.Listener.did c.args.listener.now c.loop-left.listener c.wait.new.listener (heard_by c.in-Some.came)
    c.loop-left.invariant.heard
    (came_some c.in_ok-came.came c.in-Some.came _
    (λ e. HasHeardThen g.L.Listener.did c.loop-left.listener c.wait.new.listener (heard_by e)) c.in-Some.is
    c.in_ok-came.ensures.heard)
