-- It goes on, step after step.
use Rattle.std.proofs.Common.{None, Option, Some, rules, subst, sym}
use Rattle.std.proofs.lemmas.Result.{err_from_is_err_and}
use Rattle.ws_frame.specs.Devices.{watched}
use Rattle.ws_relays.specs.InnerRelays.{RelayOn, StopsTelling}
use Rattle.ws_relays.specs.declared.relays.RelayEvent.{RelayEvent}
use Rattle.ws_relays.specs.declared.relays.RelayFault.{RelayFault}
use Rattle.ws_relays.proofs.RelayRuns.{on_nothing, on_stops, on_then, standing_on}
use Rattle.ws_relays.proofs.relays.Relays.next.Goals as goal

pub loop-left-init : goal.loop-left-init
loop-left-init g c = record {
  room = c.requires.room;
  works = c.requires.works;
  stood = c.requires.standing;
  on = on_nothing g.S.NonBlocking.did g.L.Listener.did g.N.Network.did c.args.listener.now c.args.network.now
      c.args.self.now _ _ c.requires.works;
}

pub step-requires-clause-standing : goal.step-requires-clause-standing
step-requires-clause-standing g c =
    standing_on g.S.NonBlocking.did g.L.Listener.did g.N.Network.did c.args.listener.now c.loop-left.listener
    c.args.network.now c.loop-left.network c.args.self.now c.loop-left.self _ None c.loop-left.invariant.on
    c.loop-left.invariant.stood

pub returns-in_err-event : goal.returns-in_err-event
returns-in_err-event g c =
    let p = err_from_is_err_and c.from_residual.result c.from_residual.ensures.1 in
    let out = watched g.O.Write.contents c.loop-left.output c.step.new.output in
    rw p.1 (record {
      goes = on_stops g.S.NonBlocking.did g.L.Listener.did g.N.Network.did c.args.listener.now c.loop-left.listener
          c.args.network.now c.loop-left.network c.args.self.now c.loop-left.self _ _ _ _ _ p.0
          c.loop-left.invariant.stood c.loop-left.invariant.on
          (subst (λ (why : RelayFault). StopsTelling out why) (sym p.2) c.in_err-event.ensures.goes);
    })

pub returns-in-Some : goal.returns-in-Some
returns-in-Some g c =
    let out = watched g.O.Write.contents c.loop-left.output c.step.new.output in
    record {
      goes = on_then g.S.NonBlocking.did g.L.Listener.did g.N.Network.did c.args.listener.now c.loop-left.listener
          c.step.new.listener c.args.network.now c.loop-left.network c.step.new.network c.args.self.now
          c.loop-left.self c.step.new.self _ _ _ _ _ (Some c.in-Some.event) c.loop-left.invariant.on
          (subst (λ (told : Option RelayEvent). RelayOn g.S.NonBlocking.did g.L.Listener.did g.N.Network.did
          c.loop-left.listener c.step.new.listener c.loop-left.network c.step.new.network c.loop-left.self
          c.step.new.self out told) c.in-Some.is c.in_ok-event.ensures.goes);
    }

pub loop-left-preserved : goal.loop-left-preserved
loop-left-preserved g c =
    let out = watched g.O.Write.contents c.loop-left.output c.step.new.output in
    record {
      room = search rules;
      works = c.in_ok-event.ensures.goes.works;
      stood = c.loop-left.invariant.stood;
      on = on_then g.S.NonBlocking.did g.L.Listener.did g.N.Network.did c.args.listener.now c.loop-left.listener
          c.step.new.listener c.args.network.now c.loop-left.network c.step.new.network c.args.self.now
          c.loop-left.self c.step.new.self _ _ _ _ _ None c.loop-left.invariant.on
          (subst (λ (told : Option RelayEvent). RelayOn g.S.NonBlocking.did g.L.Listener.did g.N.Network.did
          c.loop-left.listener c.step.new.listener c.loop-left.network c.step.new.network c.loop-left.self
          c.step.new.self out told) c.in_default.is c.in_ok-event.ensures.goes);
    }
