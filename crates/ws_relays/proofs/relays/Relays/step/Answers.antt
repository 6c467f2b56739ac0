-- What has happened was waited for, and seen to.
use Rattle.std.proofs.Common.{arith, refl}
use Rattle.std.proofs.lemmas.Result.{err_from_is_err_and}
use Rattle.ws_relays.proofs.RelayRuns.{silent_stops, stood_then}
use Rattle.ws_relays.proofs.RelaySees.{step_goes}
use Rattle.ws_relays.proofs.relays.Relays.step.Goals as goal

pub returns-in_err-came : goal.returns-in_err-came
returns-in_err-came g c =
    let p = err_from_is_err_and c.from_residual.result c.from_residual.ensures.1 in
    rw p.1 (record { goes = silent_stops _ _ _ p.2 c.requires.works })

pub see_to-requires-clause-stood : goal.see_to-requires-clause-stood
see_to-requires-clause-stood g c =
    let (tapping, all, h) = c.requires.standing in (
      tapping,
      all,
      stood_then g.S.NonBlocking.did g.L.Listener.did g.N.Network.did c.args.self.now _ c.in_ok-came.came tapping all
          (omega (arith, c.max-self.ensures)) refl refl refl refl refl c.in_ok-came.ensures.came h,
    )

pub returns : goal.returns
returns g c = record {
  goes = step_goes g.S.NonBlocking.did g.L.Listener.did g.N.Network.did c.args.listener.now c.next.new.listener
      c.args.network.now c.see_to.new.network c.args.self.now (record c.args.self.now {
        ends = c.next.new.self;
        time = c.max-self.result;
      }) c.see_to.new.self c.in_ok-came.came _ c.see_to.result (omega (arith, c.max-self.ensures)) refl refl refl refl
      refl c.in_ok-came.ensures.came c.in_ok-came.ensures.heard c.see_to.ensures.sees;
}
