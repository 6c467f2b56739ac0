-- A round by the present time is a run until then.
use Rattle.std.proofs.Common.{ℕ, arith, subst}
use Rattle.ws_loops.specs.Loops.{AreServedInTime}
use Rattle.ws_loops.proofs.LoopLemmas.{round_in_time}
use Rattle.ws_loops.proofs.PlaceLemmas.{kinds_same}
use Rattle.ws_loops.proofs.RoundLemmas.{round_runs}
use Rattle.ws_loops.proofs.inside.run_round.Goals as goal

pub returns-clause-run : goal.returns-clause-run
returns-clause-run g c =
    let time = g.P.Poller.time in
    round_runs g.M.Machine.agrees g.M.Machine.wants g.S.NonBlocking.did g.K.LineSink.heard
    _ (time c.args.poller.now) c.now-now.result
    (time c.now-now.new.self) c.args.inside.now.seats.places.items c.serve_found.new.inside.seats.places.items
    c.args.sink.now c.serve_found.new.sink
    (omega (arith, c.now.ensures.later, c.in_ok-count.ensures.time, c.now-now.ensures.later, c.now-now.ensures.now))
    (omega (arith, c.now-now.ensures.now)) c.in_ok-serve_found.ensures.round

pub returns-in_err-count-clause-kinds : goal.returns-in_err-count-clause-kinds
returns-in_err-count-clause-kinds g c = kinds_same c.args.inside.now.seats.places.items

pub returns-clause-later : goal.returns-clause-later
returns-clause-later g c = omega (
  arith,
  c.now.ensures.later,
  c.in_ok-count.ensures.time,
  c.now-now.ensures.later,
)

pub returns-clause-served : goal.returns-clause-served
returns-clause-served g c = subst (λ (n : ℕ). AreServedInTime g.M.Machine.agrees g.M.Machine.wants g.S.NonBlocking.did n
    c.serve_found.new.inside.seats.places.items) c.now-now.ensures.now
    (round_in_time g.M.Machine.agrees g.M.Machine.wants g.S.NonBlocking.did g.K.LineSink.heard _ c.now-now.result
    c.args.inside.now.seats.places.items c.serve_found.new.inside.seats.places.items c.args.sink.now
    c.serve_found.new.sink c.in_ok-serve_found.ensures.round)
