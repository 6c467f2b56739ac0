-- A client that is lost is told behind one round more, by which the slots were served.
use Rattle.std.proofs.Common.{◌∙◌, ℕ, List, Option, arith, subst}
use Rattle.ws_loops.specs.Listeners.{HasHeardFor, IsDeafBehind}
use Rattle.ws_loops.specs.Looping.{loop_value}
use Rattle.ws_loops.specs.Places.{KeepTurns}
use Rattle.ws_loops.proofs.LoopLemmas.{keep_then, turns_kept}
use Rattle.ws_loops.proofs.PlaceLemmas.{kinds_then}
use Rattle.ws_loops.proofs.RoundLemmas.{runs_still, runs_then}
use Rattle.ws_loops.proofs.listening.listen_in_turn.Goals as goal

pub returns-in_ok-run_round-in-Lost-clause-run : goal.returns-in_ok-run_round-in-Lost-clause-run
returns-in_ok-run_round-in-Lost-clause-run g c =
    let agrees = g.M.Machine.agrees in
    let wants = g.M.Machine.wants in
    let did = g.L.Client.NonBlocking.did in
    let heard = g.K.LineSink.heard in
    let time = g.P.Poller.time in
    let first = c.args.inside.now.seats.places.items in
    let mid = c.listen_inside.new.inside.seats.places.items in
    let after = c.run_round.new.inside.seats.places.items in
    let sink = c.listen_inside.new.sink in
    let asked = time c.now-now.new.self in
    let waited = runs_then agrees wants did heard (time c.args.poller.now) (time c.listen_inside.new.poller) asked
    c.now-now.ensures.later first mid mid c.args.sink.now sink sink c.in_ok-arrival.ensures.run
    (runs_still agrees wants did heard (time c.listen_inside.new.poller) asked mid sink c.now-now.ensures.later) in
    runs_then agrees wants did heard (time c.args.poller.now) asked (time c.run_round.new.poller)
    c.in_ok-run_round-in-Lost.ensures.later first mid after c.args.sink.now sink c.run_round.new.sink waited
    c.in_ok-run_round-in-Lost.ensures.run

pub returns-in_ok-run_round-in-Lost-clause-asked : goal.returns-in_ok-run_round-in-Lost-clause-asked
returns-in_ok-run_round-in-Lost-clause-asked g c = subst (λ a. HasHeardFor g.L.Listener.did c.args.listener.now
    c.listen_inside.new.listener (loop_value c.listen_inside.new.inside) a) c.in-Lost.is c.in_ok-arrival.ensures.asked

pub returns-in_ok-run_round-in-Lost-clause-turns : goal.returns-in_ok-run_round-in-Lost-clause-turns
returns-in_ok-run_round-in-Lost-clause-turns g c =
    let mid = c.listen_inside.new.inside.seats in
    let ran = c.in_ok-run_round-in-Lost.ensures in
    let whole = c.in_ok-arrival.ensures.whole in
    keep_then c.args.inside.now.seats.tickets.items mid.tickets.items c.run_round.new.inside.seats.tickets.items
    c.in_ok-arrival.ensures.turns
    (turns_kept g.M.Machine.agrees g.M.Machine.wants mid c.run_round.new.inside.seats.tickets.items whole.standing
    (omega (arith, ran.whole.standing.tickets, ran.run.len, whole.standing.tickets)) ran.turns)

pub returns-in_ok-run_round-in-Lost-clause-deaf : goal.returns-in_ok-run_round-in-Lost-clause-deaf
returns-in_ok-run_round-in-Lost-clause-deaf g c =
    let (before, behind) = subst (λ a. IsDeafBehind c.args.inside.now.door.deaf a c.listen_inside.new.inside.door.deaf)
    c.in-Lost.is c.in_ok-arrival.ensures.deaf in
    (before, c.in_ok-run_round-in-Lost.ensures.deaf ∙ behind)

pub returns-in_ok-run_round-in-Lost-clause-later : goal.returns-in_ok-run_round-in-Lost-clause-later
returns-in_ok-run_round-in-Lost-clause-later g c = omega (
  arith,
  c.in_ok-arrival.ensures.later,
  c.now-now.ensures.later,
  c.in_ok-run_round-in-Lost.ensures.later,
)

pub returns-in_ok-run_round-in-Lost-clause-kinds : goal.returns-in_ok-run_round-in-Lost-clause-kinds
returns-in_ok-run_round-in-Lost-clause-kinds g c = kinds_then c.args.inside.now.seats.places.items
    c.listen_inside.new.inside.seats.places.items c.run_round.new.inside.seats.places.items
    c.in_ok-arrival.ensures.kinds c.in_ok-run_round-in-Lost.ensures.kinds

pub returns-in_err-run_round-in-Lost-clause-kinds : goal.returns-in_err-run_round-in-Lost-clause-kinds
returns-in_err-run_round-in-Lost-clause-kinds g c = kinds_then c.args.inside.now.seats.places.items
    c.listen_inside.new.inside.seats.places.items c.run_round.new.inside.seats.places.items
    c.in_ok-arrival.ensures.kinds c.in_err-run_round-in-Lost.ensures.kinds
