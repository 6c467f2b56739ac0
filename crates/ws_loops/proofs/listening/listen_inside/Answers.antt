-- Each place goes on by a round more, and the listener is asked in vain until something arrives.
use Rattle.std.proofs.Common.{◌≡◌, ◌∙◌, ℕ, [], List, Option, arith, inl, inr, refl, subst, sym}
use Rattle.ws_loops.specs.Listeners.{IfRoundMadeFor, IsDeafBehind}
use Rattle.ws_loops.specs.Looping.{loop_value}
use Rattle.ws_loops.specs.Loops.{AreServedInTime, HaveRun}
use Rattle.ws_loops.specs.Places.{KeepTurns, StayOfKind}
use Rattle.ws_loops.specs.declared.places.Place.{Place}
use Rattle.ws_loops.proofs.ListenLemmas.{arrived_so, heard_for, heard_nothing, heard_then, round_made_for}
use Rattle.ws_loops.proofs.LoopLemmas.{keep_still, keep_then, turns_kept}
use Rattle.ws_loops.proofs.PlaceLemmas.{kinds_same, kinds_then}
use Rattle.ws_loops.proofs.RoundLemmas.{runs_still, runs_then}
use Rattle.ws_loops.proofs.listening.listen_inside.Goals as goal

pub loop-arrival-init : goal.loop-arrival-init
loop-arrival-init g c =
    let seats = c.args.inside.now.seats in
    let time = g.P.Poller.time in
    record {
      room = c.requires.room;
      whole = c.requires.whole;
      run = runs_still g.M.Machine.agrees g.M.Machine.wants g.L.Client.NonBlocking.did g.K.LineSink.heard
          (time c.args.poller.now) (time c.now-now.new.self) seats.places.items c.args.sink.now c.now-now.ensures.later;
      later = c.now-now.ensures.later;
      now = c.now-now.ensures.now;
      turns = keep_still seats.tickets.items;
      deaf = refl;
      kinds = kinds_same seats.places.items;
      heard = heard_nothing g.L.Listener.did c.args.listener.now;
      late = inl (refl, refl);
    }

pub loop-arrival-preserved : goal.loop-arrival-preserved
loop-arrival-preserved g c =
    let agrees = g.M.Machine.agrees in
    let wants = g.M.Machine.wants in
    let did = g.L.Client.NonBlocking.did in
    let heard = g.K.LineSink.heard in
    let time = g.P.Poller.time in
    let first = c.args.inside.now.seats in
    let before = c.loop-arrival.inside.seats in
    let mid = c.arrival_by.new.inside.seats in
    let after = c.run_round.new.inside.seats in
    let same = c.arrival_by.ensures.same in
    let ran = c.in_ok-now-in-None.ensures in
    let gone : HaveRun agrees wants did heard (time c.loop-arrival.poller) (time c.run_round.new.poller)
    before.places.items after.places.items c.loop-arrival.sink c.run_round.new.sink =
    subst (λ (l : List (Place g.row.M.Denot g.row.L-Client.Denot)). HaveRun agrees wants did heard
    (time c.loop-arrival.poller) (time c.run_round.new.poller) l after.places.items c.loop-arrival.sink
    c.run_round.new.sink) same.places ran.run in
    let kept : KeepTurns before.tickets.items after.tickets.items =
    subst (λ (l : List (Option ℕ)). KeepTurns l after.tickets.items) same.tickets
    (turns_kept agrees wants mid after.tickets.items c.arrival_by.ensures.whole.standing (omega (
      arith,
      ran.whole.standing.tickets,
      ran.run.len,
      c.arrival_by.ensures.whole.standing.tickets,
    )) ran.turns) in
    record {
      room = omega (arith, c.loop-arrival.invariant.room, ran.len);
      whole = ran.whole;
      run = runs_then agrees wants did heard (time c.args.poller.now) (time c.loop-arrival.poller)
          (time c.run_round.new.poller) ran.later first.places.items before.places.items after.places.items c.args.sink.now
          c.loop-arrival.sink c.run_round.new.sink c.loop-arrival.invariant.run gone;
      later = omega (arith, c.loop-arrival.invariant.later, ran.later);
      now = ran.now;
      turns = keep_then first.tickets.items before.tickets.items after.tickets.items c.loop-arrival.invariant.turns
          kept;
      kinds = kinds_then first.places.items before.places.items after.places.items c.loop-arrival.invariant.kinds
          (subst (λ l. StayOfKind l after.places.items) same.places ran.kinds);
      deaf = ran.deaf ∙ (c.in-None.ensures.deaf ∙ c.loop-arrival.invariant.deaf);
      heard = heard_then g.L.Listener.did c.args.listener.now c.loop-arrival.listener c.arrival_by.new.listener []
          c.loop-arrival.invariant.heard c.in-None.ensures.asked;
      late = inr (refl, ran.served);
    }

pub returns-in-Some-clause-run : goal.returns-in-Some-clause-run
returns-in-Some-clause-run g c =
    let time = g.P.Poller.time in
    subst (λ (l : List (Place g.row.M.Denot g.row.L-Client.Denot)). HaveRun g.M.Machine.agrees g.M.Machine.wants
    g.L.Client.NonBlocking.did g.K.LineSink.heard (time c.args.poller.now) (time c.loop-arrival.poller)
    c.args.inside.now.seats.places.items l c.args.sink.now c.loop-arrival.sink)
    (sym c.arrival_by.ensures.same.places) c.loop-arrival.invariant.run

pub returns-in-Some-clause-turns : goal.returns-in-Some-clause-turns
returns-in-Some-clause-turns g c =
    subst (λ (l : List (Option ℕ)). KeepTurns c.args.inside.now.seats.tickets.items l)
    (sym c.arrival_by.ensures.same.tickets) c.loop-arrival.invariant.turns

pub returns-in-Some-clause-arrived : goal.returns-in-Some-clause-arrived
returns-in-Some-clause-arrived g c =
    let now = g.P.Poller.time c.loop-arrival.poller in
    arrived_so g.M.Machine.wants g.L.Client.NonBlocking.did c.loop-arrival.late c.args.until c.loop-arrival.now
    (loop_value c.arrival_by.new.inside) now c.in-Some.arrival
    (c.loop-arrival.inside.seats.tickets.items ≡ c.args.inside.now.seats.tickets.items)
    (AreServedInTime g.M.Machine.agrees g.M.Machine.wants g.L.Client.NonBlocking.did now c.loop-arrival.inside.seats.places.items)
    c.loop-arrival.invariant.late c.loop-arrival.invariant.now c.in-Some.ensures.arrived

pub returns-in-Some-clause-served : goal.returns-in-Some-clause-served
returns-in-Some-clause-served g c =
    let now = g.P.Poller.time c.loop-arrival.poller in
    subst (λ l. IfRoundMadeFor c.args.inside.now.seats.tickets.items c.in-Some.arrival
    (AreServedInTime g.M.Machine.agrees g.M.Machine.wants g.L.Client.NonBlocking.did now l)) (sym c.arrival_by.ensures.same.places)
    (round_made_for g.M.Machine.wants g.L.Client.NonBlocking.did c.loop-arrival.late c.args.until c.loop-arrival.now
    (loop_value c.arrival_by.new.inside) c.args.inside.now.seats.tickets.items c.loop-arrival.inside.seats.tickets.items
    c.in-Some.arrival
    (AreServedInTime g.M.Machine.agrees g.M.Machine.wants g.L.Client.NonBlocking.did now c.loop-arrival.inside.seats.places.items)
    c.arrival_by.ensures.same.tickets c.loop-arrival.invariant.late c.in-Some.ensures.arrived)

pub returns-in-Some-clause-asked : goal.returns-in-Some-clause-asked
returns-in-Some-clause-asked g c = heard_for g.L.Listener.did c.args.listener.now c.loop-arrival.listener
    c.arrival_by.new.listener (loop_value c.arrival_by.new.inside) c.in-Some.arrival c.loop-arrival.invariant.heard
    c.in-Some.ensures.asked

pub returns-in-Some-clause-deaf : goal.returns-in-Some-clause-deaf
returns-in-Some-clause-deaf g c = subst (λ b. IsDeafBehind b c.in-Some.arrival c.arrival_by.new.inside.door.deaf)
    c.loop-arrival.invariant.deaf c.in-Some.ensures.deaf

pub returns-in-Some-clause-kinds : goal.returns-in-Some-clause-kinds
returns-in-Some-clause-kinds g c = subst (λ l. StayOfKind c.args.inside.now.seats.places.items l)
    (sym c.arrival_by.ensures.same.places) c.loop-arrival.invariant.kinds

pub returns-in_err-now-in-None-clause-kinds : goal.returns-in_err-now-in-None-clause-kinds
returns-in_err-now-in-None-clause-kinds g c = kinds_then c.args.inside.now.seats.places.items
    c.loop-arrival.inside.seats.places.items c.run_round.new.inside.seats.places.items c.loop-arrival.invariant.kinds
    (subst (λ l. StayOfKind l c.run_round.new.inside.seats.places.items) c.arrival_by.ensures.same.places c.in_err-now-in-None.ensures.kinds)

pub returns-in-Some-clause-room : goal.returns-in-Some-clause-room
returns-in-Some-clause-room g c = c.loop-arrival.invariant.room
