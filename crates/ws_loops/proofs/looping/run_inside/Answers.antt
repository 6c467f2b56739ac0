-- Each place goes on by a round more, and those that end in it get later numbers.
use Rattle.std.proofs.Common.{◌≡◌, ◌∙◌, ℕ, List, Option, arith, inl, inr, refl, subst, sym}
use Rattle.ws_loops.specs.Looping.{IfRoundMade, loop_value}
use Rattle.ws_loops.specs.Loops.{AreServedInTime, HaveRun}
use Rattle.ws_loops.specs.Places.{KeepTurns, StayOfKind}
use Rattle.ws_loops.specs.declared.places.Place.{Place}
use Rattle.ws_loops.proofs.LoopLemmas.{ending_so, keep_still, keep_then, round_made, turns_kept}
use Rattle.ws_loops.proofs.PlaceLemmas.{kinds_same, kinds_then}
use Rattle.ws_loops.proofs.RoundLemmas.{runs_still, runs_then}
use Rattle.ws_loops.proofs.looping.run_inside.Goals as goal

pub loop-ending-init : goal.loop-ending-init
loop-ending-init g c =
    let seats = c.args.inside.now.seats in
    let time = g.P.Poller.time in
    record {
      room = c.requires.room;
      whole = c.requires.whole;
      run = runs_still g.M.Machine.agrees g.M.Machine.wants g.S.NonBlocking.did g.K.LineSink.heard
          (time c.args.poller.now) (time c.now-now.new.self) seats.places.items c.args.sink.now c.now-now.ensures.later;
      later = c.now-now.ensures.later;
      now = c.now-now.ensures.now;
      turns = keep_still seats.tickets.items;
      deaf = refl;
      kinds = kinds_same seats.places.items;
      late = inl (refl, refl);
    }

pub loop-ending-preserved : goal.loop-ending-preserved
loop-ending-preserved g c =
    let agrees = g.M.Machine.agrees in
    let wants = g.M.Machine.wants in
    let did = g.S.NonBlocking.did in
    let heard = g.K.LineSink.heard in
    let time = g.P.Poller.time in
    let first = c.args.inside.now.seats in
    let before = c.loop-ending.inside.seats in
    let mid = c.ending_by.new.inside.seats in
    let after = c.run_round.new.inside.seats in
    let same = c.ending_by.ensures.same.seats in
    let ran = c.in_ok-now.ensures in
    let gone : HaveRun agrees wants did heard (time c.loop-ending.poller) (time c.run_round.new.poller)
    before.places.items after.places.items c.loop-ending.sink c.run_round.new.sink =
    subst (λ (l : List (Place g.row.M.Denot g.row.S.Denot)). HaveRun agrees wants did heard (time c.loop-ending.poller)
    (time c.run_round.new.poller) l after.places.items c.loop-ending.sink c.run_round.new.sink) same.places ran.run in
    let kept : KeepTurns before.tickets.items after.tickets.items =
    subst (λ (l : List (Option ℕ)). KeepTurns l after.tickets.items) same.tickets
    (turns_kept agrees wants mid after.tickets.items c.ending_by.ensures.whole.standing (omega (
      arith,
      ran.whole.standing.tickets,
      ran.run.len,
      c.ending_by.ensures.whole.standing.tickets,
    )) ran.turns) in
    record {
      room = omega (arith, c.loop-ending.invariant.room, ran.len);
      whole = ran.whole;
      run = runs_then agrees wants did heard (time c.args.poller.now) (time c.loop-ending.poller)
          (time c.run_round.new.poller) ran.later first.places.items before.places.items after.places.items c.args.sink.now
          c.loop-ending.sink c.run_round.new.sink c.loop-ending.invariant.run gone;
      later = omega (arith, c.loop-ending.invariant.later, ran.later);
      now = ran.now;
      turns = keep_then first.tickets.items before.tickets.items after.tickets.items c.loop-ending.invariant.turns
          kept;
      kinds = kinds_then first.places.items before.places.items after.places.items c.loop-ending.invariant.kinds
          (subst (λ l. StayOfKind l after.places.items) same.places ran.kinds);
      deaf = ran.deaf ∙ (c.ending_by.ensures.same.deaf ∙ c.loop-ending.invariant.deaf);
      late = inr (refl, ran.served);
    }

pub returns-in-Some-clause-run : goal.returns-in-Some-clause-run
returns-in-Some-clause-run g c =
    let time = g.P.Poller.time in
    subst (λ (l : List (Place g.row.M.Denot g.row.S.Denot)). HaveRun g.M.Machine.agrees g.M.Machine.wants
    g.S.NonBlocking.did g.K.LineSink.heard (time c.args.poller.now) (time c.loop-ending.poller)
    c.args.inside.now.seats.places.items l c.args.sink.now c.loop-ending.sink)
    (sym c.ending_by.ensures.same.seats.places) c.loop-ending.invariant.run

pub returns-in-Some-clause-turns : goal.returns-in-Some-clause-turns
returns-in-Some-clause-turns g c =
    subst (λ (l : List (Option ℕ)). KeepTurns c.args.inside.now.seats.tickets.items l)
    (sym c.ending_by.ensures.same.seats.tickets) c.loop-ending.invariant.turns

pub returns-in-Some-clause-ending : goal.returns-in-Some-clause-ending
returns-in-Some-clause-ending g c =
    let now = g.P.Poller.time c.loop-ending.poller in
    ending_so g.M.Machine.wants c.loop-ending.late c.args.until c.loop-ending.now
    (loop_value c.ending_by.new.inside) now c.in-Some.ending
    (c.loop-ending.inside.seats.tickets.items ≡ c.args.inside.now.seats.tickets.items)
    (AreServedInTime g.M.Machine.agrees g.M.Machine.wants g.S.NonBlocking.did now c.loop-ending.inside.seats.places.items)
    c.loop-ending.invariant.late c.loop-ending.invariant.now c.in-Some.ensures.ending

pub returns-in-Some-clause-served : goal.returns-in-Some-clause-served
returns-in-Some-clause-served g c =
    let now = g.P.Poller.time c.loop-ending.poller in
    subst (λ l. IfRoundMade c.args.inside.now.seats.tickets.items c.in-Some.ending
    (AreServedInTime g.M.Machine.agrees g.M.Machine.wants g.S.NonBlocking.did now l)) (sym c.ending_by.ensures.same.seats.places)
    (round_made g.M.Machine.wants c.loop-ending.late c.args.until c.loop-ending.now
    (loop_value c.ending_by.new.inside) c.args.inside.now.seats.tickets.items c.loop-ending.inside.seats.tickets.items
    c.in-Some.ending
    (AreServedInTime g.M.Machine.agrees g.M.Machine.wants g.S.NonBlocking.did now c.loop-ending.inside.seats.places.items)
    c.ending_by.ensures.same.seats.tickets c.loop-ending.invariant.late c.in-Some.ensures.ending)

pub returns-in-Some-clause-kinds : goal.returns-in-Some-clause-kinds
returns-in-Some-clause-kinds g c = subst (λ l. StayOfKind c.args.inside.now.seats.places.items l)
    (sym c.ending_by.ensures.same.seats.places) c.loop-ending.invariant.kinds

pub returns-in_err-now-clause-kinds : goal.returns-in_err-now-clause-kinds
returns-in_err-now-clause-kinds g c = kinds_then c.args.inside.now.seats.places.items
    c.loop-ending.inside.seats.places.items c.run_round.new.inside.seats.places.items c.loop-ending.invariant.kinds
    (subst (λ l. StayOfKind l c.run_round.new.inside.seats.places.items) c.ending_by.ensures.same.seats.places c.in_err-now.ensures.kinds)
