-- It is known whose turn it is once somebody waits whose turn it is, or once it is said why there is none.
use Rattle.std.proofs.Common.{Option, subst}
use Rattle.std.specs.Prelude.{IfSome}
use Rattle.std.proofs.KnownBytes.{Keeps-refl}
use Rattle.ws_frame.specs.Devices.{watched}
use Rattle.ws_frame.specs.Watching.{has_failed, inner_of}
use Rattle.wst_clients.specs.Turns.{IsTurn, IsTurnAt, IsWhyNone, met_clients}
use Rattle.wst_clients.specs.declared.visiting.NoVisit.{NoVisit}
use Rattle.wst_clients.specs.declared.visiting.Turn.{Turn}
use Rattle.wst_clients.proofs.TurnLemmas.{passed_none, passed_then, turn_any}
use Rattle.wst_clients.proofs.visiting.next_turn.Goals as goal

pub loop-left-init : goal.loop-left-init
loop-left-init g c = record {
  passed = passed_none met_clients c.args.round.rules.now c.args.round.standing.now
      (watched g.F.Write.contents c.args.faults.now c.args.faults.now)
      (Keeps-refl (g.F.Write.contents (inner_of c.args.faults.now)));
  are = c.requires.are;
  held = c.requires.held;
  still = λ failed. failed;
}

pub returns-in-Some-clause-turn : goal.returns-in-Some-clause-turn
returns-in-Some-clause-turn g c = turn_any (λ (why : NoVisit).
    IsWhyNone g.L.Listener.did g.P.Poller.time c.args.round.rules.now why c.turn_of_waiting.new.visitors)
    c.args.round.rules.now c.args.round.standing.now c.in-Some.turn
    (subst (λ (o : Option Turn). IfSome o (IsTurn (λ (why : NoVisit). ⊥) c.args.round.rules.now
    c.args.round.standing.now)) c.in-Some.is c.in_ok-turn.ensures.turn)

pub returns-in_err-why-clause-passed : goal.returns-in_err-why-clause-passed
returns-in_err-why-clause-passed g c =
    let at = c.loop-left in
    passed_then met_clients c.args.round.rules.now c.args.round.standing.now (has_failed at.faults)
    (has_failed c.meet_next.new.faults) (g.F.Write.contents (inner_of c.args.faults.now))
    (g.F.Write.contents (inner_of at.faults)) (g.F.Write.contents (inner_of c.meet_next.new.faults))
    at.invariant.passed c.in_err-why.ensures.still c.in_err-why.ensures.passed

pub returns-in-Some-2-clause-turn : goal.returns-in-Some-2-clause-turn
returns-in-Some-2-clause-turn g c = subst (λ (o : Option NoVisit). IfSome o (λ (why : NoVisit).
    IsWhyNone g.L.Listener.did g.P.Poller.time c.args.round.rules.now why c.meet_next.new.visitors)) c.in-Some-2.is
    c.in_ok-why.ensures.none

pub returns-in-Some-2-clause-passed : goal.returns-in-Some-2-clause-passed
returns-in-Some-2-clause-passed g c =
    let at = c.loop-left in
    passed_then met_clients c.args.round.rules.now c.args.round.standing.now (has_failed at.faults)
    (has_failed c.meet_next.new.faults) (g.F.Write.contents (inner_of c.args.faults.now))
    (g.F.Write.contents (inner_of at.faults)) (g.F.Write.contents (inner_of c.meet_next.new.faults))
    at.invariant.passed c.in_ok-why.ensures.still c.in_ok-why.ensures.passed

pub loop-left-preserved : goal.loop-left-preserved
loop-left-preserved g c =
    let at = c.loop-left in
    record {
      passed = passed_then met_clients c.args.round.rules.now c.args.round.standing.now (has_failed at.faults)
          (has_failed c.meet_next.new.faults) (g.F.Write.contents (inner_of c.args.faults.now))
          (g.F.Write.contents (inner_of at.faults)) (g.F.Write.contents (inner_of c.meet_next.new.faults))
          at.invariant.passed c.in_ok-why.ensures.still c.in_ok-why.ensures.passed;
      are = c.in_ok-why.ensures.are;
      held = c.in_ok-why.ensures.held;
      still = λ failed. c.in_ok-why.ensures.still (at.invariant.still failed);
    }

pub returns-in-Some-clause-asked : goal.returns-in-Some-clause-asked
returns-in-Some-clause-asked g c = subst (λ (o : Option Turn). IfSome o (IsTurnAt g.L.Client.NonBlocking.did
    c.args.round.rules.now c.args.round.standing.now c.turn_of_waiting.new.visitors)) c.in-Some.is
    c.in_ok-turn.ensures.asked
