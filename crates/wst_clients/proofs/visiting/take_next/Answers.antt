-- The turn is that of who asked for it, behind those who passed by before.
use Rattle.std.proofs.Common.{subst}
use Rattle.ws_frame.specs.Devices.{watched}
use Rattle.ws_frame.specs.Watching.{has_failed, inner_of}
use Rattle.wst_clients.specs.Turns.{IsTurn, IsTurnAt, IsWhyNone, met_clients}
use Rattle.wst_clients.specs.declared.visiting.NoVisit.{NoVisit}
use Rattle.wst_clients.specs.declared.visiting.Turn.{Turn}
use Rattle.wst_clients.proofs.TurnLemmas.{broken_before, broken_behind, on_err, turn_over, turn_ran}
use Rattle.wst_clients.proofs.visiting.take_next.Goals as goal

pub returns-in_err-at-clause-lacks : goal.returns-in_err-at-clause-lacks
returns-in_err-at-clause-lacks g c = on_err c.from_residual.result _
    (broken_before met_clients c.args.round.rules.now c.args.round.standing.now
    (watched g.F.Write.contents c.args.faults.now c.next_turn.new.faults) c.in_err-at.ensures.passed)

pub returns-in_err-transcript-in-Case-clause-lacks : goal.returns-in_err-transcript-in-Case-clause-lacks
returns-in_err-transcript-in-Case-clause-lacks g c = on_err c.from_residual-in_err-transcript-in-Case.result _
    (broken_behind met_clients c.args.round.rules.now
    c.args.round.standing.now (has_failed c.next_turn.new.faults) (has_failed c.run_turn.new.faults)
    (g.F.Write.contents (inner_of c.args.faults.now)) (g.F.Write.contents (inner_of c.next_turn.new.faults))
    (g.F.Write.contents (inner_of c.run_turn.new.faults)) c.in_ok-at.ensures.passed
    c.in_err-transcript-in-Case.ensures.still c.in_err-transcript-in-Case.ensures.lacks)

pub returns-in_ok-transcript-in-Case-clause-visits : goal.returns-in_ok-transcript-in-Case-clause-visits
returns-in_ok-transcript-in-Case-clause-visits g c =
    let (request, asked, behind, within, asks) = subst (λ (t : Turn). IsTurn (λ (why : NoVisit).
    IsWhyNone g.L.Listener.did g.P.Poller.time c.args.round.rules.now why c.next_turn.new.visitors)
    c.args.round.rules.now c.args.round.standing.now t) c.in-Case.is c.in_ok-at.ensures.turn in
    turn_ran c.args.round.rules.now c.args.round.standing.now request c.in-Case.purpose c.in-Case.behind.items
    c.in_ok-transcript-in-Case.transcript (has_failed c.next_turn.new.faults) (has_failed c.run_turn.new.faults)
    (g.F.Write.contents (inner_of c.args.faults.now)) (g.F.Write.contents (inner_of c.next_turn.new.faults))
    (g.F.Write.contents (inner_of c.run_turn.new.faults)) asked behind c.in_ok-at.ensures.passed
    c.in_ok-transcript-in-Case.ensures.still c.in_ok-transcript-in-Case.ensures.runs

pub returns-in_ok-transcript-in-Case-clause-inside : goal.returns-in_ok-transcript-in-Case-clause-inside
returns-in_ok-transcript-in-Case-clause-inside g c =
    let (request, asked, behind, within, asks) = subst (λ (t : Turn). IsTurn (λ (why : NoVisit).
    IsWhyNone g.L.Listener.did g.P.Poller.time c.args.round.rules.now why c.next_turn.new.visitors)
    c.args.round.rules.now c.args.round.standing.now t) c.in-Case.is c.in_ok-at.ensures.turn in within

pub returns-in-Over-clause-visits : goal.returns-in-Over-clause-visits
returns-in-Over-clause-visits g c = turn_over c.args.round.rules.now c.args.round.standing.now
    (watched g.F.Write.contents c.args.faults.now c.next_turn.new.faults)
    (subst (λ (t : Turn). IsTurn (λ (why : NoVisit).
    IsWhyNone g.L.Listener.did g.P.Poller.time c.args.round.rules.now why c.next_turn.new.visitors)
    c.args.round.rules.now c.args.round.standing.now t) c.in-Over.is c.in_ok-at.ensures.turn)
    c.in_ok-at.ensures.passed

pub returns-in-None-clause-visits : goal.returns-in-None-clause-visits
returns-in-None-clause-visits g c = (
  (
    c.next_turn.new.visitors,
    subst (λ (t : Turn). IsTurn (λ (why : NoVisit).
        IsWhyNone g.L.Listener.did g.P.Poller.time c.args.round.rules.now why c.next_turn.new.visitors)
        c.args.round.rules.now c.args.round.standing.now t) c.in-None.is c.in_ok-at.ensures.turn,
  ),
  c.in_ok-at.ensures.passed,
)

pub returns-in-None-clause-none : goal.returns-in-None-clause-none
returns-in-None-clause-none g c = subst (λ (t : Turn). IsTurn (λ (why : NoVisit).
    IsWhyNone g.L.Listener.did g.P.Poller.time c.args.round.rules.now why c.next_turn.new.visitors)
    c.args.round.rules.now c.args.round.standing.now t) c.in-None.is c.in_ok-at.ensures.turn

pub run_turn-requires-clause-turn : goal.run_turn-requires-clause-turn
run_turn-requires-clause-turn g c = subst (λ (t : Turn). IsTurnAt g.L.Client.NonBlocking.did c.args.round.rules.now
    c.args.round.standing.now c.next_turn.new.visitors t) c.in-Case.is c.in_ok-at.ensures.asked
