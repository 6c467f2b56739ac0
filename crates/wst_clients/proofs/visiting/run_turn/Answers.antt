-- The case that is asked for is there, its name is told, and it is run over its client.
use Rattle.std.proofs.Common.{◌∙◌, subst, sym}
use Rattle.std.proofs.KnownBytes.{Keeps-refl}
use Rattle.std.proofs.lemmas.Option.{none-some}
use Rattle.ws_frame.specs.Devices.{watched}
use Rattle.ws_frame.specs.Watching.{has_failed, inner_of}
use Rattle.wst_clients.specs.Turns.{met_clients}
use Rattle.wst_clients.specs.Visits.{BreaksTurn}
use Rattle.wst_clients.proofs.HeldLemmas.{over_there, played_to}
use Rattle.wst_clients.proofs.TurnLemmas.{broken_in, broken_none, on_err, passed_none, turn_runs}
use Rattle.wst_clients.proofs.visiting.run_turn.Goals as goal

pub returns-in_err-tell_progress-in-Some-clause-lacks : goal.returns-in_err-tell_progress-in-Some-clause-lacks
returns-in_err-tell_progress-in-Some-clause-lacks g c =
    let first = c.args.faults.now in
    on_err c.from_residual.result _ (subst (λ f. BreaksTurn met_clients c.args.round.rules.now
    c.args.round.standing.now (watched g.F.Write.contents first f)) (sym c.in_err-tell_progress-in-Some.ensures.kept)
    (broken_none met_clients c.args.round.rules.now c.args.round.standing.now (watched g.F.Write.contents first first)
    (Keeps-refl (g.F.Write.contents (inner_of first)))))

pub returns-in_err-tester-in-Some-clause-lacks : goal.returns-in_err-tester-in-Some-clause-lacks
returns-in_err-tester-in-Some-clause-lacks g c =
    let told = c.tell_progress.new.faults in
    on_err c.from_residual-in_err-tester-in-Some.result _
    (broken_in met_clients c.args.round.rules.now c.args.round.standing.now c.in-Some.case.now (has_failed told)
    (has_failed told) (g.F.Write.contents (inner_of c.args.faults.now)) (g.F.Write.contents (inner_of told))
    (g.F.Write.contents (inner_of told)) c.in_ok-tell_progress-in-Some.ensures.told (λ failed. failed)
    (passed_none met_clients c.args.round.rules.now c.args.round.standing.now (watched g.F.Write.contents told told)
    (Keeps-refl (g.F.Write.contents (inner_of told)))))

pub returns-in_err-transcript-in-Some-clause-lacks : goal.returns-in_err-transcript-in-Some-clause-lacks
returns-in_err-transcript-in-Some-clause-lacks g c =
    let told = c.tell_progress.new.faults in
    let last = c.run_at.new.faults in
    on_err c.from_residual-in_err-transcript-in-Some.result _
    (broken_in met_clients c.args.round.rules.now c.args.round.standing.now c.in-Some.case.now (has_failed told)
    (has_failed last) (g.F.Write.contents (inner_of c.args.faults.now)) (g.F.Write.contents (inner_of told))
    (g.F.Write.contents (inner_of last)) c.in_ok-tell_progress-in-Some.ensures.told
    c.in_err-transcript-in-Some.ensures.still c.in_err-transcript-in-Some.ensures.passed)

pub unreachable-unreachable : goal.unreachable-unreachable
unreachable-unreachable g c =
    let (case, is) = c.requires.asks in none-some case (sym c.in-None.ensures ∙ is)

pub returns-clause-runs : goal.returns-clause-runs
returns-clause-runs g c =
    let told = c.tell_progress.new.faults in
    let last = c.run_at.new.faults in
    turn_runs c.args.round.rules.now c.args.round.standing.now c.args.purpose c.args.behind.items
    c.in_ok-transcript-in-Some.transcript c.in-Some.case.now c.in_ok-tester-in-Some.tester.run (has_failed told)
    (has_failed last) (g.F.Write.contents (inner_of c.args.faults.now)) (g.F.Write.contents (inner_of told))
    (g.F.Write.contents (inner_of last)) c.in-Some.ensures.0 c.in_ok-tell_progress-in-Some.ensures.told
    c.in_ok-transcript-in-Some.ensures.still c.in_ok-tester-in-Some.ensures.begins
    (over_there g.L.Client.NonBlocking.did c.args.visitors.now.clients.held c.args.at
    c.in_ok-tester-in-Some.tester.run c.in_ok-transcript-in-Some.transcript
    c.in_ok-transcript-in-Some.ensures.runs) c.in_ok-transcript-in-Some.ensures.passed

pub returns-clause-played : goal.returns-clause-played
returns-clause-played g c = played_to g.L.Client.NonBlocking.did c.args.round.rules.now c.args.round.standing.now
    c.args.at c.args.purpose c.args.behind.items c.args.visitors.now c.in_ok-transcript-in-Some.transcript
    c.in-Some.case.now c.in_ok-tester-in-Some.tester.run c.requires.are.is_known c.requires.turn c.in-Some.ensures.0
    c.in_ok-tester-in-Some.ensures.begins c.in_ok-transcript-in-Some.ensures.runs

pub returns-clause-queue : goal.returns-clause-queue
returns-clause-queue g c = c.in_ok-transcript-in-Some.ensures.queue
