-- What came of the turn is written.
use Rattle.std.proofs.Common.{IsErrAnd, inl, rules, subst, ◌≡◌}
use Rattle.std.proofs.KnownBytes.{Keeps-refl}
use Rattle.ws_frame.specs.Devices.{watched}
use Rattle.ws_frame.specs.Watching.{inner_of}
use Rattle.ws_paths.specs.Standings.{StandingValue}
use Rattle.wst_commands.specs.declared.fault.Fault.TheVariants.{NoMemory}
use Rattle.wst_clients.specs.ClientCaptures.{first_standing}
use Rattle.wst_clients.specs.Turns.{TakesNext}
use Rattle.wst_clients.specs.Visits.{AreFailing, BreaksTurn, Met, Unmet, unmet_by}
use Rattle.wst_clients.proofs.CaptureLemmas.{captured, captured_broken, kept_untouched}
use Rattle.wst_clients.proofs.ClientLemmas.{fault_stops, lacks_visits}
use Rattle.wst_clients.proofs.TurnLemmas.{broken_none}
use Rattle.wst_clients.proofs.capturing_client.capture_client.Goals as goal

pub returns-in_err-standing-clause-captures : goal.returns-in_err-standing-clause-captures
returns-in_err-standing-clause-captures g c =
    let m : Met = record { visits = g.C.TestedClients.visits; passes = g.C.TestedClients.passes } in
    let u : Unmet = unmet_by g.C.TestedClients.none g.C.TestedClients.fails in
    let given = c.args.rules.now in
    let output = watched g.W.Write.contents c.args.writer.now c.args.writer.now in
    let faults = watched g.F.Write.contents c.args.faults.now c.args.faults.now in
    let lacks : IsErrAnd c.from_residual.result (λ fault. fault ≡ NoMemory) = search rules in
    captured_broken m u given c.args.case.now output faults c.from_residual.result
    (lacks_visits u.fails c.from_residual.result lacks)
    (broken_none m given (first_standing given) faults (Keeps-refl (g.F.Write.contents (inner_of c.args.faults.now))))
    (Keeps-refl (g.W.Write.contents (inner_of c.args.writer.now)))

pub returns-in-Ok-clause-captures : goal.returns-in-Ok-clause-captures
returns-in-Ok-clause-captures g c =
    let m : Met = record { visits = g.C.TestedClients.visits; passes = g.C.TestedClients.passes } in
    let u : Unmet = unmet_by g.C.TestedClients.none g.C.TestedClients.fails in
    let given = c.args.rules.now in
    let output = watched g.W.Write.contents c.args.writer.now c.tell_taken-told.new.writer in
    let faults = watched g.F.Write.contents c.args.faults.now c.next_visit.new.faults in
    let taken = subst (λ (s : StandingValue). TakesNext m u given s c.in-Ok.taken faults) c.in_ok-standing.ensures.none
    c.in-Ok.ensures.visits in
    captured m u given c.args.case.now output faults c.in-Ok.taken c.tell_taken-told.result
    (c.tell_taken-told.new.writer ≡ c.args.writer.now) taken
    (kept_untouched g.W.Write.contents c.args.writer.now c.tell_taken-told.new.writer) c.tell_taken-told.ensures

pub returns-clause-captures : goal.returns-clause-captures
returns-clause-captures g c =
    let m : Met = record { visits = g.C.TestedClients.visits; passes = g.C.TestedClients.passes } in
    let u : Unmet = unmet_by g.C.TestedClients.none g.C.TestedClients.fails in
    let given = c.args.rules.now in
    let faults = watched g.F.Write.contents c.args.faults.now c.next_visit.new.faults in (
      fault_stops (AreFailing g.C.TestedClients.fails) (g.C.TestedClients.fails c.next_visit.new.self) c.in-Err.why
          c.fault_of.result (λ fails. (c.next_visit.new.self, fails)) c.fault_of.ensures c.in-Err.ensures.stops,
      Keeps-refl (g.W.Write.contents (inner_of c.args.writer.now)),
      inl (subst (λ (s : StandingValue). BreaksTurn m given s faults) c.in_ok-standing.ensures.none
          c.in-Err.ensures.lacks),
    )
