-- What the machine was told is what the connection did, call by call.
use Rattle.std.proofs.Common.{[], map, refl}
use Rattle.std.specs.Borrow.{Bor}
use Rattle.std.specs.Prelude.{List, ℕ}
use Rattle.ws_connection.proofs.AdmittingLemmas.{admits_so}
use Rattle.ws_connection.proofs.admitting.admit.Goals as goal

pub run_machine-requires-clause-running : goal.run_machine-requires-clause-running
run_machine-requires-clause-running g c = (c.new-machine.result, [], c.new-machine.ensures.told)

pub returns : goal.returns
returns g c =
    let known : List (List ℕ) = map (λ (name : Bor (List ℕ)). name.now) c.args.known.now in
    let start = c.new-machine.result in
    let runs = c.in_ok-run_machine.ensures.told in
    admits_so known start c.args.connection.now c.run_machine.new.stream c.in_ok-admission.admission runs.more
    c.new-machine.ensures.known c.requires.new (runs.done c.args.connection.now [] refl)
    (c.in_ok-admission.ensures start runs.more (runs.told start [] c.new-machine.ensures.told))
