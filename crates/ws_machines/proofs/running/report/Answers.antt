-- The lines that were reported are those that were wanted.
use Rattle.std.proofs.Common.{List, ℕ, ap, sym}
use Rattle.ws_machines.specs.Told.Told.{Reported}
use Rattle.ws_machines.proofs.RunLemmas.{one_told}
use Rattle.ws_machines.proofs.running.report.Goals as goal

pub returns-clause-served : goal.returns-clause-served
returns-clause-served g c = one_told g.M.Machine.agrees g.S.Stream.did g.M.Machine.wants c.args.machine.now
    c.on_event.new.self c.args.stream.now c.report.new.self (Reported (g.M.Machine.wants c.args.machine.now).report)
    (Reported c.to_report.result.now) (ap (λ (l : List ℕ). Reported l) (sym c.to_report.ensures))
    c.in_ok-on_event.ensures.told c.in_ok-report.ensures tt
