-- What was taken of the bytes is what the machine is told.
use Rattle.std.proofs.Common.{List, ℕ, ◌∙◌, ap, sym, length}
use Rattle.ws_machines.specs.Told.{told_by_write}
use Rattle.ws_machines.specs.Machines.{told_at}
use Rattle.ws_machines.specs.declared.stream.StreamEvent.{StreamEvent}
use Rattle.ws_machines.proofs.RunLemmas.{one_told, write_in_order, write_may_be_told, write_told}
use Rattle.ws_machines.proofs.running.write.Goals as goal

pub on_event-requires : goal.on_event-requires
on_event-requires g c =
    let wants = g.M.Machine.wants c.args.machine.now in
    rw c.event.ensures (write_may_be_told wants (length c.to_write.result.now) c.write-outcome.result
    (ap (λ (l : List ℕ). length l) c.to_write.ensures) c.requires.undone c.requires.wanted c.write-outcome.ensures.fits)

pub returns-clause-served : goal.returns-clause-served
returns-clause-served g c =
    let wants = g.M.Machine.wants c.args.machine.now in
    one_told g.M.Machine.agrees g.S.Stream.did g.M.Machine.wants c.args.machine.now c.on_event.new.self
    c.args.stream.now c.write-outcome.new.self (told_at wants c.event.result)
    (told_by_write c.to_write.result.now c.write-outcome.result)
    (ap (λ (x : StreamEvent). told_at wants x) c.event.ensures ∙ (write_told wants c.write-outcome.result
    ∙ ap (λ (l : List ℕ). told_by_write l c.write-outcome.result) (sym c.to_write.ensures)))
    c.in_ok-on_event.ensures.told c.write-outcome.ensures.did
    (write_in_order wants c.to_write.result.now c.write-outcome.result c.requires.reported c.requires.ended)
