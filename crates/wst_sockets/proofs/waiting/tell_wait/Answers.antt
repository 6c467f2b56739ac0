-- The line of the wait is told.
use Rattle.std.proofs.Common.{◌≡◌, ℕ, List, rules, subst, sym}
use Rattle.ws_frame.specs.Devices.{watched}
use Rattle.wst_commands.specs.Devices.{Tells}
use Rattle.wst_sockets.specs.Waiting.{TellsWait, wait_line}
use Rattle.wst_sockets.specs.declared.waiting.Notice.{Notice}
use Rattle.wst_sockets.proofs.waiting.tell_wait.Goals as goal

pub returns-in_ok-line-in-Pending-clause-told : goal.returns-in_ok-line-in-Pending-clause-told
returns-in_ok-line-in-Pending-clause-told g c =
    let output = watched g.F.Write.contents c.args.output.now c.tell.new.faults in
    let text : c.as_bytes.result.now ≡ wait_line c.args.name.now = search rules in
    subst (λ (notice : Notice). TellsWait notice c.args.name.now output) (sym c.in-Pending.is)
    (subst (λ (line : List ℕ). Tells line output) text c.tell.ensures.told)
