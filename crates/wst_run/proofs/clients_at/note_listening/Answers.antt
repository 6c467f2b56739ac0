-- The line is told.
use Rattle.std.proofs.Common.{◌≡◌, ◌∙◌, ℕ, List, subst}
use Rattle.std.proofs.KnownBytes.{Keeps-refl}
use Rattle.ws_frame.specs.Devices.{watched}
use Rattle.ws_frame.specs.Watching.{inner_of}
use Rattle.wst_commands.specs.Devices.{Tells}
use Rattle.wst_services.specs.Serve.{listening_line}
use Rattle.wst_run.proofs.clients_at.note_listening.Goals as goal

pub returns-clause-told : goal.returns-clause-told
returns-clause-told g c =
    let held = g.F.Write.contents (inner_of c.tell.new.faults) in
    let line : c.as_slice.result.now ≡ listening_line c.args.address.now =
    c.as_slice.ensures.value ∙ c.in_ok-line.ensures in (
      held,
      subst (λ (l : List ℕ). Tells l (watched g.F.Write.contents c.args.faults.now c.tell.new.faults)) line
          c.tell.ensures.told,
      Keeps-refl held,
    )
