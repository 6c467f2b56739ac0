-- The input was read whole.
use Rattle.std.proofs.Common.{ℕ, List, inl, subst}
use Rattle.ws_frame.specs.Devices.{watched}
use Rattle.wst_run.specs.Send.{SendsText}
use Rattle.wst_run.proofs.send.send_input.Goals as goal

pub returns-in-Ok-clause-sends : goal.returns-in-Ok-clause-sends
returns-in-Ok-clause-sends g c =
    let output = watched g.W.Write.contents c.args.writer.now c.send_text.new.writer in
    let faults = watched g.F.Write.contents c.args.faults.now c.send_text.new.faults in
    inl (
      c.in-Ok.text.items,
      c.in-Ok.ensures,
      subst (λ (l : List ℕ). SendsText c.args.plan.now l c.send_text.result output faults) c.as_slice.ensures.value
          c.send_text.ensures.sends,
    )
