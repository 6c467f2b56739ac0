-- An input that was read whole is converted as planned.
use Rattle.std.proofs.Common.{ℕ, List, inl, subst}
use Rattle.ws_frame.specs.Devices.{watched}
use Rattle.wst_commands.specs.Convert.{ConvertsAs}
use Rattle.wst_commands.proofs.convert.convert_input.Goals as goal

pub returns-in-Ok : goal.returns-in-Ok
returns-in-Ok g c =
    let output = watched g.W.Write.contents c.args.writer.now c.convert_as.new.writer in
    inl (c.in-Ok.text.items, c.in-Ok.ensures, subst (λ (t : List ℕ). ConvertsAs c.args.plan t c.convert_as.result output) c.as_slice.ensures.value c.convert_as.ensures)
