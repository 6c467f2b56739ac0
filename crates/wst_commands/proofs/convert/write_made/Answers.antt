-- The lines of the capture are what is delivered.
use Rattle.std.proofs.Common.{◌∙◌, List, ℕ, subst}
use Rattle.ws_frame.specs.Devices.{watched}
use Rattle.wst_commands.specs.Devices.{Delivers}
use Rattle.wst_commands.specs.declared.exit.Exit.TheVariants.{Done}
use Rattle.wst_commands.proofs.convert.write_made.Goals as goal

pub returns : goal.returns
returns g c =
    let output = watched g.W.Write.contents c.args.writer.now c.deliver.new.writer in
    subst (λ (bytes : List ℕ). Delivers Done bytes c.deliver.result output)
    (c.as_slice.ensures.value ∙ c.in_ok-text.ensures) c.deliver.ensures
