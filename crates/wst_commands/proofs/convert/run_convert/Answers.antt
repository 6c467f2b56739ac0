-- What is planned is carried out, and nothing where the words are wrong.
use Rattle.std.proofs.Common.{Result, subst}
use Rattle.ws_frame.specs.Devices.{watched}
use Rattle.wst_commands.specs.Convert.{CarriesOutConvert}
use Rattle.wst_commands.specs.declared.convert.ConvertPlan.{ConvertPlan}
use Rattle.wst_commands.specs.declared.fault.Fault.{Fault}
use Rattle.wst_commands.proofs.convert.run_convert.Goals as goal

pub returns-in-Ok : goal.returns-in-Ok
returns-in-Ok g c =
    let input = watched g.R.Read.remaining c.args.reader.now c.convert_input.new.reader in
    let output = watched g.W.Write.contents c.args.writer.now c.convert_input.new.writer in
    subst (λ (plan : Result ConvertPlan Fault). CarriesOutConvert plan c.convert_input.result input output)
    c.in-Ok.ensures c.convert_input.ensures
