-- Where the word of the field tells no value, no field stands first.
use Rattle.std.proofs.Common.{Bool, true, codes}
use Rattle.ws_scripts.specs.ScriptLines.{IsFinWord}
use Rattle.ws_scripts.proofs.ScriptFields.{fin_bare}
use Rattle.ws_scripts.proofs.ScriptWords.{cut_value, no_cut}
use Rattle.ws_scripts.proofs.script_text.fields.read_fin.Goals as goal

pub returns-in_err-fin : goal.returns-in_err-fin
returns-in_err-fin c =
    no_cut (λ (value : Bool). IsFinWord value c.in-Some.word.now) _ c.from_residual.result c.from_residual.ensures
    c.in_err-fin.ensures
    (λ value rest cut. (
      value,
      (cut_value (codes " fin=") true IsFinWord fin_bare c.in-Some.word.now c.in-Some.rest.now c.args.text.now
          c.in-Some.ensures value rest cut).0,
    ))
