-- Where the word of the field tells no value, no field stands first.
use Rattle.std.proofs.Common.{ℕ, codes}
use Rattle.ws_scripts.specs.ScriptLines.{IsRsvWord}
use Rattle.ws_scripts.proofs.ScriptFields.{rsv_bare}
use Rattle.ws_scripts.proofs.ScriptWords.{cut_value, no_cut}
use Rattle.ws_scripts.proofs.script_text.fields.read_rsv.Goals as goal

pub returns-in_err-rsv : goal.returns-in_err-rsv
returns-in_err-rsv c =
    no_cut (λ (value : ℕ). IsRsvWord value c.in-Some.word.now) _ c.from_residual.result c.from_residual.ensures
    c.in_err-rsv.ensures
    (λ value rest cut. (
      value,
      (cut_value (codes " rsv=") 0 IsRsvWord rsv_bare c.in-Some.word.now c.in-Some.rest.now c.args.text.now
          c.in-Some.ensures value rest cut).0,
    ))
