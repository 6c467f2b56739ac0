-- Where the word of the field names no form, no field stands first.
use Rattle.std.proofs.Common.{◌≡◌, None, codes}
use Rattle.ws_wire.specs.declared.header.Form.{Form}
use Rattle.ws_wire.specs.Header.{form_word}
use Rattle.ws_scripts.specs.ScriptLines.{IsFormValue}
use Rattle.ws_scripts.proofs.ScriptFields.{form_bare, form_named}
use Rattle.ws_scripts.proofs.ScriptWords.{cut_value, no_cut}
use Rattle.ws_scripts.proofs.script_text.fields.read_form.Goals as goal

pub returns-in_err-form : goal.returns-in_err-form
returns-in_err-form c =
    no_cut (λ (form : Form). c.in-Some.word.now ≡ form_word form) _ c.from_residual.result c.from_residual.ensures
    c.in_err-form.ensures
    (λ value rest cut.
    form_named value c.in-Some.word.now
    (cut_value (codes " form=") None IsFormValue form_bare c.in-Some.word.now c.in-Some.rest.now c.args.text.now
    c.in-Some.ensures value rest cut).0)
