-- Where the word of the field tells no key, or no form follows it, no layout stands first.
use Rattle.std.proofs.Common.{List, ℕ, Option}
use Rattle.ws_wire.specs.declared.header.Form.{Form}
use Rattle.ws_scripts.specs.ScriptLines.{IsKeyValue}
use Rattle.ws_scripts.specs.InnerScripting.{CutsForm}
use Rattle.ws_scripts.proofs.ScriptFields.{layout_key}
use Rattle.ws_scripts.proofs.ScriptWords.{no_cut}
use Rattle.ws_scripts.proofs.script_text.fields.read_layout.Goals as goal

pub returns-in_err-key : goal.returns-in_err-key
returns-in_err-key c =
    no_cut (λ (key : Option (List ℕ)). IsKeyValue key c.in-Some.word.now) _ c.from_residual.result
    c.from_residual.ensures c.in_err-key.ensures
    (λ layout rest cut.
    let own = layout_key c.in-Some.word.now c.in-Some.after.now c.args.text.now c.in-Some.ensures layout rest cut in
    (own.0, own.3))

pub returns-in_err-form : goal.returns-in_err-form
returns-in_err-form c =
    no_cut (λ (found : Option Form × List ℕ). CutsForm found.0 found.1 c.in-Some.after.now) _
    c.from_residual-in_err-form.result c.from_residual-in_err-form.ensures
    (λ found cut. c.in_err-form.ensures found.0 found.1 cut)
    (λ layout rest cut.
    let own = layout_key c.in-Some.word.now c.in-Some.after.now c.args.text.now c.in-Some.ensures layout rest cut in
    ((own.1, rest), own.4))
