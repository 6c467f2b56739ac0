-- What is UTF-8 passes std's test for it.
use Rattle.std.proofs.Common.{◌≡◌, ◌∙◌, IsUtf8, false, if◌then◌else◌, rules, sym, true}
use Rattle.std.proofs.lemmas.Bool.{cond-false, cond-true, false_from_ne_true}
use Rattle.std.proofs.lemmas.Str.{IsUtf8-from_is_utf8, is_utf8-from_IsUtf8}
use Rattle.std.specs.Str.{is_utf8}
use Rattle.wst_commands.specs.StepTexts.{has_control}
use Rattle.wst_commands.proofs.step_texts.is_unprintable.Goals as goal

pub returns-in-Ok : goal.returns-in-Ok
returns-in-Ok c =
    let text = c.args.text.now in
    let utf8 : IsUtf8 text = search rules in
    c.has_control.ensures
    ∙ sym (cond-true (is_utf8 text) (has_control text) true (is_utf8-from_IsUtf8 text utf8))

pub returns-in-Err : goal.returns-in-Err
returns-in-Err c =
    let text = c.args.text.now in
    let none : IsUtf8 text → ⊥ = search rules in
    sym (cond-false (is_utf8 text) (has_control text) true
    (false_from_ne_true (is_utf8 text) (λ e. none (IsUtf8-from_is_utf8 text e))))
