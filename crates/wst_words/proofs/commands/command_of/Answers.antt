-- The texts of help leave the shape of a command.
use Rattle.std.proofs.Common.{◌≡◌, ◌∙◌, ap}
use Rattle.clap.specs.Words.{App, app_of, new_app}
use Rattle.clap.specs.Simple.{app_of_fields}
use Rattle.wst_words.specs.Commands.{with_arguments}
use Rattle.wst_words.specs.Words.{row_of}
use Rattle.wst_words.proofs.commands.command_of.Goals as goal

pub returns-clause-shape : goal.returns-clause-shape
returns-clause-shape c =
    let row = row_of c.args.name in
    let texts : app_of c.after_help-named.result ≡ new_app c.name_of.result.now =
    ap app_of_fields c.after_help-named.ensures ∙ ap app_of_fields c.about.ensures ∙ c.new.ensures.app in
    let named : app_of c.with_usage-bare.result ≡ new_app row.name =
    c.with_usage-bare.ensures.app ∙ texts ∙ ap new_app c.name_of.ensures in
    ap (λ (a : App). a.top)
    (c.in_ok-command.ensures.app ∙ (λ i. with_arguments c.args.names (named i) (c.arguments_of.ensures i)))
