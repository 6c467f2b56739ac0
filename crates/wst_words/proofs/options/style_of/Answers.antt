-- Without a word no style is given.
use Rattle.std.proofs.Common.{rules}
use Rattle.clap.specs.Words.{found_of, rows_of}
use Rattle.wst_words.specs.Options.{GivesStyle, GivesNoStyle}
use Rattle.wst_words.proofs.WordLemmas.{no_style_given, none_from}
use Rattle.wst_words.proofs.options.style_of.Goals as goal

pub returns-in_err-word : goal.returns-in_err-word
returns-in_err-word c =
    let rows = rows_of (found_of c.args.options.now) in
    let name = c.args.name.now in
    none_from c.from_residual.result (GivesNoStyle rows name) (GivesStyle rows name) (search rules)
    (no_style_given rows name c.in_err-word.ensures)
