-- Without a word nothing is said of what is expected.
use Rattle.std.proofs.Common.{rules}
use Rattle.clap.specs.Words.{found_of, rows_of}
use Rattle.wst_words.specs.Options.{GivesExpectation, GivesNoExpectation}
use Rattle.wst_words.proofs.WordLemmas.{no_expectation_given, none_from}
use Rattle.wst_words.proofs.options.expectation_of.Goals as goal

pub returns-in_err-word : goal.returns-in_err-word
returns-in_err-word c =
    let rows = rows_of (found_of c.args.options.now) in
    let name = c.args.name.now in
    none_from c.from_residual.result (GivesNoExpectation rows name) (GivesExpectation rows name) (search rules)
    (no_expectation_given rows name c.in_err-word.ensures)
