-- The first value by `clap` is that of the rows.
use Rattle.std.proofs.Common.{◌∙◌, sym}
use Rattle.clap.proofs.WalkLemmas.{first_value-rows}
use Rattle.clap.specs.Words.{found_of}
use Rattle.wst_words.proofs.options.word_of.Goals as goal

pub returns : goal.returns
returns c = sym (first_value-rows (found_of c.args.options.now) c.args.name.now) ∙ sym c.get_str.ensures
