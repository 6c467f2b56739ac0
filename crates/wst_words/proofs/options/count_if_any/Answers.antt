-- Where the word was met it gives no count, and it was not left out.
use Rattle.clap.specs.Words.{found_of, rows_of}
use Rattle.wst_words.proofs.WordLemmas.{no_count_if_any}
use Rattle.wst_words.proofs.options.count_if_any.Goals as goal

pub returns-in-None-count_of : goal.returns-in-None-count_of
returns-in-None-count_of c =
    no_count_if_any (rows_of (found_of c.args.options.now)) c.args.name.now c.in-Some.field-0.now c.in-Some.ensures
    c.in-None-count_of.ensures
