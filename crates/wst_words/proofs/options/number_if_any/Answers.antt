-- Where the option was met it gives no number, and it was not left out.
use Rattle.std.proofs.Common.{None}
use Rattle.clap.specs.Words.{found_of, rows_of}
use Rattle.wst_words.proofs.WordLemmas.{number_or_given}
use Rattle.wst_words.proofs.options.number_if_any.Goals as goal

pub returns-in-None-number_of : goal.returns-in-None-number_of
returns-in-None-number_of c =
    number_or_given (rows_of (found_of c.args.options.now)) c.args.name.now 0 c.in-Some.field-0.now None
    c.in-Some.ensures c.in-None-number_of.ensures
