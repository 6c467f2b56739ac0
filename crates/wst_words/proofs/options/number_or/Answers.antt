-- Where the option was met its number is read, and else there is the other one.
use Rattle.std.proofs.Common.{refl, inr}
use Rattle.clap.specs.Words.{found_of, rows_of}
use Rattle.wst_words.proofs.WordLemmas.{number_or_given}
use Rattle.wst_words.proofs.options.number_or.Goals as goal

pub returns-in-None : goal.returns-in-None
returns-in-None c = inr (c.in-None.ensures, refl)

pub returns-in-Some : goal.returns-in-Some
returns-in-Some c =
    number_or_given (rows_of (found_of c.args.options.now)) c.args.name.now c.args.other c.in-Some.field-0.now
    c.number_of.result c.in-Some.ensures c.number_of.ensures
