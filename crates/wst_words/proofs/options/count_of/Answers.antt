-- The count is the number of 32 bits that the option's one text gives, and none where it gives none.
use Rattle.std.proofs.Common.{List, ℕ, Result}
use Rattle.std.specs.Str.Parse.{ExplainsUnsignedError, HasUnsignedDigitsIfOk, ParsesUnsigned}
use Rattle.std.specs.declared.num.ParseIntError.{ParseIntError}
use Rattle.clap.proofs.WalkLemmas.{one_text-rows}
use Rattle.clap.specs.Words.{found_of, rows_of}
use Rattle.wst_words.proofs.WordLemmas.{number_given}
use Rattle.wst_words.proofs.options.count_of.Goals as goal

-- what reading a text as a number gives
abbrev Gives : List ℕ → Result ℕ ParseIntError → Type 0
Gives text r = ParsesUnsigned 32 10 text r × ExplainsUnsignedError 10 text r × HasUnsignedDigitsIfOk text r

pub returns : goal.returns
returns c =
    let found = found_of c.args.options.now in
    number_given 32 Gives (λ text r h. h.0) (rows_of found) c.args.name.now _ c.get_one.result (one_text-rows found c.args.name.now) c.get_one.ensures.none c.get_one.ensures.value
