-- The flag is what the option's one text gives, and none where it gives none.
use Rattle.clap.proofs.WalkLemmas.{one_text-rows}
use Rattle.clap.specs.Words.{found_of, rows_of}
use Rattle.wst_words.proofs.WordLemmas.{flag_given}
use Rattle.wst_words.proofs.options.flag_of.Goals as goal

pub returns : goal.returns
returns c =
    let found = found_of c.args.options.now in
    flag_given _ (rows_of found) c.args.name.now _ c.get_one.result (one_text-rows found c.args.name.now) c.get_one.ensures.none c.get_one.ensures.value
