-- The task `test` has what its words give; where a word has no value there is none.
use Rattle.std.proofs.Common.{rules, codes, refl}
use Rattle.clap.specs.Words.{found_of, rows_of}
use Rattle.wst_words.specs.Options.{LacksOneOf}
use Rattle.wst_words.specs.Test.{test_command}
use Rattle.wst_words.proofs.OtherTasks.{no_test}
use Rattle.wst_words.proofs.words.test_task.Goals as goal

pub returns-in-None : goal.returns-in-None
returns-in-None c =
    let nothing : LacksOneOf (rows_of (found_of c.args.options.now)) test_command.arguments = search rules in
    no_test (codes "test") (rows_of (found_of c.args.options.now)) refl nothing
