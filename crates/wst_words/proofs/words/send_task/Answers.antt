-- The task `send` has what its words give; where a word has no value there is none.
use Rattle.std.proofs.Common.{rules, codes, refl}
use Rattle.clap.specs.Words.{found_of, rows_of}
use Rattle.wst_words.specs.Options.{LacksOneOf}
use Rattle.wst_words.specs.Send.{send_command}
use Rattle.wst_words.proofs.OtherTasks.{no_send}
use Rattle.wst_words.proofs.words.send_task.Goals as goal

pub returns-in-None : goal.returns-in-None
returns-in-None c =
    let nothing : LacksOneOf (rows_of (found_of c.args.options.now)) send_command.arguments = search rules in
    no_send (codes "send") (rows_of (found_of c.args.options.now)) refl nothing
