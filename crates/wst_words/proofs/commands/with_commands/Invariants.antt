-- Each command is put on behind those before it.
use Rattle.std.proofs.Common.{◌≡◌, drop, map}
use Rattle.clap.specs.Words.{app_of}
use Rattle.wst_words.specs.Commands.{with_commands}
use Rattle.wst_words.specs.Words.{row_of}
use Rattle.wst_words.proofs.commands.with_commands.Given as goal

-- what is still to be put on leads from the command so far to the same as all of it from the one above
abbrev pub invariant-loop-name : goal.invariant-loop-name
invariant-loop-name l = with_commands l.names (app_of l.command) (map row_of (drop l.name-index l.commands))
    ≡ with_commands l.names (app_of l.initial.command) (map row_of l.commands)
