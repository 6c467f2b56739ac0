-- Each argument is put on behind those before it.
use Rattle.std.proofs.Common.{◌≡◌, drop, false, map}
use Rattle.clap.specs.Words.{app_of}
use Rattle.clap.specs.declared.builder.command.Command.TheViews.{out-Command as fields_of}
use Rattle.wst_words.specs.Commands.{with_arguments}
use Rattle.wst_words.specs.Arguments.{argument_row}
use Rattle.wst_words.proofs.commands.with_arguments.Given as goal

-- what is still to be put on leads from the command so far to the same as all of it from the bare command
abbrev pub invariant-loop-argument : goal.invariant-loop-argument
invariant-loop-argument l = record {
  app : with_arguments l.names (app_of l.command) (map argument_row (drop l.argument-index l.arguments))
      ≡ with_arguments l.names (app_of l.initial.command) (map argument_row l.arguments);
  local : (fields_of l.command).has_globals ≡ false;
}
