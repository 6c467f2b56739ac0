-- Commands: rows of a table, and clap's data of each.
use Rattle.std.specs.Prelude.{List, [], ◌∷◌}
use Rattle.clap.specs.Words.{App, Shape, Text, new_app, with_rule, with_subcommand}
use Rattle.wst_words.specs.Arguments.{ArgumentRow, argument_rule}
use Rattle.wst_words.specs.declared.arguments.NameParsers.{NameParsers}

-- a command: its name and its arguments
pub record CommandRow : Type 0 where
  pub name : Text
  pub arguments : List ArgumentRow

-- ---- clap's data

-- a command with these arguments besides
abbrev pub with_arguments : NameParsers → App → List ArgumentRow → App
with_arguments names app [] = app
with_arguments names app (row ∷ rows) = with_arguments names (with_rule app (argument_rule names row)) rows

-- the command
abbrev pub command_shape : NameParsers → CommandRow → Shape
command_shape names row = (with_arguments names (new_app row.name) row.arguments).top

-- a command with these commands below it besides
abbrev pub with_commands : NameParsers → App → List CommandRow → App
with_commands names app [] = app
with_commands names app (row ∷ rows) = with_commands names (with_subcommand app (command_shape names row)) rows
