-- The command `session`: its arguments, and what they give.
use Rattle.std.specs.Prelude.{List, [], ◌∷◌, codes}
use Rattle.clap.specs.Words.{Row}
use Rattle.wst_words.specs.Arguments.{argument, argument_or}
use Rattle.wst_words.specs.Commands.{CommandRow}
use Rattle.wst_words.specs.declared.arguments.ArgumentKind.TheVariants.{End, Flag, Number}
use Rattle.wst_words.specs.Options.{GivesEnd, GivesFlag, GivesNumber, GivesNumberOr}
use Rattle.wst_words.specs.declared.session.SessionOptions.{SessionOptions}

-- its arguments
abbrev pub session_command : CommandRow
session_command = record {
  name = codes "session";
  arguments = argument_or (codes "role") End (codes "server")
      ∷ argument_or (codes "limit") Number (codes "1048576")
      ∷ argument (codes "frame") Number
      ∷ argument (codes "echo") Flag ∷ [];
}

-- the options give these; a limit on frames that is left out is that on messages
abbrev pub AsksForSession : List Row → SessionOptions → Type 0
AsksForSession rows options = GivesEnd rows (codes "role") options.role
    × GivesNumber rows (codes "limit") options.limit
    × GivesNumberOr options.limit rows (codes "frame") options.frame × GivesFlag rows (codes "echo") options.echo
